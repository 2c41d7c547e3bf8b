use Rattle.std.proofs.Common.{List, [], ◌∷◌, sym, subst}
use Rattle.host_files.specs.fab_io.specs.Outside.{Files}
use Rattle.host_files.specs.host_text.specs.declared.script.TenantLine.{TenantLine}
use Rattle.host_files.specs.host_form.specs.Origins.{Tenant, AreFilesAt, IsSnapshotAt}
use Rattle.host_files.specs.host_form.specs.Reports.{AreRead}
use Rattle.host_files.specs.declared.loaded.Loaded.{Loaded}
use Rattle.host_files.specs.Reading.{AreLoaded}
use Rattle.host_judge.specs.Judged.{judged, AreTenants}
use Rattle.host_judge.proofs.laws.tenants_are_read.Goals as goal

are-read : (told : Files) (lines : List TenantLine) (loaded : List Loaded) (tenants : List Tenant) → AreLoaded told lines loaded → AreTenants lines loaded tenants → AreRead judged told lines tenants
are-read told [] [] [] h k = tt
are-read told [] [] (t ∷ ts) h k = absurd k
are-read told [] (l ∷ ls) ts h k = absurd h
are-read told (line ∷ lines) [] ts h k = absurd h
are-read told (line ∷ lines) (l ∷ ls) [] h k = absurd k
are-read told (line ∷ lines) (l ∷ ls) (t ∷ ts) h k = (
  record {
    text = l.source.items;
    is = k.0.is;
    there = h.0.source;
    source = k.0.source;
    files = subst (λ files. AreFilesAt told line.files files) (sym k.0.files) h.0.files;
    snapshot = subst (λ bytes. IsSnapshotAt told line.resume bytes) (sym k.0.snapshot) h.0.snapshot;
  },
  are-read told lines ls ts h.1 k.1,
)

pub returns : goal.returns
returns c = are-read
