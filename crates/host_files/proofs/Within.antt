-- All that was read is within its limits.
use Rattle.std.proofs.Common.{◌≡◌, ◌≤◌, ◌<◌, ℕ, ◌+◌, ◌-◌, List, [], ◌∷◌, ◌++◌, take, length, sym, ap, ◌∙◌, subst, arith}
use Rattle.std.specs.Prelude.{Option, Some, None, IfSome, get_or, min, flat_map, unwrap_or, slice_get}
use Rattle.std.specs.List.{AllByRecursion}
use Rattle.std.proofs.lemmas.Grind.{flat_map-append}
use Rattle.std.proofs.lemmas.List.{append-nil, take_more}
use Rattle.std.proofs.lemmas.List.Sums.{sum_by-append}
use Rattle.std.proofs.lemmas.Option.{slice_get_within, get_or_from_slice_get}
use Rattle.host_form.specs.fab_io.specs.Outside.{Files, IsTold}
use Rattle.host_form.specs.host_text.specs.declared.script.FileLine.{FileLine}
use Rattle.host_form.specs.host_text.specs.declared.script.TenantLine.{TenantLine}
use Rattle.host_form.specs.host_text.specs.declared.script.Script.{Script}
use Rattle.host_files.specs.Reading.{IsAsked, IsAvailable, bytes_of, most_file, most_files, most_source}
use Rattle.host_files.specs.Reading as asked
use Rattle.host_files.specs.Steps.{IsWithin, AreWithin, IsSnapshotWithin, IsTenantWithin}
use Rattle.host_files.proofs.Lists.{at-place, push-each, each-of-one, each-of-both}

-- ---- files

-- the files behind others have the room that those leave
behind : (told : Files) (room left : ℕ) (front lines : List FileLine) → left ≡ room - bytes_of told front → AreWithin told left lines
    → (before after : List FileLine) (file : FileLine) → lines ≡ before ++ file ∷ after → IsWithin told file.path (min most_file (room - bytes_of told (front ++ before)))
behind told room left front lines h r before after file e =
    let sum = sum_by-append (λ f. length (unwrap_or (told f.path) [])) front before in
    let same : left - bytes_of told before ≡ room - bytes_of told (front ++ before) = omega (arith, sum, h) in
    subst (λ (k : ℕ). IsWithin told file.path (min most_file k)) same (r before after file e)

files-behind : (told : Files) (room left : ℕ) (front lines : List FileLine) → left ≡ room - bytes_of told front → AreWithin told room front → AreWithin told left lines → AreWithin told room (front ++ lines)
files-behind told room left front lines h f r =
    each-of-both (λ before file. IsWithin told file.path (min most_file (room - bytes_of told before))) front lines f (behind told room left front lines h r)

one-within : (told : Files) (room : ℕ) (file : FileLine) (bytes : List ℕ) → told file.path ≡ Some bytes → length bytes ≤ min most_file room → AreWithin told room (file ∷ [])
one-within told room file bytes t h =
    let all : room ≡ room - bytes_of told [] = omega arith in
    each-of-one (λ before file'. IsWithin told file'.path (min most_file (room - bytes_of told before))) file (bytes, t, subst (λ (k : ℕ). length bytes ≤ min most_file k) all h)

pub none-within : (told : Files) (room : ℕ) → AreWithin told room []
none-within told room [] after file e = absurd (cc)
none-within told room (b ∷ bs) after file e = absurd (cc)

-- of the first lines, one more is read
pub next-within : (told : Option Files) (lines : List FileLine) (n : ℕ) (d : FileLine) (bytes : List ℕ) (start before : ℕ) → n < length lines → IsTold told (get_or lines n d).path bytes
    → length bytes ≤ min most_file before → IfSome told (λ files. before ≡ start - bytes_of files (take n lines)) → IfSome told (λ files. AreWithin files start (take n lines))
    → IfSome told (λ files. AreWithin files start (take (n + 1) lines))
next-within None lines n d bytes start before below t h left r = tt
next-within (Some files) lines n d bytes start before below t h left r =
    subst (λ (ls : List FileLine). AreWithin files start ls) (sym (take_more lines n d below))
    (files-behind files start before (take n lines) (get_or lines n d ∷ []) left r (one-within files before (get_or lines n d) bytes t h))

-- ---- tenants

-- all that is read of some tenants
pub record AreTenantsWithin (told : Files) (ts : List TenantLine) : Type 0 where
  pub sources : AllByRecursion (λ t. IsWithin told t.source most_source) ts
  pub files : AreWithin told most_files (flat_map (λ t. t.files) ts)
  pub snapshots : AllByRecursion (λ t. IsSnapshotWithin told t.resume) ts

pub no-tenants : (told : Files) → AreTenantsWithin told []
no-tenants told = record { sources = tt; files = none-within told most_files; snapshots = tt }

pub tenant-behind : (told : Files) (ts : List TenantLine) (t : TenantLine) (left : ℕ) → left ≡ most_files - bytes_of told (flat_map (λ t'. t'.files) ts) → AreTenantsWithin told ts → IsTenantWithin told left t
    → AreTenantsWithin told (ts ++ t ∷ [])
tenant-behind told ts t left h r here =
    let split : flat_map (λ t'. t'.files) (ts ++ t ∷ []) ≡ flat_map (λ t'. t'.files) ts ++ t.files =
    flat_map-append (λ t'. t'.files) ts (t ∷ []) ∙ ap (λ (fs : List FileLine). flat_map (λ t'. t'.files) ts ++ fs) (append-nil t.files) in
    record {
      sources = push-each (λ t'. IsWithin told t'.source most_source) ts t r.sources here.source;
      files = subst (λ (ls : List FileLine). AreWithin told most_files ls) (sym split) (files-behind told most_files left (flat_map (λ t'. t'.files) ts) t.files h r.files here.files);
      snapshots = push-each (λ t'. IsSnapshotWithin told t'.resume) ts t r.snapshots here.snapshot;
    }

-- ---- what is asked for

at-tenant : (P : TenantLine → Type 0) (ts : List TenantLine) (n : ℕ) (t : TenantLine) → slice_get ts n ≡ Some t → AllByRecursion P ts → P t
at-tenant P ts n t is h = subst P (get_or_from_slice_get ts n t t is) (at-place P ts n t (slice_get_within ts n t is) h)

pub all-within : (told : Files) (s : Script) → AreTenantsWithin told s.tenants → IsAvailable told s
all-within told s r path most (asked.source n t is e limit) =
    subst (λ (p : List ℕ). IsWithin told p most) (sym e) (subst (λ (k : ℕ). IsWithin told t.source k) (sym limit) (at-tenant (λ t'. IsWithin told t'.source most_source) s.tenants n t is r.sources))
all-within told s r path most (asked.file before after f is e limit) =
    subst (λ (p : List ℕ). IsWithin told p most) (sym e) (subst (λ (k : ℕ). IsWithin told f.path k) (sym limit) (r.files before after f is))
all-within told s r path most (asked.snapshot n t is e limit) =
    let here = at-tenant (λ t'. IsSnapshotWithin told t'.resume) s.tenants n t is r.snapshots in
    let there = subst (λ (o : Option (List ℕ)). IsSnapshotWithin told o) e here in
    subst (λ (k : ℕ). IsWithin told path k) (sym limit) there
