-- What is decided of one design is decided of another of the same rows and the same cost.
use Rattle.std.proofs.Common.{◌≡◌, ℕ, false, true, List, Option, Ok, Err, refl, sym, ap, ◌∙◌, subst}
use Rattle.ten_core.specs.vl_base.specs.declared.files.File.{File}
use Rattle.ten_core.specs.vl_base.specs.declared.place.Place.{Place}
use Rattle.ten_core.specs.vl_design.specs.Alone.{Origin}
use Rattle.ten_core.specs.vl_design.specs.Cost.{Cost, cost}
use Rattle.ten_core.specs.vl_design.specs.Snapshots as run
use Rattle.ten_core.specs.vl_design.specs.Syntax.{Flat, Row}
use Rattle.host_files.specs.host_text.specs.declared.script.FabricLine.{FabricLine}
use Rattle.host_files.specs.host_text.specs.declared.script.TenantLine.{TenantLine}
use Rattle.ten_core.specs.snap_form.specs.declared.snapshot.SnapError.TheVariants as snap
use Rattle.ten_core.specs.snap_form.specs.Reading.{read}
use Rattle.elab_laws.specs.ten_plan.specs.Written as written
use Rattle.host_files.specs.host_form.specs.Origins.{Accepted, fits, has_room, plan_of, Starts, anew, resumed, StartsNot, misspelt, late, IsOrigin, cost_kind, IsRefused, for_its_source, for_its_cost, for_its_snapshot}
use Rattle.host_judge.specs.Deciding.{accepted}
use Rattle.host_files.specs.host_form.proofs.Verdicts.{accepted_is as accepted-is}

module _ (e d : Flat) (rows : e.rows ≡ d.rows) (costs : cost e ≡ cost d) where
  moved-start : {files : List File} {budget : ℕ} {bytes : Option (List ℕ)} {start : Option run.Snapshot} → Starts e files budget bytes start → Starts d files budget bytes start
  moved-start anew = anew
  moved-start {files = files} (resumed {bytes = b} s r within) = resumed s (subst (λ (rs : List Row). read (written.rows_of rs) files b ≡ Ok s) rows r) within

  moved-fault : {files : List File} {budget : ℕ} {bytes : Option (List ℕ)} {fault : ℕ} → StartsNot e files budget bytes fault → StartsNot d files budget bytes fault
  moved-fault {files = files} (misspelt {bytes = b} fault offset r) = misspelt fault offset (subst (λ (rs : List Row). read (written.rows_of rs) files b ≡ Err (snap.Bad fault offset)) rows r)
  moved-fault {files = files} (late {bytes = b} s r above) = late s (subst (λ (rs : List Row). read (written.rows_of rs) files b ≡ Ok s) rows r) above

  module _ (fabrics : List FabricLine) (line : TenantLine) (files : List File) (bytes : Option (List ℕ)) where
    pub moved-refusal : {place : Place} {kind : List ℕ} → IsRefused fabrics (accepted line e files bytes) place kind → IsRefused fabrics (accepted line d files bytes) place kind
    moved-refusal (for_its_source h) = let z : ⊥ = cc in absurd z
    moved-refusal {kind = kind} (for_its_cost {d = x} {fabric = f} h there above place-is kind-is) =
        let same : cost x ≡ cost d = ap cost (sym (accepted-is h)) ∙ costs in
        for_its_cost {d = d} {fabric = f} refl there (subst (λ (c : Cost). fits c f.capacity ≡ false) same above) place-is (subst (λ (c : Cost). kind ≡ cost_kind c f.capacity) same kind-is)
    moved-refusal (for_its_snapshot {d = x} {fault = n} h room bad place-is kind-is) =
        let is : x ≡ e = sym (accepted-is h) in
        let same : cost x ≡ cost d = ap cost is ∙ costs in
        for_its_snapshot {d = d} {fault = n} refl (subst (λ (c : Cost). has_room fabrics c line.fabric ≡ true) same room)
        (moved-fault (subst (λ (y : Flat). StartsNot y files line.budget bytes n) is bad)) place-is kind-is

    pub moved-origin : (o : Origin) → o.flat ≡ e → IsOrigin fabrics (accepted line e files bytes) o → IsOrigin fabrics (accepted line d files bytes) (record o { flat = d })
    moved-origin o is h = let same : cost o.flat ≡ cost d = ap cost is ∙ costs in record {
      design = refl;
      room = subst (λ (c : Cost). has_room fabrics c line.fabric ≡ true) same h.room;
      files = h.files;
      plan = h.plan ∙ ap (λ (c : Cost). plan_of fabrics c line) same;
      start = moved-start (subst (λ (y : Flat). Starts y files line.budget bytes o.resume) is h.start);
    }
