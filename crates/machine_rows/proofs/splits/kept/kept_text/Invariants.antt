use Rattle.std.proofs.Common.{length}
use Rattle.std.specs.List.{AllByRecursion}
use Rattle.vl_design.specs.Trees.{flat_of}
use Rattle.ten_core.specs.snap_form.specs.Spelling.{IsSnapshot}
use Rattle.elab_laws.specs.ten_plan.specs.Held.{snapshot_of}
use Rattle.elab_laws.specs.ten_plan.specs.Written.{written}
use Rattle.machine_rows.proofs.splits.kept.kept_text.Given as goal

-- what is left can be written
abbrev pub invariant-saves : goal.invariant-saves
invariant-saves l = AllByRecursion (λ s. IsSnapshot (written (snapshot_of (flat_of l.origin.value.image.design).rows s.held))) l.saved.items

abbrev pub decreases-saves : goal.decreases-saves
decreases-saves l = length l.saved.items
