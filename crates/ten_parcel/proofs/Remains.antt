-- The snapshots that a tenant leaves behind are ones of its design.
use Rattle.std.proofs.Common.{List, [], ◌∷◌}
use Rattle.std.specs.Prelude.{map}
use Rattle.std.specs.List.{AllByRecursion}
use Rattle.vl_eval.specs.vl_design.specs.Syntax.{Row}
use Rattle.ten_core.specs.snap_form.specs.Spelling.{IsSnapshot}
use Rattle.ten_core.specs.ten_plan.specs.declared.held.Saved.{Saved}
use Rattle.ten_core.specs.ten_plan.specs.Held.{saved_of, snapshot_of}
use Rattle.ten_core.specs.ten_plan.specs.Written.{written}

pub all-writable : (rows : List Row) (saved : List Saved) → AllByRecursion (λ s. IsSnapshot (written s.snapshot)) (map (saved_of rows) saved) →
    AllByRecursion (λ s. IsSnapshot (written (snapshot_of rows s.held))) saved
all-writable rows [] h = h
all-writable rows (s ∷ ss) h = (h.0, all-writable rows ss h.1)
