-- What runs begin with.
use Rattle.std.proofs.Common.{◌≡◌, ℕ, ◌≤◌, List, [], ◌∷◌, map, Option, Some, Ok, refl, ap, subst, arith}
use Rattle.ten_core.specs.vl_base.specs.declared.files.File.{File}
use Rattle.ten_core.specs.vl_design.specs.Alone.{first_tick}
use Rattle.ten_core.specs.vl_design.specs.Snapshots as run
use Rattle.ten_core.specs.vl_design.specs.Syntax.{Flat}
use Rattle.ten_core.specs.snap_form.specs.Reading.{read}
use Rattle.elab_laws.specs.ten_plan.specs.declared.held.Held.{Held}
use Rattle.elab_laws.specs.ten_plan.specs.Held.{snapshot_of}
use Rattle.elab_laws.specs.ten_plan.specs.Written.{kept, kept_row, row_of, written}
use Rattle.host_files.specs.host_form.specs.Origins.{rows_of, Starts, anew, resumed}
pub use Rattle.host_files.specs.host_form.proofs.Ends.{starts_within as within-budget}

kept-rows : (rows : List run.SnapRow) → map kept_row (map row_of rows) ≡ rows
kept-rows [] = refl
kept-rows (r ∷ rows) = ap (λ (rs : List run.SnapRow). r ∷ rs) (kept-rows rows)

kept-written : (s : run.Snapshot) → kept (written s) ≡ s
kept-written s = ap (λ (rows : List run.SnapRow). record s { rows = rows }) (kept-rows s.rows)

-- it begins with what was read, whose tick isn't above the budget
pub starts : (d : Flat) (files : List File) (budget : ℕ) (bytes : List ℕ) (h : Held) → read (rows_of d) files bytes ≡ Ok (written (snapshot_of d.rows h)) → h.tick ≤ budget
    → Starts d files budget (Some bytes) (Some (snapshot_of d.rows h))
starts d files budget bytes h e within =
    subst (λ (s : run.Snapshot). Starts d files budget (Some bytes) (Some s)) (kept-written (snapshot_of d.rows h)) (resumed (written (snapshot_of d.rows h)) e within)
