-- Snapshots that a run keeps, and rows of those that are read.
use Rattle.std.proofs.Common.{ℕ, suc, ◌≤◌, Bool, true, false, List, [], ◌∷◌, ◌++◌, length}
use Rattle.std.specs.Prelude.{if◌then◌else◌}
use Rattle.std.specs.List.{AllByRecursion}
use Rattle.std.specs.Str.{bytes_eq}
use Rattle.std.proofs.lemmas.List.Elements.{recursion_from_All}
use Rattle.vl_design.specs.vl_base.specs.declared.files.File.{File}
use Rattle.vl_design.specs.vl_base.specs.Files.{IsFileSet}
use Rattle.vl_design.specs.Alone.{Origin, FreeSave, Keeps, Boundary, due_at, free_names}
use Rattle.vl_design.specs.Laws.{IsFine, IsTable}
use Rattle.vl_design.specs.Queue.{Queue}
use Rattle.vl_design.specs.Snapshots.{Snapshot, Saved, snapshot_of, saved_over, all_saved, is_kept}
use Rattle.vl_design.specs.State.{State}
use Rattle.vl_design.specs.Syntax.{Row, Flat}
use Rattle.snap_form.specs.Spelling.{HasWidth, IsSnapshot}
use Rattle.ten_plan.specs.Written.{rows_of, written, HasRows}
use Rattle.ten_core.specs.Holding.{IsSized, CanBeHeld}
use Rattle.ten_core.proofs.Fitting.{rows_of_by, written-words, written-files}

-- the rows of a design's snapshots have its widths
pub rows-wide : (rows : List Row) → AllByRecursion IsSized rows → AllByRecursion HasWidth (rows_of rows)
rows-wide [] h = tt
rows-wide (r ∷ rs) h = at (rows-wide rs h.1) (is_kept r.kind)
  where
    at : AllByRecursion HasWidth (rows_of rs) → (b : Bool) → AllByRecursion HasWidth (rows_of_by b r rs)
    at others true = (record { wide = h.0.width.wide; narrow = h.0.width.narrow }, others)
    at others false = others

-- a state is written as a snapshot
pub state-written : (d : Flat) (files : List File) (s : State) → CanBeHeld d → HasRows d.rows → IsFileSet files → IsFine d.rows s.values → IsTable files s.table → IsSnapshot (written (snapshot_of d.rows s))
state-written d files s can rows set fine table =
    let open-files = written-files files 0 s.table (recursion_from_All (λ f. length f.name ≤ 255) files set.short) table in
    record {
      rows = rows;
      words = written-words d can s.values fine;
      files = open-files.0;
      slots = open-files.1;
    }

-- ---- what is kept

abbrev IsWritten : Saved → Type 0
IsWritten s = IsSnapshot (written s.snapshot)

over-written : (saved : List Saved) (s : Saved) → AllByRecursion IsWritten saved → IsWritten s → AllByRecursion IsWritten (saved_over saved s)
over-written [] s h w = (w, tt)
over-written (x ∷ saved) s h w = at (over-written saved s h.1 w) (bytes_eq x.name s.name)
  where
    at : AllByRecursion IsWritten (saved_over saved s) → (b : Bool) → AllByRecursion IsWritten (if b then s ∷ saved else x ∷ saved_over saved s)
    at others true = (w, h.1)
    at others false = (h.0, others)

all-written : (saved : List Saved) (names : List (List ℕ)) (s : Snapshot) → AllByRecursion IsWritten saved → IsSnapshot (written s) → AllByRecursion IsWritten (all_saved saved names s)
all-written saved [] s h w = h
all-written saved (n ∷ names) s h w =
    let new : Saved = record { name = n; snapshot = s } in
    all-written (saved_over saved new) names s (over-written saved new h w) w

module _ (o : Origin) (free : List FreeSave) (each : (k : ℕ) (q : Queue) → Boundary o k q → IsSnapshot (written (snapshot_of o.flat.rows q.state))) where
  pub kept-written : (k : ℕ) (saved : List Saved) → Keeps o free k saved → AllByRecursion IsWritten saved
  kept-written k saved (Keeps.at_first {k = j} {q = q} e b) = all-written [] (due_at o.plan j q.state ++ free_names j free) (snapshot_of o.flat.rows q.state) tt (each j q b)
  kept-written k saved (Keeps.at_next {k = j} {saved = before} {q = q} h b) =
      all-written before (due_at o.plan (suc j) q.state ++ free_names (suc j) free) (snapshot_of o.flat.rows q.state) (kept-written j before h) (each (suc j) q b)
