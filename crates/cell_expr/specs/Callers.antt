-- That a program's calls compile the bodies of functions (IEEE 1364-2005, clause 10.4.3).
use Rattle.std.specs.Prelude.{◌≡◌, ℕ, suc, List, All, Result, OnOk, Some, slice_get, length}
use Rattle.std.specs.Borrow.{MutBor}
use Rattle.std.specs.declared.alloc.AllocError.{AllocError}
use Rattle.vl_base.specs.declared.files.File.{File}
use Rattle.vl_design.specs.Exec.{exec}
use Rattle.vl_design.specs.Sound.{IsSoundFun}
use Rattle.vl_design.specs.Syntax.{Fun}
use Rattle.vl_design.specs.Width.{Names, names_in}
use Rattle.vl_eval.specs.Rooms.{scope_at}
use Rattle.vl_run.specs.Scopes.{calls_in}
use Rattle.cell_emit.specs.cell_form.specs.declared.cell.CellList.{CellList}
use Rattle.cell_emit.specs.cell_form.specs.Views.{list_of}
use Rattle.cell_emit.specs.Slots.{Grows}
use Rattle.cell_emit.specs.declared.at.At.{At}
use Rattle.cell_emit.specs.Envs.{env_of, Fits}
use Rattle.cell_emit.specs.Paths.{Does}
use Rattle.cell_expr.specs.Bodies.{IsCellFun}
use Rattle.cell_expr.specs.Counts.{stm_count, body_count}

-- what a body does where calls within it nest at most so deep
abbrev pub DoesBody : Names → ℕ → List File → Fun → MutBor At → MutBor At → MutBor CellList → MutBor CellList → Type 0
DoesBody names depth files g at at' cells cells' = Does (names_in names g) (stm_count (body_count names.funs depth) g.body)
    (exec (scope_at (names_in names g) files (calls_in (names_in names g) files depth)) g.body) at.now.here (env_of at.now) (env_of at'.now) (list_of cells.now) (list_of cells'.now)

-- the functions can be compiled, and where calls nest at most so deep, the program's calls compile their bodies
pub record Compilers {U : Type 0} (names : Names) (depth : ℕ) (pre : MutBor CellList → MutBor At → ℕ → Type 0)
    (post : MutBor CellList → MutBor At → ℕ → Result U AllocError → MutBor CellList → MutBor At → Type 0) : Type 0 where
  pub sound : All (IsSoundFun names) names.funs
  pub cells : All (IsCellFun names) names.funs
  pub callable : (d f : ℕ) (g : Fun) (cells : MutBor CellList) (at : MutBor At) → depth ≡ suc d → slice_get names.funs f ≡ Some g →
      Fits (names_in names g) (list_of cells.now) (env_of at.now) → at.now.first ≡ length names.signals → pre cells at f
  pub grows : (f : ℕ) (cells cells' : MutBor CellList) (at at' : MutBor At) (r : Result U AllocError) → post cells at f r cells' at' →
      Grows (list_of cells.now) (list_of cells'.now)
  pub does : (d f : ℕ) (g : Fun) (cells cells' : MutBor CellList) (at at' : MutBor At) (r : Result U AllocError) → depth ≡ suc d → slice_get names.funs f ≡ Some g →
      post cells at f r cells' at' → OnOk r ((files : List File) → DoesBody names d files g at at' cells cells')
