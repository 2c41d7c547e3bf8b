-- Bodies of functions as cells, where calls nest.
use Rattle.std.proofs.Common.{◌≡◌, ℕ, ◌-◌, ◌<◌, ◌≤◌, refl, sym, ap, ◌∙◌, arith, subst, length}
use Rattle.std.specs.Prelude.{slice_get, List, Option, Some, None, Result, OnOk}
use Rattle.std.specs.Borrow.{MutBor}
use Rattle.std.specs.declared.alloc.AllocError.{AllocError}
use Rattle.std.proofs.lemmas.List.{length-map}
use Rattle.std.proofs.lemmas.Result.{on_ok_weaker}
use Rattle.vl_base.specs.declared.files.File.{File}
use Rattle.vl_design.specs.Exec.{exec}
use Rattle.vl_design.specs.Sound.{Takes}
use Rattle.vl_design.specs.Syntax.{Fun}
use Rattle.vl_design.specs.Trees.{fun_of}
use Rattle.vl_design.specs.Width.{Names, names_in}
use Rattle.vl_eval.specs.declared.room.Room.{Room}
use Rattle.vl_eval.specs.Rooms.{names_of, scope_at}
use Rattle.vl_eval.proofs.Widths.{called-there}
use Rattle.vl_run.specs.Scopes.{calls_in}
use Rattle.cell_emit.specs.cell_form.specs.declared.cell.CellList.{CellList}
use Rattle.cell_emit.specs.cell_form.specs.Data.{ListData}
use Rattle.cell_emit.specs.cell_form.specs.Views.{list_of}
use Rattle.cell_emit.specs.Slots.{Grows}
use Rattle.cell_emit.specs.declared.at.At.{At}
use Rattle.cell_emit.specs.Envs.{Env, env_of, Fits}
use Rattle.cell_emit.specs.Paths.{Does}
use Rattle.cell_expr.specs.Callers.{Compilers, DoesBody}
use Rattle.cell_expr.specs.Counts.{stm_count, body_count}
use Rattle.cell_expr.specs.Passes.{AreCompiled}

abbrev some-or : Fun → Option Fun → Fun
some-or d None = d
some-or d (Some x) = x

-- there is one function of a number
pub one-function : (o : Option Fun) (g h : Fun) → o ≡ Some g → o ≡ Some h → g ≡ h
one-function o g h e f = ap (some-or g) (sym e ∙ f)

pub body-does : (names n : Names) (f depth : ℕ) (g h : Fun) (files : List File) (off : ℕ) (at at' : Env) (old new : ListData) → n ≡ names_in names g → slice_get names.funs f ≡ Some g → slice_get names.funs f ≡ Some h →
    Does n (stm_count (body_count n.funs depth) g.body) (exec (scope_at n files (calls_in n files depth)) g.body) off at at' old new →
    Does (names_in names h) (stm_count (body_count names.funs depth) h.body) (exec (scope_at (names_in names h) files (calls_in (names_in names h) files depth)) h.body) off at at' old new
body-does names n f depth g h files off at at' old new e there other d =
    let D : Names → Type 0 = λ z. Does z (stm_count (body_count z.funs depth) g.body) (exec (scope_at z files (calls_in z files depth)) g.body) off at at' old new in
    let F : Fun → Type 0 = λ z. Does (names_in names z) (stm_count (body_count names.funs depth) z.body) (exec (scope_at (names_in names z) files (calls_in (names_in names z) files depth)) z.body) off at at' old new in
    subst F (one-function (slice_get names.funs f) g h there other) (subst D e d)

module _ {U : Type 0} (room : Room) (depth : ℕ) (pre : MutBor CellList → MutBor At → ℕ → Type 0) (post : MutBor CellList → MutBor At → ℕ → Result U AllocError → MutBor CellList → MutBor At → Type 0) where
  abbrev names : Names
  names = names_of room

  below : (f : ℕ) (g : Fun) → slice_get names.funs f ≡ Some g → f < length room.funcs.now
  below f g there =
      let lt = called-there names f (length g.inputs) (subst (λ (o : Option Fun). Takes o (length g.inputs)) (sym there) refl) in
      let long = length-map room.funcs.now fun_of in
      omega (arith, lt, long)

  -- calls that compile a body by its number do so for each function
  pub compilers : AreCompiled names →
      ((f : ℕ) (cells : MutBor CellList) (at : MutBor At) → 1 ≤ depth → f < length room.funcs.now → ((g : Fun) → slice_get names.funs f ≡ Some g → Fits (names_in names g) (list_of cells.now) (env_of at.now)) →
      at.now.first ≡ length names.signals → pre cells at f) →
      ((f : ℕ) (cells cells' : MutBor CellList) (at at' : MutBor At) (r : Result U AllocError) → post cells at f r cells' at' → Grows (list_of cells.now) (list_of cells'.now)) →
      ((f : ℕ) (cells cells' : MutBor CellList) (at at' : MutBor At) (r : Result U AllocError) → post cells at f r cells' at' →
      OnOk r ((files : List File) (g : Fun) → slice_get names.funs f ≡ Some g → DoesBody names (depth - 1) files g at at' cells cells')) →
      Compilers names depth pre post
  compilers compiled callable grows does = record {
    sound = compiled.sound;
    cells = compiled.cells;
    callable = λ d f g cells at e there fits first. callable f cells at (omega (arith, e)) (below f g there)
        (λ h other. subst (λ (z : Fun). Fits (names_in names z) (list_of cells.now) (env_of at.now)) (one-function (slice_get names.funs f) g h there other) fits) first;
    grows = grows;
    does = λ d f g cells cells' at at' r e there p.
        let less : depth - 1 ≡ d = omega (arith, e) in
        on_ok_weaker r (λ (h : (files : List File) (g : Fun) → slice_get names.funs f ≡ Some g → DoesBody names (depth - 1) files g at at' cells cells') files. subst (λ z. DoesBody names z files g at at' cells cells') less (h files g there))
        (does f cells cells' at at' r p);
  }
