-- What the body of a function begins with in cells (IEEE 1364-2005, clause 10.4.3).
use Rattle.std.specs.Prelude.{ℕ, List, All}
use Rattle.vl_design.specs.Functions.{zeros, fresh, with_inputs}
use Rattle.vl_design.specs.Sound.{IsSoundFun}
use Rattle.vl_design.specs.State.{sample}
use Rattle.vl_design.specs.Value.{Sample}
use Rattle.vl_design.specs.Width.{Names}
use Rattle.cell_emit.specs.cell_form.specs.Data.{ListData, BankData}
use Rattle.cell_emit.specs.cell_form.specs.Sound.{Shape}
use Rattle.cell_emit.specs.Slots.{AreSound, Longer, Nothing}
use Rattle.cell_emit.specs.Envs.{Env, Fits, HasMemories, Stands}
use Rattle.cell_emit.specs.Paths.{Keeps}
use Rattle.cell_expr.specs.Bodies.{IsCellFun}

-- the functions are sound, and of those that are compiled
pub record AreCompiled (names : Names) : Type 0 where
  pub sound : All (IsSoundFun names) names.funs
  pub cells : All (IsCellFun names) names.funs

-- with at most n cells more, slots hold what a function's body begins with before its inputs are assigned
pub record Begins (inside : Names) (n : ℕ) (at : Env) (old new : ListData) : Type 0 where
  pub longer : Longer Nothing n old new
  pub fits : Fits inside new at
  -- no memory has an entry
  pub memories : (s : Shape) → HasMemories inside at s
  pub stands : (s : Shape) (b : BankData) → AreSound s old → Stands inside b new at (sample (fresh (zeros inside.rows)))

-- with at most n cells more, the inputs have these values, which are read in the caller's environment
pub record Passes (names inside : Names) (n : ℕ) (at body body' : Env) (old new : ListData) (inputs : List ℕ) (args : Sample → List ℕ) : Type 0 where
  pub longer : Longer (HasMemories names at) n old new
  pub fits : Fits inside new body'
  pub keeps : Keeps inside body body'
  pub stands : (s : Shape) (b : BankData) (x : Sample) (values : List (List ℕ)) → AreSound s old → Stands names b old at x → Stands inside b old body (sample (fresh values)) →
      Stands inside b new body' (sample (fresh (with_inputs inputs (args x) values)))
