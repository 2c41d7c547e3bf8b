-- What the cells of a state begin with: variables as they are, and nets over the values committed last (IEEE 1364-2005, clauses 6.1 and
-- 11.3; own).
use Rattle.std.specs.Prelude.{◌≡◌, ℕ, true, false, List, length}
use Rattle.ten_form.specs.vl_design.specs.Syntax.{Row}
use Rattle.ten_form.specs.vl_design.specs.Width.{Names}
use Rattle.ten_form.specs.vl_design.specs.Value.{value_of, words_of}
use Rattle.ten_form.specs.vl_design.specs.Sound.{IsSignal, IsMemory}
use Rattle.ten_form.specs.vl_design.specs.Laws.{IsFine}
use Rattle.ten_form.specs.vl_runs.specs.Computed.{computed_at}
use Rattle.cell_emit.specs.cell_form.specs.Sound.{Shape}
use Rattle.cell_emit.specs.Envs.{Env, entry}
use Rattle.cell_emit.specs.Reads.{HasPlaces}

-- values of which those of computed signals are these, and the others those
pub record Mixes (names : Names) (nets others values : List (List ℕ)) : Type 0 where
  pub fine : IsFine names.rows values
  pub computed : (k : ℕ) → IsSignal names k → computed_at names.rows k ≡ true → value_of values k ≡ value_of nets k
  pub kept : (k : ℕ) → IsSignal names k → computed_at names.rows k ≡ false → value_of values k ≡ value_of others k
  pub memories : (m : ℕ) → IsMemory names m → words_of values m ≡ words_of others m

-- an environment of which the entries of computed signals are these, and all else those
pub record Joins (rows : List Row) (nets others at : Env) : Type 0 where
  pub first : at.first ≡ others.first
  pub time : at.time ≡ others.time
  pub answer : at.answer ≡ others.answer
  pub here : at.here ≡ others.here
  pub away : at.away ≡ others.away
  pub many : length at.slots ≡ length others.slots
  pub computed : (k : ℕ) → computed_at rows k ≡ true → entry at k ≡ entry nets k
  pub kept : (k : ℕ) → computed_at rows k ≡ false → entry at k ≡ entry others k

-- a bank has the registers and memories of both copies
pub record HasCopies (names : Names) (values works : List ℕ) (time answer : ℕ) (s : Shape) : Type 0 where
  pub committed : HasPlaces names values time answer s
  pub present : HasPlaces names works time answer s
