-- What the elaboration of a source makes of functions, beside soundness (IEEE 1364-2005, clauses 10.4 and 17; own).
use Rattle.std.specs.Prelude.{◌≡◌, ℕ, ◌≤◌, false, [], length, All}
use Rattle.vl_design.specs.Placed.{Func, Design}
use Rattle.vl_design.specs.Plainly.{stm}
use Rattle.vl_design.specs.Reads.{stm_timed}
use Rattle.vl_design.specs.Sound.{HasValue}

-- a function of a design of so many signals
pub record IsOwn (count : ℕ) (f : Func) : Type 0 where
  -- its inputs and its result are none of the design's signals
  pub inputs : All (λ k. count ≤ k) f.inputs
  pub result : count ≤ f.result
  -- none of its variables is a memory
  pub locals : All (λ r. HasValue r.kind) f.locals
  -- its body asks neither for the time nor for the answer of a system function
  pub timeless : stm_timed (stm [] f.body) ≡ false

-- each function of the design is so
pub record HasOwnFunctions (d : Design) : Type 0 where
  pub functions : All (IsOwn (length d.signals)) d.funcs
