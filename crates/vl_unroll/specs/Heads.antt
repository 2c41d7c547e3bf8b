-- What unrolling needs of the numbers of loop variables (IEEE 1364-2005, clause 9.6).
use Rattle.std.specs.Prelude.{◌≡◌, ℕ, true, List}
use Rattle.vl_design.specs.Syntax.{Row}
use Rattle.vl_design.specs.Width.{signal_form}
use Rattle.vl_design.specs.Sound.{IsWidth}
use Rattle.vl_loops.specs.Unroll.{is_loop}
use Rattle.vl_loops.specs.Rooms.{AreNumbers}

-- a number for each signal, and a width from 1 to 128 for each loop variable
pub record AreReady (rows : List Row) (numbers : List ℕ) : Type 0 where
  pub fit : AreNumbers rows numbers
  pub widths : (j : ℕ) → is_loop rows j ≡ true → IsWidth (signal_form rows j).width
