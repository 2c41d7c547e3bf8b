-- Bodies of functions and processes with their loops unrolled, read over the signals alone (IEEE 1364-2005, clause 9.6).
use Rattle.std.specs.Prelude.{◌≡◌, ℕ, true, List, [], ◌++◌, map}
use Rattle.vl_design.specs.declared.design.Signal.{Signal}
use Rattle.vl_design.specs.declared.design.Func.{Func}
use Rattle.vl_design.specs.declared.design.Process.{Process}
use Rattle.vl_design.specs.Syntax.{Row}
use Rattle.vl_design.specs.Width.{signal_form}
use Rattle.vl_design.specs.Rows.{row_of}
use Rattle.vl_design.specs.Sound.{IsWidth}
use Rattle.vl_design.specs.Plain.{plain_scope}
use Rattle.vl_design.specs.Placed as p
use Rattle.vl_design.specs.Seen.{stm_of, func_of, process_of}
use Rattle.vl_loops.specs.Unroll.{is_loop}
use Rattle.vl_loops.specs.Placed.{stm_unrolled}
use Rattle.vl_loops.specs.Loops.{HasHeads}
use Rattle.vl_loops.specs.Rooms.{state_of}

-- the design's signals, and behind them the locals of a function
abbrev pub rows_with : List Signal → List Signal → List Row
rows_with signals locals = map row_of signals ++ map row_of locals

-- its loops have constant headers, and each loop variable has a width
pub record IsBody (rows : List Row) (a : p.Stm) : Type 0 where
  pub heads : HasHeads rows a
  pub widths : (j : ℕ) → is_loop rows j ≡ true → IsWidth (signal_form rows j).width

-- the body with its loops unrolled, where loop variables are 0 around it
abbrev pub body_unrolled : List Signal → List Signal → p.Stm → p.Stm
body_unrolled signals locals a = stm_unrolled (plain_scope (rows_with signals locals)) a (state_of (map (λ x. 0) signals ++ map (λ y. 0) locals))

abbrev pub func_at : List Signal → Func → p.Func
func_at signals f = record (func_of f) { body = body_unrolled signals f.locals (stm_of f.body) }

abbrev pub process_at : List Signal → Process → p.Process
process_at signals a = record (process_of a) { body = body_unrolled signals [] (stm_of a.body) }
