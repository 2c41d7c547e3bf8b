-- A block with a choice and a call behind the end of the run: if (c) $display("A"); $finish; $display("B");
use Rattle.std.specs.Prelude.{ℕ, false, [], ◌∷◌, codes}
use Rattle.vl_paths.specs.vl_design.specs.declared.design.SigKind.TheVariants.{Var}
use Rattle.vl_paths.specs.vl_design.specs.Syntax.{Sig, NoExps, Literal, Finish, Stm, Nop, If, Sys, Flat}
use Rattle.vl_paths.specs.vl_design.specs.State.{State}
use Rattle.vl_paths.specs.vl_design.specs.Functions.{fresh}
use Rattle.vl_paths.specs.vl_design.specs.Examples.{row, seq, show, rise, flat}

abbrev pub choosing : Stm
choosing = seq (If (Sig 1) (show (Literal (codes "A") ∷ [])) Nop ∷ Sys (Finish NoExps) ∷ show (Literal (codes "B") ∷ []) ∷ [])

abbrev pub chooser : Flat
chooser = flat (row (codes "m.c") Var 1 false ∷ []) (rise choosing ∷ [])

-- the clock is 0, and c is so much
abbrev pub with_c : ℕ → State
with_c c = fresh ((0 ∷ []) ∷ (c ∷ []) ∷ [])
