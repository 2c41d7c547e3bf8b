-- The arguments of displays as they are counted one by one (IEEE 1364-2005, clause 17.1.1).
use Rattle.std.specs.Prelude.{◌≡◌, ℕ, zero, suc, ◌+◌, List, [], ◌∷◌}
use Rattle.vl_base.specs.Display.{Format}
use Rattle.vl_design.specs.Formats.{Arg, operand, behind, pieces_from}
use Rattle.vl_design.specs.Syntax.{Exp, Piece, Literal, Shown}
use Rattle.vl_loops.specs.Limits.{Counted, exp_count, pieces_count}

-- pieces count the expressions that they show
pub record CountsShown (each : Exp → ℕ) (all : List Piece → ℕ) : Type 0 where
  pub none : all [] ≡ 0
  pub text : (t : List ℕ) (ps : List Piece) → all (Literal t ∷ ps) ≡ all ps
  pub item : (f : Format) (e : Exp) (ps : List Piece) → all (Shown f e ∷ ps) ≡ each e + all ps

-- what the operands of so many items count
abbrev pub operands_by : (Exp → ℕ) → ℕ → List Arg → ℕ
operands_by each zero args = 0
operands_by each (suc n) args = each (operand args) + operands_by each n (behind args)

-- what arguments count of which so many first ones are taken by items
abbrev pub shown_by : (Exp → ℕ) → (List Piece → ℕ) → ℕ → List Arg → ℕ
shown_by each all n args = operands_by each n args + all (pieces_from [] n args)

abbrev pub shown_count : Counted → ℕ → List Arg → ℕ
shown_count c n args = shown_by (exp_count c) (pieces_count c) n args
