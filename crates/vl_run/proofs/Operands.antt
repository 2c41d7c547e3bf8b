-- The operands of items.
use Rattle.std.proofs.Common.{◌≡◌, ◌≤◌, ◌∙◌, ap, sym, ℕ, List, [], ◌∷◌, map, length, get_or, arith, mod-lt, mod-eq_of_lt}
use Rattle.std.proofs.Math.Pow.{pow_pos}
use Rattle.std.proofs.lemmas.Grind.{common_steps}
use Rattle.vl_design.specs.Formats.{text_width, text_number, string_exp, operand}
use Rattle.vl_design.specs.declared.design.Expr.{Expr}
use Rattle.vl_design.specs.declared.design.SysArg.{SysArg}
use Rattle.vl_design.specs.declared.design.SysArg as sa
use Rattle.vl_design.specs.Trees.{arg_of, exp_of}
use Rattle.vl_design.specs.Value.{Sample, own_value}
use Rattle.vl_design.specs.Width.{Scope}

-- the number of a string is its value
pub own-text : (scope : Scope) (s : Sample) (text : List ℕ) → own_value scope s (string_exp text) ≡ text_number text
own-text scope s text = mod-eq_of_lt (mod-lt _ (pow_pos (text_width text)))

pub ruleset operands = (common_steps, own-text)

-- the next argument is an expression
pub operand-value : (args : List SysArg) (x : SysArg) (e : Expr) → 1 ≤ length args → x ≡ get_or args 0 x → x ≡ sa.Value e → exp_of e ≡ operand (map arg_of args)
operand-value [] x e l h i = absurd (omega (arith, l))
operand-value (y ∷ ys) x e l h i = sym (ap (λ z. operand (arg_of z ∷ map arg_of ys)) (sym h ∙ i))
