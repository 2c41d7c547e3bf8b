-- An expression is a level, with expressions that nest less inside.
use Rattle.std.proofs.Common.{◌≡◌, ℕ, zero, suc, ◌-◌, ◌<◌, arith, refl, sub-one}
use Rattle.vl_tree.specs.Expressions.{expr, level}

pub expr_opens : (n : ℕ) → 0 < n → expr n ≡ level (expr (n - 1)) (n - 1)
unfolding expr
expr_opens zero h = absurd (omega arith)
expr_opens (suc n) h = rw sub-one refl
