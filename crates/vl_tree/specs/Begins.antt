-- How far tokens go on as an expression.
use Rattle.std.specs.Prelude.{ℕ, ◌+◌, ◌<◌, ◌≤◌, List, [], ◌++◌, length, slice_range, slice_get, Option, Some, None}
use Rattle.vl_base.specs.declared.place.Place.{Place}
use Rattle.vl_tree.specs.declared.token.Token.{Token}
use Rattle.vl_tree.specs.declared.tree.Expression.{Expression}
use Rattle.vl_tree.specs.Grammar.{ReadsExpression}

-- all of these tokens are an expression, with this tree
abbrev pub IsExpression : Expression → List Token → Type 0
IsExpression e ts = ReadsExpression e ts []

-- with some tokens behind them, these are an expression
abbrev pub BeginsExpression : List Token → Type 0
BeginsExpression ts = (more : List Token) × (e : Expression) × IsExpression e (ts ++ more)

-- i is the first token from `from` on at which the tokens from there, it included, begin no expression, or the end
pub record IsReach (tokens : List Token) (from i : ℕ) : Type 0 where
  pub starts : from ≤ i
  pub within : i ≤ length tokens
  pub before : (k : ℕ) → from ≤ k → k < i → BeginsExpression (slice_range tokens from (k + 1))
  pub here : i < length tokens → BeginsExpression (slice_range tokens from (i + 1)) → ⊥

abbrev pub place_or : Option Token → Place → Place
place_or (Some t) end = t.place
place_or None end = end

-- the place of the token at i, or of the end
abbrev pub place_at : List Token → ℕ → Place → Place
place_at tokens i end = place_or (slice_get tokens i) end
