-- Why tokens are no expression.
use Rattle.std.specs.Prelude.{◌≡◌, ℕ, ◌+◌, ◌<◌, ◌≤◌, List, length}
use Rattle.std.specs.List.{slice_range}
use Rattle.vl_tree.specs.vl_base.specs.declared.place.Place.{Place}
use Rattle.vl_tree.specs.declared.token.Token.{Token}
use Rattle.vl_tree.specs.declared.tree.Expression.{Expression}
use Rattle.vl_tree.specs.Begins.{IsExpression, BeginsExpression, IsReach, place_at}
use Rattle.vl_pexpr.specs.declared.parse.TheConstants.{MOST_TOKENS}

-- the tokens from `from` up to their reach are no expression, and p is the place of the token there, or the end
pub record IsFirstFault (tokens : List Token) (from : ℕ) (end p : Place) : Type 0 where
  pub index : ℕ
  pub reach : IsReach tokens from index
  pub short : index ≤ from + MOST_TOKENS
  pub wrong : (e : Expression) → IsExpression e (slice_range tokens from index) → ⊥
  pub place : p ≡ place_at tokens index end

-- with the first token past the limit, the tokens from `from` on still begin an expression
pub record PassesLimit (tokens : List Token) (from : ℕ) : Type 0 where
  pub within : from + MOST_TOKENS < length tokens
  pub begins : BeginsExpression (slice_range tokens from (from + MOST_TOKENS + 1))
