-- How deep statements may nest, and how long expressions may be.
use Rattle.std.specs.Prelude.{ℕ, ◌-◌, ◌≤◌, ◌⊎◌, List, length, Option, Some, None}
use Rattle.vl_tree.specs.declared.token.Token.{Token}

-- limit 3: the most statements around a token
abbrev pub most_statements : ℕ
most_statements = 128

-- limit 4: the most tokens of an expression that stands in no other, and of a left side but for those in its indices
abbrev pub most_tokens : ℕ
most_tokens = 1000

pub record Bounds : Type 0 where
  -- the most statements around a token
  pub statements : Option ℕ
  -- the most tokens of an expression that stands in no other, and of a left side but for those in its indices
  pub tokens : Option ℕ
  -- the last tokens of the list, so many, count for neither
  pub uncounted : ℕ

-- nothing is bounded
abbrev pub unbounded : Bounds
unbounded = record { statements = None; tokens = None; uncounted = 0 }

abbrev pub AtMost : ℕ → Option ℕ → Type 0
AtMost n None = Unit {0}
AtMost n (Some m) = n ≤ m

-- a statement with d statements around its first token, its own included, may begin here
abbrev pub MayBegin : Bounds → ℕ → List Token → Type 0
MayBegin b d ts = (length ts ≤ b.uncounted) ⊎ AtMost d b.statements

-- an expression may go from here to the rest: so many tokens of it are counted
abbrev pub MayReach : Bounds → List Token → List Token → Type 0
MayReach b ts rest = AtMost (length ts - length rest) b.tokens ⊎ AtMost (length ts - b.uncounted) b.tokens

-- the first token here may be the n-th of a left side, those in its indices aside
abbrev pub MayCount : Bounds → ℕ → List Token → Type 0
MayCount b n ts = (length ts ≤ b.uncounted) ⊎ AtMost n b.tokens
