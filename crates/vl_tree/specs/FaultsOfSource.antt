-- How far tokens go on as a source, and the limits on the way.
use Rattle.std.specs.Prelude.{◌≡◌, ℕ, ◌+◌, ◌<◌, ◌≤◌, List, [], ◌++◌, length, take, Some, None}
use Rattle.vl_base.specs.declared.place.Place.{Place}
use Rattle.vl_tree.specs.declared.token.Token.{Token}
use Rattle.vl_tree.specs.Begins.{place_at}
use Rattle.vl_tree.specs.declared.source_tree.Source.{Source}
use Rattle.vl_tree.specs.Bounds.{Bounds, unbounded, most_statements, most_tokens}
use Rattle.vl_tree.specs.GrammarOfSource.{ReadsSource}

-- all of these tokens are a source, with this tree
abbrev pub IsSource : Source → List Token → Type 0
IsSource s ts = ReadsSource unbounded s ts []

-- limit 3: at most 128 statements stand around a token
abbrev pub statement_limit : ℕ → Bounds
statement_limit uncounted = record { statements = Some most_statements; tokens = None; uncounted = uncounted }

-- limit 4: at most 1,000 tokens stand in an expression that stands in no other, and in a left side but for its indices
abbrev pub expression_limit : ℕ → Bounds
expression_limit uncounted = record { statements = None; tokens = Some most_tokens; uncounted = uncounted }

-- both limits
abbrev pub limits : ℕ → Bounds
limits uncounted = record { statements = Some most_statements; tokens = Some most_tokens; uncounted = uncounted }

-- nothing is bounded
abbrev pub no_limit : ℕ → Bounds
no_limit uncounted = unbounded

-- with some tokens behind them, which count for no limit, these are a source within the limits
abbrev pub BeginsSource : (ℕ → Bounds) → List Token → Type 0
BeginsSource within ts = (more : List Token) × (s : Source) × ReadsSource (within (length more)) s (ts ++ more) []

-- i is the first token at which the tokens so far, it included, begin no source, or the end;
-- the tokens before it keep the limits, and at the end they are no source
pub record IsSyntaxFault (tokens : List Token) (i : ℕ) : Type 0 where
  pub within : i ≤ length tokens
  pub before : BeginsSource limits (take i tokens)
  pub here : i < length tokens → BeginsSource no_limit (take (i + 1) tokens) → ⊥
  pub at_end : i ≡ length tokens → (s : Source) → IsSource s tokens → ⊥

-- i is the first token with which the tokens so far, which begin a source, pass a limit
pub record IsPassing (within : ℕ → Bounds) (tokens : List Token) (i : ℕ) : Type 0 where
  pub inside : i < length tokens
  pub before : BeginsSource limits (take i tokens)
  pub begins : BeginsSource no_limit (take (i + 1) tokens)
  pub passes : BeginsSource within (take (i + 1) tokens) → ⊥

-- p is the place of the syntax fault
pub record IsFirstFault (tokens : List Token) (end p : Place) : Type 0 where
  pub index : ℕ
  pub fault : IsSyntaxFault tokens index
  pub place : p ≡ place_at tokens index end

-- p is the place of the token that passes the limit
pub record PassesLimit (within : ℕ → Bounds) (tokens : List Token) (end p : Place) : Type 0 where
  pub index : ℕ
  pub passing : IsPassing within tokens index
  pub place : p ≡ place_at tokens index end
