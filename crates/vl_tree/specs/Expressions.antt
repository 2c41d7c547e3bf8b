-- The reading of expressions, as functions. The first number of each is more than there are tokens.
use Rattle.std.specs.Prelude.{ℕ, zero, suc, List, ◌∷◌, Option, Some, None, Bool, false, ◌||◌, if◌then◌else◌, codes}
use Rattle.std.specs.Str.{bytes_eq}
use Rattle.vl_base.specs.declared.place.Place.{Place}
use Rattle.vl_tree.specs.declared.token.Token.{Token}
use Rattle.vl_tree.specs.declared.token.TokenKind.{TokenKind}
use Rattle.vl_tree.specs.declared.token.TokenKind.TheVariants as k
use Rattle.vl_tree.specs.declared.tree.Expression.{Expression}
use Rattle.vl_tree.specs.declared.tree.Choice.{Choice}
use Rattle.vl_tree.specs.declared.tree.Binary.{Binary}
use Rattle.vl_tree.specs.declared.tree.Link.{Link}
use Rattle.vl_tree.specs.declared.tree.Unary.{Unary}
use Rattle.vl_tree.specs.declared.tree.UnaryMark.{UnaryMark}
use Rattle.vl_tree.specs.declared.tree.Primary.{Primary}
use Rattle.vl_tree.specs.declared.tree.Primary.TheVariants as x
use Rattle.vl_tree.specs.declared.tree.Select.{Select}
use Rattle.vl_tree.specs.declared.tree.Bound.{Bound}
use Rattle.vl_tree.specs.declared.tree.SystemCall.{SystemCall}
use Rattle.vl_tree.specs.declared.tree.SystemArgument.{SystemArgument}
use Rattle.vl_tree.specs.MarksOfGrammar.{binary_operator, unary_operator, select_mark}
use Rattle.vl_tree.specs.Grammar.{expression_of, choice_of, binary_of, link_of, unary_of, name_of, select_of, bound_of, call_of, system_of, argument_of}
use Rattle.vl_tree.specs.Reading.{Parser, ◌>>=◌, pure, fails, if_next, must, many, placed, if_ahead, mark}

unfoldable pub operators : ℕ → Parser (List UnaryMark)
operators n = many unary_operator (λ o. pure o) n

abbrev pub ends_kind : TokenKind → Bool
ends_kind (k.Mark m) = bytes_eq m (codes ",") || bytes_eq m (codes ")")
ends_kind _ = false

-- an empty argument is followed by this token
unfoldable pub ends_argument : Token → Bool
ends_argument t = ends_kind t.kind

module _ (inner : Parser Expression) (n : ℕ) where
  -- behind "?"
  unfoldable pub branches : Parser Choice
  branches = inner >>= λ a. must (mark (codes ":")) (λ _. inner >>= λ b. pure (choice_of a b))

  unfoldable pub choice : Parser (Option Choice)
  choice = if_next (mark (codes "?")) (λ _. branches >>= λ c. pure (Some c)) (pure None)

  -- behind commas
  unfoldable pub more : Parser (List Expression)
  more = many (mark (codes ",")) (λ _. inner) n

  unfoldable pub expressions : Parser (List Expression)
  expressions = inner >>= λ e. more >>= λ es. pure (e ∷ es)

  unfoldable pub bound : Parser (Option Bound)
  bound = if_next select_mark (λ m. inner >>= λ e. pure (Some (bound_of m e))) (pure None)

  -- behind "["
  unfoldable pub select : Place → Parser Select
  select p = inner >>= λ e. bound >>= λ b. must (mark (codes "]")) (λ _. pure (select_of p e b))

  unfoldable pub selects : Parser (List Select)
  selects = many (mark (codes "[")) select n

  -- behind a name
  unfoldable pub named : Place → List ℕ → Parser Primary
  named p s = if_next (mark (codes "(")) (λ _. expressions >>= λ es. must (mark (codes ")")) (λ _. pure (call_of p s es))) (selects >>= λ ss. pure (x.Name (name_of p s ss)))

  unfoldable pub argument : Parser SystemArgument
  argument = if_ahead ends_argument (pure (argument_of None)) (inner >>= λ e. pure (argument_of (Some e)))

  -- behind "("
  unfoldable pub arguments : Parser (List SystemArgument)
  arguments = argument >>= λ a. many (mark (codes ",")) (λ _. argument) n >>= λ others. must (mark (codes ")")) (λ _. pure (a ∷ others))

  -- behind a system name
  unfoldable pub system : Place → List ℕ → Parser SystemCall
  system p s = if_next (mark (codes "(")) (λ _. arguments >>= λ given. pure (system_of p s (Some given))) (pure (system_of p s None))

  unfoldable pub system_primary : Place → List ℕ → Parser Primary
  system_primary p s = system p s >>= λ c. pure (x.System c)

  -- behind "("
  unfoldable pub parenthesized : Place → Parser Primary
  parenthesized p = inner >>= λ e. must (mark (codes ")")) (λ _. pure (x.Parenthesized p e))

  -- behind the inner "{" of a replication
  unfoldable pub replication : Place → Expression → Parser Primary
  replication p e = expressions >>= λ es. must (mark (codes "}")) (λ _. must (mark (codes "}")) (λ _. pure (x.Replication p e es)))

  -- behind the first expression of a concatenation
  unfoldable pub concatenation : Place → Expression → Parser Primary
  concatenation p e = more >>= λ es. must (mark (codes "}")) (λ _. pure (x.Concatenation p (e ∷ es)))

  -- behind "{"
  unfoldable pub braced : Place → Parser Primary
  braced p = inner >>= λ e. if_next (mark (codes "{")) (λ _. replication p e) (concatenation p e)

  abbrev pub primary_mark : Place → List ℕ → Option (Parser Primary)
  primary_mark p m = if bytes_eq m (codes "(") then Some (parenthesized p) else if bytes_eq m (codes "{") then Some (braced p) else None

  abbrev pub primary_kind : Place → TokenKind → Option (Parser Primary)
  primary_kind p (k.Number m) = Some (pure (x.Number p m))
  primary_kind p (k.Str s) = Some (pure (x.Str p s))
  primary_kind p (k.Name s) = Some (named p s)
  primary_kind p (k.System s) = Some (system_primary p s)
  primary_kind p (k.Mark m) = primary_mark p m
  primary_kind p (k.Keyword s) = None

  -- what stands behind the first token of a primary, by that token
  unfoldable pub primary_by : Token → Option (Parser Primary)
  primary_by t = primary_kind t.place t.kind

  unfoldable pub primary : Parser Primary
  primary = must primary_by (λ p. p)

  unfoldable pub unary : Parser Unary
  unary = placed unary_of (operators n) primary

  unfoldable pub links : Parser (List Link)
  links = many binary_operator (λ o. unary >>= λ f. pure (link_of o f)) n

  unfoldable pub binary : Parser Binary
  binary = placed binary_of unary links

  unfoldable pub level : Parser Expression
  level = placed expression_of binary choice

unfoldable pub expr : ℕ → Parser Expression
expr zero = fails
expr (suc n) = level (expr n) n
