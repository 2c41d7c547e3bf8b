-- What is said of the tokens of a text.
use Rattle.std.specs.Prelude.{◌≡◌, ◌<◌, ◌≤◌, ℕ, ◌+◌, List, [], ◌∷◌, ◌++◌, length, take, Some, codes, slice_get, ◌⊎◌}
use Rattle.std.specs.List.{AllByRecursion}
use Rattle.vl_tree.specs.vl_base.specs.declared.place.Place.{Place}
use Rattle.vl_tree.specs.declared.token.Token.{Token}
use Rattle.vl_tree.specs.declared.token.TokenKind.{TokenKind}
use Rattle.vl_tree.specs.declared.token.TokenKind.TheVariants as t
use Rattle.vl_tree.specs.Tokens.{IsToken, start, place_after, Passes}
use Rattle.vl_tree.specs.Faults.{IsRead, IsFirstFault, most_bytes, most_tokens}

-- The text is some bytes up to the token's place, the token's spelling, and the rest; here no other token stands.
pub record IsSlice (text : List ℕ) (token : Token) : Type 0 where
  pub before : List ℕ
  pub spelling : List ℕ
  pub rest : List ℕ
  pub spelled : text ≡ before ++ (spelling ++ rest)
  pub at_place : token.place ≡ place_after start before
  pub is_token : IsToken (spelling ++ rest) token.kind rest
  pub longest : (other beyond : List ℕ) (kind : TokenKind) → spelling ++ rest ≡ other ++ beyond → IsToken (spelling ++ rest) kind beyond → other ≡ spelling

abbrev pub AreSlices : List ℕ → List Token → Type 0
AreSlices text tokens = AllByRecursion (IsSlice text) tokens

-- on a later line, or further on in the same line
abbrev pub IsBefore : Place → Place → Type 0
IsBefore p q = (p.line < q.line) ⊎ ((p.line ≡ q.line) × (p.column < q.column))

-- each place is before the next one
abbrev pub Rise : List Token → Type 0
Rise [] = Unit {0}
Rise (a ∷ []) = Unit {0}
Rise (a ∷ b ∷ tokens) = IsBefore a.place b.place × Rise (b ∷ tokens)

-- ---- a text that is cut

-- The cut text is all of the text up to the last byte of its token number n; the first token is number 0.
pub record IsCutBehind (text : List ℕ) (tokens : List Token) (n : ℕ) (cut : List ℕ) : Type 0 where
  pub token : Token
  pub is_nth : slice_get tokens n ≡ Some token
  pub slice : IsSlice text token
  pub spelled : cut ≡ slice.before ++ slice.spelling

-- the mark `(` at a place and, right behind it, the mark `*`
abbrev pub paren_star : Place → List Token
paren_star p = record { place = p; kind = t.Mark (codes "(") } ∷ record { place = record { line = p.line; column = p.column + 1 }; kind = t.Mark (codes "*") } ∷ []

-- the last two tokens are such a `(` and `*`
abbrev pub EndIn : List Token → Place → Type 0
EndIn tokens place = (earlier : List Token) × (tokens ≡ earlier ++ paren_star place)

-- The cut text is read as these tokens, and they don't end in `(*`. Or they do, and there the cut text opens an attribute
-- (IEEE 1364-2005, 3.8), since the `)` is gone: its first fault stands at that `(`, and its cause is 2.
abbrev pub IsReadOrOpen : List ℕ → List Token → Type 0
IsReadOrOpen cut tokens = (IsRead cut tokens × ((place : Place) → ¬ EndIn tokens place)) ⊎ ((place : Place) × EndIn tokens place × IsFirstFault cut place 2)

-- A text cut behind a token or a gap is read as the tokens so far, or `(*` is open in it.
abbrev pub CutText : Type 0
CutText = (cut rest : List ℕ) (end : Place) (tokens : List Token) → length cut ≤ most_bytes → length tokens ≤ most_tokens → Passes start (cut ++ rest) tokens end rest → IsReadOrOpen cut tokens

-- A text that is read, cut right behind its token number n, is read as the n + 1 tokens so far, or `(*` is open in it.
abbrev pub CutBehindToken : Type 0
CutBehindToken = (text cut : List ℕ) (tokens : List Token) (n : ℕ) → IsRead text tokens → IsCutBehind text tokens n cut → IsReadOrOpen cut (take (n + 1) tokens)

-- A text can be cut behind each of its tokens, and in one way.
abbrev pub EachCut : Type 0
EachCut = (text : List ℕ) (tokens : List Token) (n : ℕ) → IsRead text tokens → n < length tokens → (cut : List ℕ) × IsCutBehind text tokens n cut × ((other : List ℕ) → IsCutBehind text tokens n other → other ≡ cut)

-- the tokens of `(*)`
abbrev pub star_in_parentheses : List Token
star_in_parentheses = paren_star start ++ (record { place = record { line = 1; column = 3 }; kind = t.Mark (codes ")") } ∷ [])
