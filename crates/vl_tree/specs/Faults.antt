-- What stands where no gap and no token begins, and the first such place of a text.
use Rattle.std.specs.Prelude.{◌≡◌, ◌≤◌, ◌<◌, ◌^◌, ℕ, ◌==◌, Bool, ◌||◌, MatchBool, List, [], ◌∷◌, length, Err}
use Rattle.vl_base.specs.declared.place.Place.{Place}
use Rattle.vl_tree.specs.declared.token.Token.{Token}
use Rattle.vl_tree.specs.declared.token.TokenKind.{TokenKind}
use Rattle.vl_tree.specs.Bytes.{is_figure}
use Rattle.vl_tree.specs.Numbers.{value_of, number_of, Digits, Based, Plain}
use Rattle.vl_tree.specs.Gaps.{opens_block, opens_attribute, IsGap}
use Rattle.vl_tree.specs.Tokens.{IsToken, start, Passes, Tokens}

-- Why a number that begins here is none: 4 no base or no digit, or a size of 0; 5 too wide; 6 a digit that isn't allowed.
pub data NumberFault (text : List ℕ) (cause : ℕ) : Type 0 where
  too_wide : {digits rest : List ℕ} → Plain text digits rest → 2 ^ 32 ≤ value_of 10 digits → cause ≡ 5 → NumberFault text cause
  no_number : {size tail digits rest : List ℕ} {signed : Bool} {radix : ℕ} → Based text size tail → Digits tail signed radix digits rest → number_of size signed radix digits ≡ Err cause → NumberFault text cause
  no_digits : {size tail : List ℕ} → Based text size tail → ((signed : Bool) (radix : ℕ) (digits rest : List ℕ) → Digits tail signed radix digits rest → ⊥) → cause ≡ 4 → NumberFault text cause

-- Why neither a gap nor a token stands at the front of the text: 2 a comment or an attribute is open, 3 a string is open,
-- 4 to 6 what begins as a number is none, 1 nothing begins with this byte.
abbrev pub IsCause : List ℕ → ℕ → Type 0
IsCause [] cause = ⊥
IsCause (b ∷ bs) cause =
    MatchBool (opens_block (b ∷ bs) || opens_attribute (b ∷ bs)) (cause ≡ 2)
    (MatchBool (b == 34) (cause ≡ 3)
    (MatchBool (is_figure b || (b == 39)) (NumberFault (b ∷ bs) cause)
    (cause ≡ 1)))

-- Neither a gap nor a token stands at the front of the text, and why.
pub record IsFault (text : List ℕ) (cause : ℕ) : Type 0 where
  pub no_gap : (after : List ℕ) → IsGap text after → ⊥
  pub no_token : (kind : TokenKind) (after : List ℕ) → IsToken text kind after → ⊥
  pub why : IsCause text cause

-- limits 1 and 2
abbrev pub most_bytes : ℕ
most_bytes = 1048576

abbrev pub most_tokens : ℕ
most_tokens = 200000

-- A text within both limits, and its tokens.
pub record IsRead (text : List ℕ) (tokens : List Token) : Type 0 where
  pub short : length text ≤ most_bytes
  pub few : length tokens ≤ most_tokens
  pub read : Tokens text tokens

-- The first fault of a text: up to this place it is gaps and tokens, and neither follows.
pub record IsFirstFault (text : List ℕ) (place : Place) (cause : ℕ) : Type 0 where
  pub before : List Token
  pub rest : List ℕ
  pub short : length text ≤ most_bytes
  pub few : length before ≤ most_tokens
  pub passes : Passes start text before place rest
  pub fault : IsFault rest cause

-- The limit that a text passes: 1 at its first place, or 2 at the token past the last that is allowed.
pub data IsFirstLimit (text : List ℕ) (place : Place) (limit : ℕ) : Type 0 where
  bytes : most_bytes < length text → place ≡ start → limit ≡ 1 → IsFirstLimit text place limit
  tokens : {before : List Token} {rest after : List ℕ} {kind : TokenKind} → length text ≤ most_bytes → length before ≡ most_tokens → Passes start text before place rest → IsToken rest kind after → limit ≡ 2 → IsFirstLimit text place limit
