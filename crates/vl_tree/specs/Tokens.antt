-- Tokens, and texts that are tokens with gaps between (IEEE 1364-2005, 3.1).
use Rattle.std.specs.Prelude.{◌≡◌, ◌<◌, ◌^◌, ℕ, ◌+◌, ◌==◌, Bool, true, false, if◌then◌else◌, List, [], ◌∷◌, ◌++◌, Ok, IsTrue}
use Rattle.vl_base.specs.declared.place.Place.{Place}
use Rattle.vl_base.specs.declared.number.Number.{Number}
use Rattle.vl_tree.specs.declared.token.Token.{Token}
use Rattle.vl_tree.specs.declared.token.TokenKind.{TokenKind}
use Rattle.vl_tree.specs.declared.token.TokenKind.TheVariants as t
use Rattle.vl_tree.specs.Bytes.{is_white, is_name_byte, Ends}
use Rattle.vl_tree.specs.Names.{IsName, IsEscaped, IsSystem, is_reserved}
use Rattle.vl_tree.specs.Numbers.{number_of, value_of, plain_number, Digits, Based, Plain}
use Rattle.vl_tree.specs.Strings.{IsString}
use Rattle.vl_tree.specs.Marks.{IsMark}
use Rattle.vl_tree.specs.Gaps.{opens, IsGap}

-- the text ends here, or white space comes, which ends an escaped name (3.7.1)
abbrev pub EndsAtWhite : List ℕ → Type 0
EndsAtWhite [] = Unit {0}
EndsAtWhite (b ∷ bs) = IsTrue (is_white b)

-- A token of this kind, the longest, stands at the front of the text, and rest follows it.
pub data IsToken (text : List ℕ) : TokenKind → List ℕ → Type 0 where
  keyword : {word rest : List ℕ} → text ≡ word ++ rest → IsName word → Ends is_name_byte rest → is_reserved word ≡ true → IsToken text (t.Keyword word) rest
  name : {word rest : List ℕ} → text ≡ word ++ rest → IsName word → Ends is_name_byte rest → is_reserved word ≡ false → IsToken text (t.Name word) rest
  escaped_name : {word rest : List ℕ} → text ≡ 92 ∷ (word ++ rest) → IsEscaped word → EndsAtWhite rest → IsToken text (t.Name word) rest
  system_name : {word rest : List ℕ} → text ≡ 36 ∷ (word ++ rest) → IsSystem word → Ends is_name_byte rest → IsToken text (t.System (36 ∷ word)) rest
  plain : {digits rest : List ℕ} → Plain text digits rest → value_of 10 digits < 2 ^ 32 → IsToken text (t.Number (plain_number digits)) rest
  based : {size tail digits rest : List ℕ} {signed : Bool} {radix : ℕ} {n : Number} → Based text size tail → Digits tail signed radix digits rest → number_of size signed radix digits ≡ Ok n → IsToken text (t.Number n) rest
  string : {bytes rest : List ℕ} → IsString text bytes rest → IsToken text (t.Str bytes) rest
  mark : {mark rest : List ℕ} → IsMark text mark rest → opens text ≡ false → IsToken text (t.Mark mark) rest

-- the first place of a text
abbrev pub start : Place
start = record { line = 1; column = 1 }

-- the place after one more byte; byte 10 ends a line
abbrev pub next_place : Place → ℕ → Place
next_place p b = if b == 10 then record { line = p.line + 1; column = 1 } else record { line = p.line; column = p.column + 1 }

-- the place after these bytes
unfoldable pub place_after : Place → List ℕ → Place
place_after p [] = p
place_after p (b ∷ bs) = place_after (next_place p b) bs

-- From place p the text is gaps and tokens in turn: these tokens, each with the place of its first byte. Then, at
-- place q, comes rest.
pub data Passes : Place → List ℕ → List Token → Place → List ℕ → Type 0 where
  here : {p : Place} {text : List ℕ} → Passes p text [] p text
  gap : {p q : Place} {text after rest : List ℕ} {tokens : List Token} (passed : List ℕ) → text ≡ passed ++ after → IsGap text after → Passes (place_after p passed) after tokens q rest → Passes p text tokens q rest
  token : {p q : Place} {text after rest : List ℕ} {kind : TokenKind} {tokens : List Token} (passed : List ℕ) → text ≡ passed ++ after → IsToken text kind after → Passes (place_after p passed) after tokens q rest → Passes p text (record { place = p; kind = kind } ∷ tokens) q rest

-- The whole text is gaps and these tokens in turn.
abbrev pub Tokens : List ℕ → List Token → Type 0
Tokens text tokens = (end : Place) × Passes start text tokens end []
