-- Strings (IEEE 1364-2005, 3.6, annex A.8.8).
use Rattle.std.specs.Prelude.{◌≡◌, ℕ, ◌+◌, ◌-◌, ◌*◌, ◌%◌, ◌==◌, Bool, not, ◌||◌, if◌then◌else◌, List, [], ◌∷◌, IsTrue}
use Rattle.vl_tree.specs.Bytes.{is_octal, Ends}

-- any byte of a line but `"` and `\`
unfoldable pub is_plain : ℕ → Bool
is_plain b = not ((b == 34) || ((b == 92) || (b == 10)))

-- a byte of a line that is no octal digit
unfoldable pub is_escape : ℕ → Bool
is_escape b = not (is_octal b || (b == 10))

-- `\n` is a newline, `\t` a tab, `\\` and `\"` stand for what is escaped (3.6.3), and beyond the standard so does any other byte
unfoldable pub escape_of : ℕ → ℕ
escape_of b = if b == 110 then 10 else (if b == 116 then 9 else b)

-- One byte of a string stands at the front of the text: the byte that it stands for, and what follows it.
-- An octal escape takes up to three digits, as many as there are (3.6.3); of a value above 255 the low eight bits are taken.
pub data Item : List ℕ → ℕ → List ℕ → Type 0 where
  plain : {b : ℕ} {rest : List ℕ} → IsTrue (is_plain b) → Item (b ∷ rest) b rest
  escape : {c b : ℕ} {rest : List ℕ} → c ≡ 92 → IsTrue (is_escape b) → Item (c ∷ b ∷ rest) (escape_of b) rest
  one_digit : {c x : ℕ} {rest : List ℕ} → c ≡ 92 → IsTrue (is_octal x) → Ends is_octal rest → Item (c ∷ x ∷ rest) (x - 48) rest
  two_digits : {c x y : ℕ} {rest : List ℕ} → c ≡ 92 → IsTrue (is_octal x) → IsTrue (is_octal y) → Ends is_octal rest → Item (c ∷ x ∷ y ∷ rest) ((x - 48) * 8 + (y - 48)) rest
  three_digits : {c x y z : ℕ} {rest : List ℕ} → c ≡ 92 → IsTrue (is_octal x) → IsTrue (is_octal y) → IsTrue (is_octal z) → Item (c ∷ x ∷ y ∷ z ∷ rest) ((((x - 48) * 8 + (y - 48)) * 8 + (z - 48)) % 256) rest

-- Some such bytes in turn.
pub data Items : List ℕ → List ℕ → List ℕ → Type 0 where
  no_more : {text : List ℕ} → Items text [] text
  more : {b : ℕ} {bs text after rest : List ℕ} → Item text b after → Items after bs rest → Items text (b ∷ bs) rest

-- A string stands at the front of the text: the bytes that it stands for, and what follows it.
abbrev pub IsString : List ℕ → List ℕ → List ℕ → Type 0
IsString text bytes rest = (inside : List ℕ) × (text ≡ 34 ∷ inside) × Items inside bytes (34 ∷ rest)
