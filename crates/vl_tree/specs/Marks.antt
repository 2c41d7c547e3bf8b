-- Marks: operators (IEEE 1364-2005, 3.4 and table 5-1) and the punctuation of the grammar (annex A).
use Rattle.std.specs.Prelude.{◌≡◌, ◌≤◌, ℕ, Bool, ◌||◌, List, [], ◌∷◌, ◌++◌, length, IsTrue, codes}
use Rattle.std.specs.List.{list_any}
use Rattle.std.specs.Str.{bytes_eq}

abbrev pub marks_of_three : List (List ℕ)
marks_of_three = codes "<<<" ∷ codes ">>>" ∷ codes "===" ∷ codes "!==" ∷ []

abbrev pub marks_of_two : List (List ℕ)
marks_of_two =
    codes "<<" ∷ codes ">>" ∷ codes "<=" ∷ codes ">=" ∷ codes "==" ∷ codes "!=" ∷ codes "&&" ∷ codes "||" ∷
    codes "~&" ∷ codes "~|" ∷ codes "~^" ∷ codes "^~" ∷ codes "+:" ∷ codes "-:" ∷ []

abbrev pub marks_of_one : List (List ℕ)
marks_of_one =
    codes "(" ∷ codes ")" ∷ codes "[" ∷ codes "]" ∷ codes "{" ∷ codes "}" ∷ codes "," ∷ codes ";" ∷ codes ":" ∷
    codes "." ∷ codes "#" ∷ codes "@" ∷ codes "=" ∷ codes "?" ∷ codes "+" ∷ codes "-" ∷ codes "*" ∷ codes "/" ∷
    codes "%" ∷ codes "<" ∷ codes ">" ∷ codes "!" ∷ codes "~" ∷ codes "&" ∷ codes "|" ∷ codes "^" ∷ []

-- the bytes are one of them
abbrev pub is_among : List (List ℕ) → List ℕ → Bool
is_among marks s = list_any (bytes_eq s) marks

unfoldable pub is_mark : List ℕ → Bool
is_mark s = is_among marks_of_three s || (is_among marks_of_two s || is_among marks_of_one s)

-- The longest mark at the front of the text, with rest behind it.
pub record IsMark (text mark rest : List ℕ) : Type 0 where
  pub spelled : text ≡ mark ++ rest
  pub is_one : IsTrue (is_mark mark)
  pub longest : (other more : List ℕ) → text ≡ other ++ more → IsTrue (is_mark other) → length other ≤ length mark
