-- Kinds of bytes, and runs of them.
use Rattle.std.specs.Prelude.{◌≡◌, ℕ, ◌==◌, nat_le, Bool, false, ◌||◌, ◌&&◌, List, [], ◌∷◌, IsTrue, cond, not}
use Rattle.std.specs.List.{list_all}

abbrev pub is_between : ℕ → ℕ → ℕ → Bool
is_between low high b = nat_le low b && nat_le b high

-- space, tab, newline and form feed (IEEE 1364-2005, 3.2), and beyond the standard the carriage return
unfoldable pub is_white : ℕ → Bool
is_white b = (b == 32) || ((b == 10) || ((b == 9) || ((b == 13) || (b == 12))))

-- a letter or `_`, the first byte of a name (3.7)
unfoldable pub is_letter : ℕ → Bool
is_letter b = is_between 97 122 b || (is_between 65 90 b || (b == 95))

-- 0 to 9 (annex A.8.7)
unfoldable pub is_figure : ℕ → Bool
is_figure b = is_between 48 57 b

-- a letter, a figure, `_` or `$`: a further byte of a name (3.7)
unfoldable pub is_name_byte : ℕ → Bool
is_name_byte b = is_letter b || (is_figure b || (b == 36))

-- a printable byte other than white space (3.7.1)
unfoldable pub is_printed : ℕ → Bool
is_printed b = is_between 33 126 b

-- a byte of a plain number: a figure or `_` (3.5.1, annex A.8.7)
unfoldable pub is_decimal : ℕ → Bool
is_decimal b = is_figure b || (b == 95)

-- 0 to 7 (annex A.8.7)
unfoldable pub is_octal : ℕ → Bool
is_octal b = is_between 48 55 b

-- any byte but the newline, which ends a line (3.2, 3.3)
unfoldable pub is_in_line : ℕ → Bool
is_in_line b = not (b == 10)

-- every byte passes
abbrev pub Are : (ℕ → Bool) → List ℕ → Type 0
Are p s = IsTrue (list_all p s)

-- the text ends here, or its next byte doesn't pass
abbrev pub Ends : (ℕ → Bool) → List ℕ → Type 0
Ends p [] = Unit {0}
Ends p (b ∷ bs) = p b ≡ false

-- the text begins with this byte
abbrev pub begins : ℕ → List ℕ → Bool
begins b [] = false
begins b (c ∷ cs) = c == b

-- what follows the run of bytes at the front that pass
unfoldable pub past : (ℕ → Bool) → List ℕ → List ℕ
past p [] = []
past p (b ∷ bs) = cond (p b) (past p bs) (b ∷ bs)
