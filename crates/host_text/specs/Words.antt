-- The lines of a script, the words of a line, and which words are names, paths and numbers.
use Rattle.std.specs.Prelude.{ℕ, ◌+◌, ◌*◌, ◌-◌, Bool, not, ◌&&◌, ◌||◌, ◌==◌, nat_le, if◌then◌else◌, List, [], ◌∷◌, length, Option, Some, None, filter}
use Rattle.std.specs.List.{slice_split, list_all}

-- ---- lines

-- what stands between the newlines, but that an empty rest behind the last of them is no line
abbrev pub without_empty_rest : List (List ℕ) → List (List ℕ)
without_empty_rest [] = []
without_empty_rest (rest ∷ []) = if length rest == 0 then [] else rest ∷ []
without_empty_rest (line ∷ next ∷ more) = line ∷ without_empty_rest (next ∷ more)

-- the lines: each ends with a newline or with the script
abbrev pub lines : List ℕ → List (List ℕ)
lines bytes = without_empty_rest (slice_split (λ b. b == 10) bytes)

-- a tab, or from 32 to 126
abbrev pub is_plain_byte : ℕ → Bool
is_plain_byte b = b == 9 || (nat_le 32 b && nat_le b 126)

-- at most 1,024 bytes, each a tab or from 32 to 126
abbrev pub is_plain : List ℕ → Bool
is_plain text = nat_le (length text) 1024 && list_all is_plain_byte text

-- ---- words

-- a space or a tab
abbrev pub is_blank : ℕ → Bool
is_blank b = b == 32 || b == 9

-- a text up to the first `#`, at which a comment begins
abbrev pub uncommented : List ℕ → List ℕ
uncommented [] = []
uncommented (b ∷ bs) = if b == 35 then [] else b ∷ uncommented bs

-- the words: what stands between spaces and tabs, before a comment
abbrev pub words : List ℕ → List (List ℕ)
words text = filter (λ w. not (length w == 0)) (slice_split is_blank (uncommented text))

-- ---- names, paths, numbers

abbrev pub is_letter : ℕ → Bool
is_letter b = (nat_le 65 b && nat_le b 90) || (nat_le 97 b && nat_le b 122)

abbrev pub is_digit : ℕ → Bool
is_digit b = nat_le 48 b && nat_le b 57

-- a letter, a digit, `_` or `-`
abbrev pub is_name_byte : ℕ → Bool
is_name_byte b = is_letter b || is_digit b || b == 95 || b == 45

-- one of these, or `.`
abbrev pub is_save_byte : ℕ → Bool
is_save_byte b = is_name_byte b || b == 46

-- from 33 to 126, and not `#`
abbrev pub is_path_byte : ℕ → Bool
is_path_byte b = nat_le 33 b && nat_le b 126 && not (b == 35)

-- the name of a fabric or a tenant
abbrev pub is_name : List ℕ → Bool
is_name word = nat_le 1 (length word) && nat_le (length word) 32 && list_all is_name_byte word

-- the name of a snapshot
abbrev pub is_save_name : List ℕ → Bool
is_save_name word = nat_le 1 (length word) && nat_le (length word) 32 && list_all is_save_byte word

abbrev pub is_path : List ℕ → Bool
is_path word = nat_le 1 (length word) && nat_le (length word) 255 && list_all is_path_byte word

-- the number that decimal digits write behind those of n
abbrev pub value : ℕ → List ℕ → ℕ
value n [] = n
value n (digit ∷ digits) = value (n * 10 + (digit - 48)) digits

-- the number that a word writes: 1 to 10 decimal digits, of value at most 1,000,000,000
abbrev pub number : List ℕ → Option ℕ
number word =
    if nat_le 1 (length word) && nat_le (length word) 10 && list_all is_digit word && nat_le (value 0 word) 1000000000 then Some (value 0 word) else None
