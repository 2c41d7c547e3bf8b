-- Numbers: how they are spelled, and what they mean (IEEE 1364-2005, 3.5.1 and annex A.8.7).
use Rattle.std.specs.Prelude.{◌≡◌, ℕ, ◌+◌, ◌-◌, ◌*◌, ◌%◌, ◌^◌, ◌==◌, nat_le, nat_lt, Bool, true, false, ◌||◌, ◌&&◌, if◌then◌else◌, List, [], ◌∷◌, ◌++◌, Option, Some, None, Result, Ok, Err, IsTrue, fold}
use Rattle.std.specs.List.{list_any}
use Rattle.vl_base.specs.declared.number.Number.{Number}
use Rattle.vl_tree.specs.Bytes.{is_between, is_white, is_figure, is_decimal, Are, Ends}

-- ---- digits

-- 0 to 9, a to f and A to F
unfoldable pub is_hex : ℕ → Bool
is_hex b = is_between 48 57 b || (is_between 97 102 b || is_between 65 70 b)

-- x or X
unfoldable pub is_x : ℕ → Bool
is_x b = (b == 120) || (b == 88)

-- z, Z or ?, which is another z (3.5.1)
unfoldable pub is_z : ℕ → Bool
is_z b = (b == 122) || ((b == 90) || (b == 63))

-- what a digit is worth; 0 for x and z
unfoldable pub digit_value : ℕ → ℕ
digit_value b = if is_between 48 57 b then b - 48 else (if is_between 97 102 b then b - 87 else (if is_between 65 70 b then b - 55 else 0))

-- a digit of the base
unfoldable pub is_digit : ℕ → ℕ → Bool
is_digit radix b = is_hex b && nat_lt (digit_value b) radix

-- a byte that may be the first digit: `_` may not. (After base d an x or z is read, and is a fault.)
unfoldable pub is_first_digit : ℕ → ℕ → Bool
is_first_digit radix b = is_digit radix b || (is_x b || is_z b)

-- a byte that goes on with the digits: a digit of the base, `_`, and, but for base d, x and z.
-- Nothing goes on behind an x or z of base d.
unfoldable pub is_further_digit : ℕ → ℕ → ℕ → Bool
is_further_digit radix first b =
    if radix == 10
    then is_digit 10 first && (is_digit 10 b || (b == 95))
    else (is_digit radix b || ((b == 95) || (is_x b || is_z b)))

-- ---- what digits mean

-- the number that digits spell in a base; `_` counts for nothing
abbrev pub shifted : ℕ → ℕ → ℕ → ℕ
shifted radix value b = if b == 95 then value else value * radix + digit_value b

unfoldable pub value_of : ℕ → List ℕ → ℕ
value_of radix = fold (shifted radix) 0

-- the bits that z digits give, written as a number; a leading z goes on to the left (3.5.1)
abbrev pub shifted_z : ℕ → ℕ → ℕ → ℕ
shifted_z radix bits b = if b == 95 then bits else bits * radix + (if is_z b then radix - 1 else 0)

abbrev pub leading_z : List ℕ → ℕ
leading_z [] = 0
leading_z (b ∷ bs) = if is_z b then 2 ^ 128 - 1 else 0

unfoldable pub z_bits : ℕ → List ℕ → ℕ
z_bits radix digits = fold (shifted_z radix) (leading_z digits) digits

-- a number is signed if it is a plain decimal or marked `s`; without a size it has 32 bits, the least that the standard allows (3.5.1)
abbrev pub plain_number : List ℕ → Number
plain_number digits = record { value = value_of 10 digits; care = 2 ^ 32 - 1; width = 32; sized = false; signed = true }

-- what is wider than the width is cut on the left (3.5.1)
abbrev pub number_in : ℕ → Bool → Bool → ℕ → List ℕ → Number
number_in width sized signed radix digits = record {
  value = value_of radix digits % 2 ^ width;
  care = (2 ^ width - 1) - z_bits radix digits % 2 ^ width;
  width = width;
  sized = sized;
  signed = signed;
}

-- a number with a size (no byte: none is written), or the least cause why it is none: 4 the size is 0; 5 the size is
-- above 128; 6 an x digit, or a z digit after base d
abbrev pub sized_number : List ℕ → Bool → ℕ → List ℕ → Result Number ℕ
sized_number size signed radix digits =
    if value_of 10 size == 0 then Err 4
    else (if nat_lt 128 (value_of 10 size) then Err 5
    else (if list_any is_x digits || (list_any is_z digits && (radix == 10)) then Err 6
    else Ok (number_in (value_of 10 size) true signed radix digits)))

-- a number without a size, or why it is none: 5 its value needs more than 32 bits; 6 an x or z digit
abbrev pub unsized_number : Bool → ℕ → List ℕ → Result Number ℕ
unsized_number signed radix digits =
    if nat_le (2 ^ 32) (value_of radix digits) then Err 5
    else (if list_any is_x digits || list_any is_z digits then Err 6
    else Ok (number_in 32 false signed radix digits))

unfoldable pub number_of : List ℕ → Bool → ℕ → List ℕ → Result Number ℕ
number_of [] signed radix digits = unsized_number signed radix digits
number_of (b ∷ bs) signed radix digits = sized_number (b ∷ bs) signed radix digits

-- ---- how they are spelled

-- a figure, then figures and `_`
abbrev pub IsPlain : List ℕ → Type 0
IsPlain [] = ⊥
IsPlain (b ∷ bs) = IsTrue (is_figure b) × Are is_decimal bs

-- a size, or nothing
abbrev pub IsSize : List ℕ → Type 0
IsSize [] = Unit {0}
IsSize (b ∷ bs) = IsPlain (b ∷ bs)

-- b, o, d and h, in either case
unfoldable pub radix_of : ℕ → Option ℕ
radix_of b =
    if (b == 98) || (b == 66) then Some 2
    else (if (b == 111) || (b == 79) then Some 8
    else (if (b == 100) || (b == 68) then Some 10
    else (if (b == 104) || (b == 72) then Some 16 else None)))

-- `s`, `S` or nothing
unfoldable pub is_sign : ℕ → Bool
is_sign b = (b == 115) || (b == 83)

pub data IsSign : List ℕ → Bool → Type 0 where
  unmarked : IsSign [] false
  marked : {b : ℕ} → IsTrue (is_sign b) → IsSign (b ∷ []) true

-- What stands behind the apostrophe: a sign, a base, white space and digits, as many as there are. Then comes rest.
pub record Digits (text : List ℕ) (signed : Bool) (radix : ℕ) (digits rest : List ℕ) : Type 0 where
  pub sign : List ℕ
  pub letter : ℕ
  pub gap : List ℕ
  pub first : ℕ
  pub more : List ℕ
  pub spelled : text ≡ sign ++ (letter ∷ (gap ++ (first ∷ (more ++ rest))))
  pub digits_are : digits ≡ first ∷ more
  pub is_sign : IsSign sign signed
  pub is_base : radix_of letter ≡ Some radix
  pub is_gap : Are is_white gap
  pub is_first : IsTrue (is_first_digit radix first)
  pub are_digits : Are (is_further_digit radix first) more
  pub ends : Ends (is_further_digit radix first) rest

-- white space behind a size; without a size there is none
abbrev pub IsSpace : List ℕ → List ℕ → Type 0
IsSpace [] gap = gap ≡ []
IsSpace (b ∷ bs) gap = Are is_white gap

-- A size or none, white space and an apostrophe, behind which comes tail: here a based number begins.
pub record Based (text size tail : List ℕ) : Type 0 where
  pub gap : List ℕ
  pub spelled : text ≡ size ++ (gap ++ (39 ∷ tail))
  pub is_size : IsSize size
  pub is_space : IsSpace size gap

-- A plain number, with rest behind it: as many digits as there are, and no based number begins with it.
pub record Plain (text digits rest : List ℕ) : Type 0 where
  pub spelled : text ≡ digits ++ rest
  pub is_plain : IsPlain digits
  pub ends : Ends is_decimal rest
  pub alone : (gap tail : List ℕ) → Are is_white gap → rest ≡ gap ++ (39 ∷ tail) → ⊥
