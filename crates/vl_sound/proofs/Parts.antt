-- Small facts on faults, widths and lists.
use Rattle.std.proofs.Common.{◌≡◌, ◌<◌, ◌≤◌, ◌^◌, ◌*◌, max, ℕ, Bool, true, false, List, [], ◌∷◌, ◌++◌, length, Option, Some, zero, suc, refl, subst, arith, if◌then◌else◌}
use Rattle.std.specs.Prelude.{ℤ, not, ◌&&◌, nat_le, nat_lt, flat_map, slice_get, All}
use Rattle.std.proofs.Math.Pow.{pow_pos}
use Rattle.std.proofs.lemmas.List.Elements.{All-nil, All-cons, All-append, All-head, All-tail}
use Rattle.std.proofs.lemmas.Bool.{and_parts}
use Rattle.std.proofs.lemmas.Bool.Decides.{nat_tests}
use Rattle.std.proofs.lemmas.Nat.{mod_below}
use Rattle.vl_flat.specs.vl_base.specs.declared.number.Number.{Number}
use Rattle.vl_flat.specs.vl_base.specs.declared.place.Place.{Place}
use Rattle.vl_flat.specs.vl_design.specs.declared.design.Form.{Form}
use Rattle.vl_flat.specs.vl_design.specs.Formats.{text_width, text_number}
use Rattle.vl_flat.specs.vl_design.specs.Rows.{has_width}
use Rattle.vl_flat.specs.vl_design.specs.Sound.{IsWidth}
use Rattle.vl_flat.specs.vl_design.specs.Stops.{construct_if}
use Rattle.vl_flat.specs.vl_design.specs.Width.{unsigned}
use Rattle.vl_flat.specs.Binding.{is_proper}
use Rattle.vl_flat.specs.Expressions.{is_long, text_form, text_value}
use Rattle.vl_flat.specs.Ranges.{bits_in}
use Rattle.vl_sound.proofs.Lists.{Each, each-from, each-right}
pub use Rattle.vl_flat.specs.vl_base.proofs.Booleans.{not_false as not-false}
pub use Rattle.vl_flat.specs.vl_base.proofs.Lists.{append_none_right as none-right, append_none_left as none-left}
pub use Rattle.vl_flat.specs.vl_design.proofs.Shared.{clear, one as one-bit}
use Rattle.vl_flat.specs.vl_base.proofs.Numbers.{lt_from as below-is}

-- a fault of a whole whose strings are all short is none of its width
pub past-clear : (wide long : Bool) → long ≡ false → (not wide && not long) ≡ false → wide ≡ true
past-clear true long h e = refl
past-clear false true h e = let z : ⊥ = cc in absurd z
past-clear false false h e = let z : ⊥ = cc in absurd z

width-from : (w : ℕ) → nat_le 1 w ≡ true → nat_le w 128 ≡ true → IsWidth w
width-from w low high = record { wide = grind (arith, nat_tests); narrow = grind (arith, nat_tests) }

pub width-is : (w : ℕ) → has_width w ≡ true → IsWidth w
width-is w h = let (low, high) = and_parts (nat_le 1 w) (nat_le w 128) h in width-from w low high

-- a range that isn't too wide
pub narrow-is : (r : ℤ × ℤ) → nat_lt 128 (bits_in r) ≡ false → IsWidth (bits_in r)
narrow-is r h = record { wide = omega arith; narrow = grind (arith, nat_tests) }

-- ---- numbers and strings

pub number-is : (n : Number) → is_proper n ≡ true → IsWidth n.width × (n.value < 2 ^ n.width) × (n.care < 2 ^ n.width)
number-is n h =
    let (low, rest) = and_parts (nat_le 1 n.width) (nat_le n.width 128 && (nat_lt n.value (2 ^ n.width) && nat_lt n.care (2 ^ n.width))) h in
    let (high, both) = and_parts (nat_le n.width 128) (nat_lt n.value (2 ^ n.width) && nat_lt n.care (2 ^ n.width)) rest in
    let (value, care) = and_parts (nat_lt n.value (2 ^ n.width)) (nat_lt n.care (2 ^ n.width)) both in
    (width-from n.width low high, below-is n.value (2 ^ n.width) value, below-is n.care (2 ^ n.width) care)

bytes-wide : (n : ℕ) → nat_lt 16 n ≡ false → IsWidth (8 * max 1 n)
bytes-wide n h =
    let few : n ≤ 16 = grind (arith, nat_tests) in
    record { wide = omega (arith, few); narrow = omega (arith, few) }

pub text-is : (text : List ℕ) → is_long text ≡ false → IsWidth (text_width text) × (text_number text < 2 ^ text_width text)
text-is text h = (bytes-wide (length text) h, mod_below _ (2 ^ text_width text) (pow_pos (text_width text)))

-- one zero bit
pub zero-is : IsWidth 1 × (0 < 2 ^ 1)
zero-is = (one-bit, pow_pos 1)

-- a string as an operand, also one that is too long
pub operand-is : (text : List ℕ) → IsWidth (text_form text).width × (text_value text < 2 ^ (text_form text).width)
operand-is text = by (is_long text) refl
  where
    by : (c : Bool) → is_long text ≡ c → let form : Form = if c then unsigned 1 else unsigned (text_width text) in IsWidth form.width × ((if c then 0 else text_number text) < 2 ^ form.width)
    by true h = zero-is
    by false h = text-is text h

-- ---- lists

pub all-flat : {A B : Type 0} (P : B → Type 0) (f : A → List B) (xs : List A) → All (λ x. All P (f x)) xs → All P (flat_map f xs)
all-flat P f [] h = All-nil P
all-flat P f (x ∷ xs) h = All-append P (f x) (flat_map f xs) (All-head (λ x. All P (f x)) x xs h) (all-flat P f xs (All-tail (λ x. All P (f x)) x xs h))

-- what holds of each element without faults of its own
pub all-clear : {A B : Type 0} (P Q : A → Type 0) (f : A → List B) → ((x : A) → P x → f x ≡ [] → Q x) → (xs : List A) → All P xs → flat_map f xs ≡ [] → All Q xs
all-clear P Q f g [] h k = All-nil Q
all-clear P Q f g (x ∷ xs) h k =
    All-cons Q x xs (g x (All-head P x xs h) (none-left (f x) (flat_map f xs) k)) (all-clear P Q f g xs (All-tail P x xs h) (none-right (f x) (flat_map f xs) k))

-- what holds of each holds of the one behind others
pub at-split : {A : Type 0} (P : A → Type 0) (xs before after : List A) (y : A) → All P xs → xs ≡ before ++ y ∷ after → P y
unfolding Each
at-split P xs before after y h is = (each-right P before (y ∷ after) (each-from P (before ++ y ∷ after) (subst (All P) is h))).0

pub one-clear : {A B : Type 0} (f : A → List B) (xs : List A) (i : ℕ) (x : A) → flat_map f xs ≡ [] → slice_get xs i ≡ Some x → f x ≡ []
one-clear f [] i x h e = let z : ⊥ = cc in absurd z
one-clear {A} f (y ∷ xs) zero x h e = subst (λ z. f z ≡ []) (same e) (none-left (f y) (flat_map f xs) h)
  where
    same : ◌≡◌ {A = Option A} (Some y) (Some x) → y ≡ x
    same q = cc
one-clear f (y ∷ xs) (suc i) x h e = one-clear f xs i x (none-right (f y) (flat_map f xs) h) e
