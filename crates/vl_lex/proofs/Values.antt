-- Values of digits, cut or capped.
use Rattle.std.proofs.Common.{◌≡◌, ℕ, suc, ◌+◌, ◌-◌, ◌*◌, ◌%◌, ◌^◌, ◌<◌, ◌≤◌, min, true, false, cond, ◌==◌, List, [], ◌∷◌, length, get_or, take, drop, refl, sym, ap, ◌∙◌, arith, inl, inr}
use Rattle.std.specs.List.{fold}
use Rattle.std.proofs.lemmas.Bool.{cases_lt, ne_eqb, eq-eqb}
use Rattle.std.proofs.lemmas.Nat.{mul-mod_first}
use Rattle.std.proofs.Math.Pow.{mod-mod-pow}
use Rattle.std.proofs.Math.Nat.{mul-le-mul, mul-le-mul_left, mul-le-mul_right, mod-add-mod}
use Rattle.vl_tree.specs.vl_base.specs.declared.place.Place.{Place}
use Rattle.vl_tree.specs.Tokens.{place_after, next_place}
use Rattle.std.proofs.lemmas.List.{take_all, at_drop_more, at_drop_all, get_or_default}
use Rattle.std.proofs.lemmas.List.Sums.{fold_more}
use Rattle.vl_tree.specs.Numbers.{value_of, shifted, shifted_z, z_bits, leading_z, digit_value, is_z}

pub value_more : (radix : ℕ) (digits : List ℕ) (i b : ℕ) → i < length digits → b ≡ get_or digits i b → value_of radix (take (i + 1) digits) ≡ shifted radix (value_of radix (take i digits)) b
unfolding value_of
value_more radix digits i b h e = fold_more (shifted radix) 0 digits i b h ∙ ap (shifted radix (fold (shifted radix) 0 (take i digits))) (sym e)

pub value_all : (radix : ℕ) (digits : List ℕ) (i : ℕ) → length digits ≤ i → value_of radix (take i digits) ≡ value_of radix digits
value_all radix digits i h = ap (value_of radix) (take_all i digits h)

pub value_none : (radix : ℕ) → value_of radix [] ≡ 0
unfolding value_of
value_none radix = refl

-- ---- capped

pub cap_step : (c r d v : ℕ) → 1 ≤ r → min (min v c * r + d) c ≡ min (v * r + d) c
cap_step c r d v h =
    elim (cases_lt v c) [
      | inl lt ↦ let inner : min v c ≡ v = omega arith in rw inner refl
      | inr le ↦
          let low : c * 1 ≤ c * r = mul-le-mul_left c h in
          let high : c * r ≤ v * r = mul-le-mul_right r le in
          let inner : min v c ≡ c = omega arith in
          rw inner (omega (arith, low, high))
    ]

-- one more digit
pub capped_more : (radix : ℕ) (digits : List ℕ) (i b : ℕ) → 1 ≤ radix → i < length digits → b ≡ get_or digits i b → (b ≡ 95 → ⊥)
    → min (value_of radix (take (i + 1) digits)) (2 ^ 32) ≡ min (min (value_of radix (take i digits)) (2 ^ 32) * radix + digit_value b) (2 ^ 32)
capped_more radix digits i b h lt e ne =
    ap (λ v. min v (2 ^ 32)) (value_more radix digits i b lt e ∙ rw (ne_eqb b 95 ne) refl) ∙ sym (cap_step (2 ^ 32) radix (digit_value b) (value_of radix (take i digits)) h)

pub value_same : (radix : ℕ) (digits : List ℕ) (i b : ℕ) → i < length digits → b ≡ get_or digits i b → b ≡ 95 → value_of radix (take (i + 1) digits) ≡ value_of radix (take i digits)
value_same radix digits i b lt e eq = value_more radix digits i b lt e ∙ rw (eq-eqb b 95 eq) refl

pub small_product : (v r : ℕ) → v ≤ 2 ^ 32 → r < 256 → v * r ≤ 2 ^ 32 * 255
small_product v r h k = let lt : r ≤ 255 = omega arith in mul-le-mul h lt

-- ---- cut

pub cut_step : (m r d v : ℕ) → ((v % m * r) % m + d) % m ≡ (v * r + d) % m
cut_step m r d v = ap (λ x. (x + d) % m) (mul-mod_first v r m) ∙ mod-add-mod (v * r) m d

pub wrapped_more : (radix : ℕ) (digits : List ℕ) (i b : ℕ) → i < length digits → b ≡ get_or digits i b → (b ≡ 95 → ⊥)
    → value_of radix (take (i + 1) digits) % 2 ^ 128 ≡ ((value_of radix (take i digits) % 2 ^ 128 * radix) % 2 ^ 128 + digit_value b) % 2 ^ 128
wrapped_more radix digits i b lt e ne =
    ap (λ v. v % 2 ^ 128) (value_more radix digits i b lt e ∙ rw (ne_eqb b 95 ne) refl) ∙ sym (cut_step (2 ^ 128) radix (digit_value b) (value_of radix (take i digits)))

z_more : (radix start : ℕ) (digits : List ℕ) (i b : ℕ) → i < length digits → b ≡ get_or digits i b → fold (shifted_z radix) start (take (i + 1) digits) ≡ shifted_z radix (fold (shifted_z radix) start (take i digits)) b
z_more radix start digits i b h e = fold_more (shifted_z radix) start digits i b h ∙ ap (shifted_z radix (fold (shifted_z radix) start (take i digits))) (sym e)

pub z_wrapped : (radix start : ℕ) (digits : List ℕ) (i b : ℕ) → i < length digits → b ≡ get_or digits i b → (b ≡ 95 → ⊥) → is_z b ≡ true
    → fold (shifted_z radix) start (take (i + 1) digits) % 2 ^ 128 ≡ ((fold (shifted_z radix) start (take i digits) % 2 ^ 128 * radix) % 2 ^ 128 + (radix - 1)) % 2 ^ 128
z_wrapped radix start digits i b lt e ne z =
    ap (λ v. v % 2 ^ 128) (z_more radix start digits i b lt e ∙ rw (ne_eqb b 95 ne, z) refl) ∙ sym (cut_step (2 ^ 128) radix (radix - 1) (fold (shifted_z radix) start (take i digits)))

pub no_z_wrapped : (radix start : ℕ) (digits : List ℕ) (i b : ℕ) → i < length digits → b ≡ get_or digits i b → (b ≡ 95 → ⊥) → is_z b ≡ false
    → fold (shifted_z radix) start (take (i + 1) digits) % 2 ^ 128 ≡ ((fold (shifted_z radix) start (take i digits) % 2 ^ 128 * radix) % 2 ^ 128 + 0) % 2 ^ 128
no_z_wrapped radix start digits i b lt e ne z =
    ap (λ v. v % 2 ^ 128) (z_more radix start digits i b lt e ∙ rw (ne_eqb b 95 ne, z) refl) ∙ sym (cut_step (2 ^ 128) radix 0 (fold (shifted_z radix) start (take i digits)))

pub z_same : (radix start : ℕ) (digits : List ℕ) (i b : ℕ) → i < length digits → b ≡ get_or digits i b → b ≡ 95 → fold (shifted_z radix) start (take (i + 1) digits) ≡ fold (shifted_z radix) start (take i digits)
z_same radix start digits i b lt e eq = z_more radix start digits i b lt e ∙ rw (eq-eqb b 95 eq) refl

pub z_all : (radix : ℕ) (digits : List ℕ) (i : ℕ) → length digits ≤ i → fold (shifted_z radix) (leading_z digits) (take i digits) ≡ z_bits radix digits
unfolding z_bits
z_all radix digits i h = ap (fold (shifted_z radix) (leading_z digits)) (take_all i digits h)

-- ---- places

pub place_goes : (p : Place) (bytes : List ℕ) (i b : ℕ) → i < length bytes → b ≡ get_or bytes i b → place_after p (drop i bytes) ≡ place_after (next_place p b) (drop (i + 1) bytes)
unfolding place_after
place_goes p bytes i b h e = at_drop_more (place_after p) bytes i b h ∙ ap (λ x. place_after (next_place p x) (drop (i + 1) bytes)) (sym e)

pub place_breaks : (p : Place) (bytes : List ℕ) (i : ℕ) → i < length bytes → get_or bytes i 0 ≡ 10 → place_after p (drop i bytes) ≡ place_after (record { line = p.line + 1; column = 1 }) (drop (i + 1) bytes)
place_breaks p bytes i h e = place_goes p bytes i (get_or bytes i 0) h (get_or_default bytes i 0 _ h) ∙ rw (eq-eqb _ _ e) refl

pub place_moves : (p : Place) (bytes : List ℕ) (i : ℕ) → i < length bytes → (get_or bytes i 0 ≡ 10 → ⊥) → place_after p (drop i bytes) ≡ place_after (record { line = p.line; column = p.column + 1 }) (drop (i + 1) bytes)
place_moves p bytes i h e = place_goes p bytes i (get_or bytes i 0) h (get_or_default bytes i 0 _ h) ∙ rw (ne_eqb _ _ e) refl

pub place_ends : (p : Place) (bytes : List ℕ) (i : ℕ) → length bytes ≤ i → place_after p (drop i bytes) ≡ p
unfolding place_after
place_ends p bytes i h = at_drop_all (place_after p) bytes i h

pub line_grows : (p : Place) (bytes : List ℕ) → (place_after p bytes).line ≤ p.line + length bytes
unfolding place_after
line_grows p [] = omega arith
line_grows p (b ∷ bs) = elim (b == 10) as (λ v. (place_after (cond v (record { line = p.line + 1; column = 1 }) (record { line = p.line; column = p.column + 1 })) bs).line ≤ p.line + suc (length bs)) [
  | true ↦ omega (arith, line_grows (record { line = p.line + 1; column = 1 }) bs)
  | false ↦ omega (arith, line_grows (record { line = p.line; column = p.column + 1 }) bs)
]

pub column_grows : (p : Place) (bytes : List ℕ) → (place_after p bytes).column ≤ p.column + length bytes
unfolding place_after
column_grows p [] = omega arith
column_grows p (b ∷ bs) = elim (b == 10) as (λ v. (place_after (cond v (record { line = p.line + 1; column = 1 }) (record { line = p.line; column = p.column + 1 })) bs).column ≤ p.column + suc (length bs)) [
  | true ↦ omega (arith, column_grows (record { line = p.line + 1; column = 1 }) bs)
  | false ↦ omega (arith, column_grows (record { line = p.line; column = p.column + 1 }) bs)
]

pub cut_again : (n width : ℕ) → width ≤ 128 → n % 2 ^ 128 % 2 ^ width ≡ n % 2 ^ width
cut_again n width h = let e : 128 ≡ (128 - width) + width = omega arith in ap (λ k. n % 2 ^ k % 2 ^ width) e ∙ mod-mod-pow n (128 - width) width
