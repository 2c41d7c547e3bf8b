-- Whole numbers in ranges.
use Rattle.std.proofs.Common.{◌≡◌, refl, ap, sym, ◌∙◌, ℕ, zero, suc, ◌+◌, ◌-◌, ◌*◌, ◌%◌, ◌^◌, max, ◌≤◌, ◌<◌, Bool, true, false, arith}
use Rattle.std.specs.Prelude.{pos, neg_ℤ, int_le, unsigned_abs, if◌then◌else◌}
use Rattle.std.proofs.lemmas.Grind.{common_steps}
use Rattle.std.proofs.lemmas.Int.{ints}
use Rattle.std.proofs.Math.Pow.{pow-add, pow_pos}
use Rattle.std.proofs.Math.Nat.{mod-eq_of_lt}
use Rattle.vl_base.specs.Value.{reading, is_negative}
use Rattle.vl_design.specs.Value.{value}
use Rattle.vl_design.specs.Width.{assigned}
use Rattle.vl_design.specs.Plainly as plain
use Rattle.elab_plain.specs.vl_flat.specs.Constants.{closed, nothing, is_within, lowest, highest, nearest, clamped, constant_form, constant_value, assigned_value, constant_reading}
use Rattle.elab_plain.specs.vl_flat.specs.Scopes.{Scope}
use Rattle.elab_plain.specs.vl_flat.specs.Surface.{Ex, place_of}
use Rattle.vl_design.specs.Placed as p
use Rattle.elab_plain.specs.vl_flat.specs.Expressions.{is_constant, constant, exp}
use Rattle.elab_constant.specs.Folded.{folded, folded_form}
use Rattle.elab_constant.proofs.Folding.{own-form, own-value, folded-value}
use Rattle.vl_base.proofs.Shared.{reading-low}
pub use Rattle.vl_base.proofs.Shared.{unsigned-reading}
pub use Rattle.vl_base.proofs.Numbers.{half_twice}

pub below-half : (s : Bool) (w v : ℕ) → 1 ≤ w → v < 2 ^ (w - 1) → reading s w v ≡ pos v
below-half s w v h k =
    let e = half_twice w h in
    let low : is_negative w v ≡ false = grind (arith, e) in
    reading-low s w v low

pub above-half : (s : Bool) (w v : ℕ) → s ≡ true → 1 ≤ w → v < 2 ^ w → 2 ^ (w - 1) ≤ v → reading s w v ≡ neg_ℤ (pos (2 ^ (w - 1) - (v - 2 ^ (w - 1))))
above-half s w v t h b k =
    let e = half_twice w h in
    let top : is_negative w v ≡ true = grind (arith, e) in
    let d : 2 ^ w - v ≡ 2 ^ (w - 1) - (v - 2 ^ (w - 1)) = omega (arith, e) in
    rw (t, top, d) refl

-- ---- ranges

pub negative-bound : (n : ℕ) → n ≤ 2147483648 → is_within lowest highest (neg_ℤ (pos n)) ≡ true
negative-bound n h = grind (arith, ints)

pub negative-none : (n : ℕ) → 2147483648 < n → is_within lowest highest (neg_ℤ (pos n)) ≡ false
negative-none n h = grind (arith, ints)

pub positive-bound : (n : ℕ) → n < 2147483648 → is_within lowest highest (pos n) ≡ true
positive-bound n h = grind (arith, ints)

pub positive-none : (n : ℕ) → 2147483648 ≤ n → is_within lowest highest (pos n) ≡ false
positive-none n h = grind (arith, ints)

pub negative-count : (n : ℕ) → is_within (pos 1) (pos 128) (neg_ℤ (pos n)) ≡ false
negative-count zero = refl
negative-count (suc n) = refl

pub positive-count : (n : ℕ) → 1 ≤ n → n ≤ 128 → is_within (pos 1) (pos 128) (pos n) ≡ true
positive-count n h k = grind (arith, ints)

pub count-none : (n : ℕ) → 128 < n → is_within (pos 1) (pos 128) (pos n) ≡ false
count-none n h = grind (arith, ints)

pub count-zero : (n : ℕ) → n < 1 → is_within (pos 1) (pos 128) (pos n) ≡ false
count-zero n h = grind (arith, ints)

pub negative-width : (n : ℕ) → int_le (pos 1) (neg_ℤ (pos n)) ≡ false
negative-width zero = refl
negative-width (suc n) = refl

pub positive-width : (n : ℕ) → 1 ≤ n → int_le (pos 1) (pos n) ≡ true
positive-width n h = grind (arith, ints)

pub width-zero : (n : ℕ) → n < 1 → int_le (pos 1) (pos n) ≡ false
width-zero n h = grind (arith, ints)

-- ---- the nearest numbers

pub negative-clamped : (n : ℕ) → n < 2147483648 → clamped (neg_ℤ (pos n)) ≡ neg_ℤ (pos n)
negative-clamped n h = grind (arith, ints)

pub lowest-clamped : (n : ℕ) → 2147483648 ≤ n → clamped (neg_ℤ (pos n)) ≡ lowest
lowest-clamped n h = grind (arith, ints)

pub positive-clamped : (n : ℕ) → n < 2147483648 → clamped (pos n) ≡ pos n
positive-clamped n h = grind (arith, ints)

pub highest-clamped : (n : ℕ) → 2147483648 ≤ n → clamped (pos n) ≡ highest
highest-clamped n h = grind (arith, ints)

pub negative-counted : (n : ℕ) → unsigned_abs (nearest (pos 1) (pos 129) (neg_ℤ (pos n))) ≡ 1
negative-counted zero = refl
negative-counted (suc n) = refl

pub zero-counted : (n : ℕ) → n < 1 → unsigned_abs (nearest (pos 1) (pos 129) (pos n)) ≡ 1
zero-counted n h = grind (arith, ints)

pub positive-counted : (n : ℕ) → 1 ≤ n → n < 129 → unsigned_abs (nearest (pos 1) (pos 129) (pos n)) ≡ n
positive-counted n h k = grind (arith, ints)

pub highest-counted : (n : ℕ) → 129 ≤ n → unsigned_abs (nearest (pos 1) (pos 129) (pos n)) ≡ 129
highest-counted n h = grind (arith, ints)

pub negative-turned : (n : ℕ) → unsigned_abs (nearest (pos 0) (pos (2 ^ 32 - 1)) (neg_ℤ (pos n))) ≡ 0
negative-turned zero = refl
negative-turned (suc n) = refl

pub positive-turned : (n : ℕ) → n < 4294967296 → unsigned_abs (nearest (pos 0) (pos (2 ^ 32 - 1)) (pos n)) ≡ n
positive-turned n h = grind (arith, ints)

pub highest-turned : (n : ℕ) → 4294967296 ≤ n → unsigned_abs (nearest (pos 0) (pos (2 ^ 32 - 1)) (pos n)) ≡ 4294967295
highest-turned n h = grind (arith, ints)

-- ---- readings of constants

pub chosen : (b : Bool) (e : Ex) (x : p.Exp) → b ≡ true → constant_reading (if b then x else p.Num (place_of e) 0 1 false) ≡ constant_reading x
chosen b e x h = rw h refl

pub left_out : (b : Bool) (e : Ex) (x : p.Exp) → b ≡ false → constant_reading (if b then x else p.Num (place_of e) 0 1 false) ≡ pos 0
left_out b e x h = rw h refl

pub constant-reading : (s : Scope) (e : Ex) → is_constant s.names e ≡ true → constant_reading (constant s e) ≡ reading (folded_form s.names e).signed (folded_form s.names e).width (folded s.names e (folded_form s.names e))
constant-reading s e h =
    chosen (is_constant s.names e) e (exp s e) h
    ∙ sym (ap (λ f. reading f.signed f.width (folded s.names e (folded_form s.names e))) (own-form s e h)
    ∙ ap (reading _ _) (own-value s e h))

pub no-reading : (s : Scope) (e : Ex) → is_constant s.names e ≡ false → constant_reading (constant s e) ≡ pos 0
no-reading s e h = left_out (is_constant s.names e) e (exp s e) h

-- a term on what is chosen
pub of-chosen : {A : Type 0} (f : p.Exp → A) (b : Bool) (e : Ex) (x : p.Exp) → b ≡ true → f (if b then x else p.Num (place_of e) 0 1 false) ≡ f x
of-chosen f b e x h = rw h refl

pub of-left_out : {A : Type 0} (f : p.Exp → A) (b : Bool) (e : Ex) (x : p.Exp) → b ≡ false → f (if b then x else p.Num (place_of e) 0 1 false) ≡ f (p.Num (place_of e) 0 1 false)
of-left_out f b e x h = rw h refl

pub own-value_is : (s : Scope) (e : Ex) → is_constant s.names e ≡ true → folded s.names e (folded_form s.names e) ≡ constant_value (constant s e)
own-value_is s e h = own-value s e h ∙ sym (of-chosen constant_value (is_constant s.names e) e (exp s e) h)

pub own-form_is : (s : Scope) (e : Ex) → is_constant s.names e ≡ true → folded_form s.names e ≡ constant_form (constant s e)
own-form_is s e h = own-form s e h ∙ sym (of-chosen constant_form (is_constant s.names e) e (exp s e) h)

pub none-value : (s : Scope) (e : Ex) → is_constant s.names e ≡ false → constant_value (constant s e) ≡ 0
none-value s e h = of-left_out constant_value (is_constant s.names e) e (exp s e) h

pub none-form : (s : Scope) (e : Ex) → is_constant s.names e ≡ false → constant_form (constant s e) ≡ record { width = 1; signed = false }
none-form s e h = of-left_out constant_form (is_constant s.names e) e (exp s e) h

pub assigned-is : (s : Scope) (e : Ex) (w : ℕ) → is_constant s.names e ≡ true → folded s.names e (assigned w (folded_form s.names e)) % 2 ^ w ≡ assigned_value (constant s e) w
assigned-is s e w h =
    ap (λ n. n % 2 ^ w) (sym (folded-value s e (assigned w (folded_form s.names e)) h))
    ∙ (ap (λ f. value closed nothing (plain.exp (exp s e)) (assigned w f) % 2 ^ w) (own-form s e h)
    ∙ sym (of-chosen (λ x. assigned_value x w) (is_constant s.names e) e (exp s e) h))

zero-rest : (w : ℕ) → 0 % 2 ^ w ≡ 0
zero-rest w = mod-eq_of_lt (pow_pos w)

pub assigned-none : (s : Scope) (e : Ex) (w : ℕ) → is_constant s.names e ≡ false → assigned_value (constant s e) w ≡ 0
assigned-none s e w h =
    of-left_out (λ x. assigned_value x w) (is_constant s.names e) e (exp s e) h
    ∙ (ap (λ n. n % 2 ^ w) (zero-rest (max w 1)) ∙ zero-rest w)

pub ruleset halves = (common_steps, half_twice, below-half, above-half, unsigned-reading)

pub ruleset wholes = (common_steps, negative-clamped, lowest-clamped, positive-clamped, highest-clamped, negative-counted, zero-counted, positive-counted, highest-counted, negative-turned, positive-turned, highest-turned, negative-bound, negative-none, positive-bound, positive-none, negative-count, positive-count, count-none, count-zero, negative-width, positive-width, width-zero)

pub ruleset readings = (common_steps, no-reading, own-value_is, own-form_is, none-value, none-form, assigned-is, assigned-none)
