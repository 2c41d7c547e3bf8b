-- Copies side by side.
use Rattle.std.proofs.Common.{◌≡◌, ℕ, zero, suc, ◌+◌, ◌*◌, ◌-◌, ◌^◌, ◌%◌, ◌<◌, ◌≤◌, refl, sym, ap, ◌∙◌, arith, subst}
use Rattle.std.specs.Prelude.{true, false, nat_le}
use Rattle.std.proofs.Math.Pow.{pow_pos, pow_mono}
use Rattle.std.proofs.Math.Nat.{mod-eq_of_lt, mul_assoc, mul-add, add-mul, mul-one}
use Rattle.std.proofs.lemmas.Nat.{mul-mod, pow-add}
use Rattle.vl_base.specs.Value.{resized}
use Rattle.vl_base.proofs.Parts.{joined-below}
use Rattle.vl_sites.specs.vl_design.specs.Value.{repeated}
use Rattle.vl_base.specs.Selects.{appended}
use Rattle.cell_form.specs.Data.{ListData, BankData}
use Rattle.cell_form.specs.Sound.{Shape}
use Rattle.cell_emit.specs.Slots.{held, width_at, IsIn, AreSound, Gives, Nothing}
use Rattle.cell_emit.proofs.Frames.{met-nothing, held-fits, held-stays, width-stays, longer-grows, longer-same, gives-held, gives-weaken, gives-as, gives-behind}
use Rattle.cell_emit.specs.Counts.{resizes, copied}
pub use Rattle.vl_sites.specs.vl_design.proofs.Shared.{repeated-below}
pub use Rattle.vl_base.proofs.Numbers.{product_left as some-copies}

-- ---- numbers

product-more : (v r m : ℕ) → v * r * m + v ≡ v * (r * m + 1)
product-more v r m =
    let a = mul_assoc v r m in
    let b = mul-add v (r * m) 1 in
    let d = mul-one v in
    omega (arith, a, b, d)

-- copies are a product with copies of 1
pub repeated-product : (n w v : ℕ) → repeated n w v ≡ v * repeated n w 1
repeated-product zero w v = omega arith
repeated-product (suc n) w v = ap (λ x. x * 2 ^ w + v) (repeated-product n w v) ∙ product-more v (repeated n w 1) (2 ^ w)

pub one-below : (w : ℕ) → 1 ≤ w → 1 < 2 ^ w
one-below w h = let m = pow_mono {i = 1} {j = w} h in omega arith

few-copies : (i n w : ℕ) → i < n → suc i * w ≤ n * w
few-copies i n w h =
    let k : suc i + (n - suc i) ≡ n = omega arith in
    let e : suc i * w + (n - suc i) * w ≡ n * w = sym (add-mul (suc i) (n - suc i) w) ∙ ap (λ x. x * w) k in
    omega (arith, e)

-- one copy of 1 more stays below 2^128
pub ones-fit : (i n w : ℕ) → i < n → 1 ≤ w → n * w ≤ 128 → repeated i w 1 * 2 ^ w + 1 < 2 ^ 128
ones-fit i n w lt wide narrow =
    let below : repeated (suc i) w 1 < 2 ^ (suc i * w) = repeated-below (suc i) w 1 (one-below w wide) in
    let few = few-copies i n w lt in
    let up : 2 ^ (suc i * w) ≤ 2 ^ 128 = pow_mono {i = suc i * w} {j = 128} (omega arith) in
    omega (arith, below, up)

-- one more, as a shift and a sum
pub ones-step : (i n w ones : ℕ) → ones ≡ repeated i w 1 → i < n → 1 ≤ w → n * w ≤ 128 →
    (ones * 2 ^ w % 2 ^ 128 + 1 < 2 ^ 128) × (ones * 2 ^ w % 2 ^ 128 + 1 ≡ repeated (i + 1) w 1)
ones-step i n w ones e lt wide narrow =
    let fit : ones * 2 ^ w + 1 < 2 ^ 128 = rw e (ones-fit i n w lt wide narrow) in
    let small : ones * 2 ^ w < 2 ^ 128 = omega arith in
    let same : ones * 2 ^ w % 2 ^ 128 ≡ ones * 2 ^ w = mod-eq_of_lt small in
    let next : suc i ≡ i + 1 = omega arith in
    (rw same fit, ap (λ x. x + 1) same ∙ ap (λ x. x * 2 ^ w + 1) e ∙ ap (λ k. repeated k w 1) next)

-- ---- one bit

all-ones : (n : ℕ) → repeated n 1 1 + 1 ≡ 2 ^ n
all-ones zero = refl
all-ones (suc n) = let e = all-ones n in let p = pow-add 2 n 1 in omega arith

-- copies of one bit extend it by its sign
pub bit-copies : (n v : ℕ) → v < 2 → resized true 1 n v ≡ repeated n 1 v
bit-copies n zero h =
    let e = repeated-product n 1 0 in
    let none : repeated n 1 0 ≡ 0 = omega arith in
    mod-eq_of_lt (pow_pos n) ∙ sym none
bit-copies n (suc zero) h =
    let z : 0 % 2 ^ n ≡ 0 = mod-eq_of_lt (pow_pos n) in
    let e = all-ones n in
    omega arith
bit-copies n (suc (suc v)) h = absurd (omega arith)

-- ---- cells

pub few-resizes : (own width : ℕ) → resizes own width ≤ 1
few-resizes own width = grind arith

several-copied : (n : ℕ) → (n ≡ 1 → ⊥) → 1 ≤ n → copied n ≡ 1
several-copied zero h k = absurd (omega arith)
several-copied (suc zero) h k = absurd (h refl)
several-copied (suc (suc n)) h k = let q : nat_le (suc (suc n)) 1 ≡ false = grind arith in rw q refl

pub two-copies : (n w : ℕ) → (n ≡ 1 → ⊥) → 1 ≤ n * w → (3 ≤ n → w ≡ 1) → (w ≡ 1 → ⊥) → n ≡ 2
two-copies zero w h k l m = absurd (omega arith)
two-copies (suc zero) w h k l m = absurd (h refl)
two-copies (suc (suc zero)) w h k l m = refl
two-copies (suc (suc (suc n))) w h k l m = absurd (m (l (omega arith)))

pub copied-bit : (old new : ListData) (r count part : ℕ) → IsIn old part → width_at old part ≡ 1 → (count ≡ 1 → ⊥) → 1 ≤ count →
    Gives Nothing (resizes (width_at old part) count) old new r count (λ b. resized true (width_at old part) count (held b old part)) →
    Gives Nothing (copied count) old new r (count * width_at old part) (λ b. repeated count (width_at old part) (held b old part))
copied-bit old new r count part there e several some g =
    let few = few-resizes (width_at old part) count in
    let one = several-copied count several some in
    gives-as Nothing (copied count) old new r count (count * width_at old part) (λ b. resized true (width_at old part) count (held b old part)) (λ b. repeated count (width_at old part) (held b old part))
    (sym (mul-one count) ∙ ap (λ w. count * w) (sym e))
    (λ s b sound.
    let fits = held-fits s b old part sound there in
    let F : ℕ → Type 0 = λ w. held b old part < 2 ^ w in
    ap (λ w. resized true w count (held b old part)) e ∙ bit-copies count (held b old part) (subst F e fits) ∙ ap (λ w. repeated count w (held b old part)) (sym e))
    (gives-weaken Nothing Nothing (resizes (width_at old part) count) (copied count) old new r count (λ b. resized true (width_at old part) count (held b old part)) (λ s has. has) (omega arith) g)

-- two copies
pub copied-twice : (old new : ListData) (r count part : ℕ) → count ≡ 2 → Gives Nothing 1 old new r (width_at old part + width_at old part) (λ b. appended (held b old part) (width_at old part) (held b old part)) →
    Gives Nothing (copied count) old new r (count * width_at old part) (λ b. repeated count (width_at old part) (held b old part))
copied-twice old new r count part e g =
    let F : ℕ → Type 0 = λ n. Gives Nothing (copied n) old new r (n * width_at old part) (λ b. repeated n (width_at old part) (held b old part)) in
    subst F (sym e)
    (gives-as Nothing 1 old new r (width_at old part + width_at old part) (2 * width_at old part) (λ b. appended (held b old part) (width_at old part) (held b old part)) (λ b. repeated 2 (width_at old part) (held b old part))
    (omega arith) (λ s b sound. omega arith) g)

-- a factor that is cut to the width of a product
cut-factor : (m v n w : ℕ) → 1 ≤ w → n * w ≤ m → v * (repeated n w 1 % 2 ^ m) % 2 ^ m ≡ v * repeated n w 1 % 2 ^ m
cut-factor m v n w wide le =
    let up : 2 ^ (n * w) ≤ 2 ^ m = pow_mono {i = n * w} {j = m} le in
    let ones : repeated n w 1 < 2 ^ (n * w) = repeated-below n w 1 (one-below w wide) in
    ap (λ z. v * z % 2 ^ m) (mod-eq_of_lt (omega (arith, up, ones)))

-- the product of what has w bits
pub product-wide : (m v n w : ℕ) → v < 2 ^ w → n * w ≤ m → v * repeated n w 1 % 2 ^ m ≡ repeated n w v
product-wide m v n w h le =
    let up : 2 ^ (n * w) ≤ 2 ^ m = pow_mono {i = n * w} {j = m} le in
    let all : repeated n w v < 2 ^ (n * w) = repeated-below n w v h in
    ap (λ z. z % 2 ^ m) (sym (repeated-product n w v)) ∙ mod-eq_of_lt (omega (arith, up, all))

pub multiplied : (b c d : ListData) (count own part ones j r : ℕ) → IsIn b part → ones ≡ repeated count own 1 → 1 ≤ own → count * own ≤ width_at b part →
    Gives Nothing 1 b c j (width_at b part) (λ x. ones % 2 ^ width_at b part) →
    Gives Nothing 1 c d r (width_at c part) (λ x. held x c part * held x c j % 2 ^ width_at c part) →
    Gives Nothing 2 b d r (width_at b part) (λ x. held x b part * repeated count own 1 % 2 ^ width_at b part)
multiplied b c d count own part ones j r there is wide fits h k =
    let f : BankData → ℕ = λ x. held x c part * held x c j % 2 ^ width_at c part in
    let g = longer-grows Nothing 1 b c h.longer in
    let same : width_at c part ≡ width_at b part = width-stays b c part g there in
    gives-as Nothing 2 b d r (width_at c part) (width_at b part) f (λ x. held x b part * repeated count own 1 % 2 ^ width_at b part) same
    (λ s x sound.
    let w = width_at b part in
    let first : held x c part ≡ held x b part = held-stays x b c part g there in
    let second : held x c j ≡ repeated count own 1 % 2 ^ w = h.value s x sound ∙ ap (λ y. y % 2 ^ w) is in
    ap (λ z. held x c part * held x c j % 2 ^ z) same ∙ ap (λ y. y * held x c j % 2 ^ w) first ∙ ap (λ y. held x b part * y % 2 ^ w) second
    ∙ cut-factor w (held x b part) count own wide fits)
    (gives-behind Nothing 1 1 b c d r (width_at c part) f met-nothing h.longer k)
