-- Parts that a path keeps away.
use Rattle.std.proofs.Common.{◌≡◌, ℕ, zero, suc, ◌+◌, ◌-◌, ◌*◌, ◌/◌, ◌%◌, ◌^◌, ◌<◌, ◌≤◌, min, refl, sym, ap, ◌∙◌, arith, subst, mod-eq_of_lt}
use Rattle.std.proofs.Common.{Bool, true, false, Option, Some, None, inl, inr}
use Rattle.std.specs.Prelude.{ℤ, pos, negsuc, neg_ℤ, ◌+ℤ◌, ◌≤ℤ◌, ◌<ℤ◌, ◌⊎◌, ◌==◌, if◌then◌else◌}
use Rattle.std.proofs.Math.Pow.{pow_pos, pow_mono}
use Rattle.std.proofs.Math.Nat.{div-eq_of_lt, div-one, mod-one}
use Rattle.std.proofs.lemmas.Int.{ints}
use Rattle.vl_base.specs.Selects.{picked, placed, with_part}
use Rattle.vl_base.specs.Value.{resized}
use Rattle.vl_base.proofs.Parts.{placed-past, placed-before, no-high}
use Rattle.cell_form.specs.Data.{ListData, BankData}
use Rattle.cell_form.specs.Sound.{Shape}
use Rattle.cell_form.specs.Values as slots
use Rattle.cell_emit.specs.Slots.{slot, held, width_at, IsIn, AreSound, Longer, Gives, Nothing}
use Rattle.cell_emit.proofs.Frames.{held-fits, held-stays, width-stays, in-stays, longer-grows, longer-same, longer-weaken, met-nothing, gives-as, gives-behind}
use Rattle.cell_emit.specs.Envs.{IsSlot, IsEntry, Always, held_or}
use Rattle.cell_emit.specs.Paths.{Low, low_in, on_path, IsAway, Distant}

pub placed-far : (w v : ℕ) (low : ℤ) (n width part : ℕ) → w ≤ 128 → v < 2 ^ w → negsuc 126 ≤ℤ low → 256 ≤ n → placed w v (low +ℤ pos n) width part ≡ v
placed-far w v low n width part narrow small above far = go (low +ℤ pos n) refl
  where
    go : (z : ℤ) → low +ℤ pos n ≡ z → placed w v z width part ≡ v
    go (pos m) e = (let le : w ≤ m = omega (arith, ints) in sym (placed-past w v m width part small le))
    go (negsuc m) e = absurd (omega (arith, ints))

pub picked-far : (w p : ℕ) (low : ℤ) (n width : ℕ) → w ≤ 128 → p < 2 ^ w → negsuc 126 ≤ℤ low → 256 ≤ n → picked w p (low +ℤ pos n) width ≡ 0
picked-far w p low n width narrow small above far = go (low +ℤ pos n) refl
  where
    go : (z : ℤ) → low +ℤ pos n ≡ z → picked w p z width ≡ 0
    go (pos m) e =
        let le : min m w ≡ w = omega (arith, ints) in
        ap (λ k. p / 2 ^ k % 2 ^ width) le ∙ ap (λ x. x % 2 ^ width) (no-high p w w small (omega arith)) ∙ mod-eq_of_lt (pow_pos width)
    go (negsuc m) e = absurd (omega (arith, ints))

nothing-part : (k w p : ℕ) → with_part 0 k w p ≡ p * 2 ^ k
nothing-part k w p =
    let high : 0 / 2 ^ (k + w) ≡ 0 = div-eq_of_lt (pow_pos (k + w)) in
    let low : 0 % 2 ^ k ≡ 0 = mod-eq_of_lt (pow_pos k) in
    rw (high, low) (omega arith)

-- bits that are placed on nothing
pub picked-placed : (w p wide : ℕ) (low : ℤ) → p < 2 ^ w → picked w p (neg_ℤ low) wide ≡ placed wide 0 low w p
picked-placed w p wide (pos zero) small =
    let a : min 0 w ≡ 0 = omega arith in
    let b : min 0 wide ≡ 0 = omega arith in
    ap (λ k. p / 2 ^ k % 2 ^ wide) a ∙ ap (λ x. x % 2 ^ wide) (div-one p)
    ∙ ap (λ x. x % 2 ^ wide) (sym (ap (λ k. with_part 0 k w p) b ∙ nothing-part 0 w p ∙ one p))
  where
    one : (q : ℕ) → q * 2 ^ 0 ≡ q
    one q = omega arith
picked-placed w p wide (pos (suc n)) small = ap (λ x. x % 2 ^ wide) (sym (nothing-part (min (suc n) wide) w p))
picked-placed w p wide (negsuc n) small =
    let k = min (suc n) w in
    ap (λ x. x % 2 ^ wide) (sym (nothing-part 0 (w - k) (p / 2 ^ k) ∙ one (p / 2 ^ k)))
  where
    one : (q : ℕ) → q * 2 ^ 0 ≡ q
    one q = omega arith

-- ---- slots

-- what a path leaves by its index
index-path : (w x : ℕ) (low : ℤ) (n width part y : ℕ) → IsAway n → (n ≡ 0 → y ≡ placed w x low width part) → (256 ≤ n → y ≡ x) → y ≡ (if n == 0 then placed w x low width part else x)
index-path w x low zero width part y away h k = h refl
index-path w x low (suc n) width part y away h k = (let q : (suc n == 0) ≡ false = grind arith in rw q (k (away (λ e. absurd (omega arith)))))

plus-none : (z : ℤ) → z +ℤ pos 0 ≡ z
plus-none z = omega (arith, ints)

pub gives-placed : (wide before far part : ℕ) (low z : ℤ) (r : ℕ) (l0 l1 : ListData) → z ≡ low → wide ≤ 128 → IsSlot l0 before wide → ((s : Shape) (b : BankData) → AreSound s l0 → IsAway (held b l0 far)) → negsuc 126 ≤ℤ low →
    Gives Nothing 1 l0 l1 r (width_at l0 before) (λ b. placed (width_at l0 before) (held b l0 before) (slots.lowest_bit (record { signed = false; taken = false }) z (slot b l0 far)) (width_at l0 part) (held b l0 part)) →
    Gives Nothing 1 l0 l1 r wide (λ b. on_path b l0 far wide (held b l0 before) low (width_at l0 part) (held b l0 part))
gives-placed wide before far part low z r l0 l1 e narrow is away above g =
    gives-as Nothing 1 l0 l1 r (width_at l0 before) wide _ (λ b. on_path b l0 far wide (held b l0 before) low (width_at l0 part) (held b l0 part)) is.width
    (λ s b sound.
    let x = held b l0 before in
    let p = held b l0 part in
    let pw = width_at l0 part in
    let small : x < 2 ^ wide = subst (λ n. x < 2 ^ n) is.width (held-fits s b l0 before sound is.there) in
    ap (λ n. placed n x (z +ℤ pos (held b l0 far)) pw p) is.width
    ∙ ap (λ y. placed wide x (y +ℤ pos (held b l0 far)) pw p) e
    ∙ index-path wide x low (held b l0 far) pw p (placed wide x (low +ℤ pos (held b l0 far)) pw p) (away s b sound)
    (λ h. ap (λ n. placed wide x (low +ℤ pos n) pw p) h ∙ ap (λ y. placed wide x y pw p) (plus-none low))
    (λ h. placed-far wide x low (held b l0 far) pw p narrow small above h)) g

pub gives-picked : (wide far part : ℕ) (low z : ℤ) (r : ℕ) (l0 l1 : ListData) → z ≡ neg_ℤ low → IsIn l0 part → width_at l0 part ≤ 128 → ((s : Shape) (b : BankData) → AreSound s l0 → IsAway (held b l0 far)) → low ≤ℤ pos 127 →
    Gives Nothing 1 l0 l1 r wide (λ b. picked (width_at l0 part) (held b l0 part) (slots.lowest_bit (record { signed = false; taken = false }) z (slot b l0 far)) wide) →
    Gives Nothing 1 l0 l1 r wide (λ b. on_path b l0 far wide 0 low (width_at l0 part) (held b l0 part))
gives-picked wide far part low z r l0 l1 e there narrow away below g =
    gives-as Nothing 1 l0 l1 r wide wide _ (λ b. on_path b l0 far wide 0 low (width_at l0 part) (held b l0 part)) refl
    (λ s b sound.
    let p = held b l0 part in
    let pw = width_at l0 part in
    let small : p < 2 ^ pw = held-fits s b l0 part sound there in
    let above : negsuc 126 ≤ℤ neg_ℤ low = negated low below in
    ap (λ y. picked pw p (y +ℤ pos (held b l0 far)) wide) e
    ∙ index-path wide 0 low (held b l0 far) pw p (picked pw p (neg_ℤ low +ℤ pos (held b l0 far)) wide) (away s b sound)
    (λ h. ap (λ n. picked pw p (neg_ℤ low +ℤ pos n) wide) h ∙ ap (λ y. picked pw p y wide) (plus-none (neg_ℤ low)) ∙ picked-placed pw p wide low small)
    (λ h. picked-far pw p (neg_ℤ low) (held b l0 far) wide narrow small above h)) g
  where
    negated : (y : ℤ) → y ≤ℤ pos 127 → negsuc 126 ≤ℤ neg_ℤ y
    negated (pos zero) h = omega (arith, ints)
    negated (pos (suc n)) h = omega (arith, ints)
    negated (negsuc n) h = omega (arith, ints)

-- a part that falls outside
placed-outside : (w x : ℕ) (low : ℤ) (width part : ℕ) → w ≤ 128 → width ≤ 128 → x < 2 ^ w → part < 2 ^ width → (low <ℤ negsuc 126) ⊎ (pos 127 <ℤ low) → placed w x low width part ≡ x
placed-outside w x (pos n) width part narrow part-narrow small fits (inl h) = absurd (omega (arith, ints))
placed-outside w x (pos n) width part narrow part-narrow small fits (inr h) = (let le : w ≤ n = omega (arith, ints) in sym (placed-past w x n width part small le))
placed-outside w x (negsuc n) width part narrow part-narrow small fits (inl h) =
    let below : negsuc n <ℤ pos 0 = omega (arith, ints) in
    let le : width ≤ suc n = omega (arith, ints) in sym (placed-before w x (negsuc n) width part small fits below le)
placed-outside w x (negsuc n) width part narrow part-narrow small fits (inr h) = absurd (omega (arith, ints))

either : (q : Bool) (x y : ℕ) → y ≡ x → x ≡ (if q then y else x)
either true x y h = sym h
either false x y h = refl

pub held-or-fits : (s : Shape) (b : BankData) (l : ListData) (w : ℕ) (e : Option ℕ) → AreSound s l → IsEntry l w e → held_or b l e < 2 ^ w
held-or-fits s b l w None sound h = pow_pos w
held-or-fits s b l w (Some k) sound h = subst (λ n. held b l k < 2 ^ n) h.width (held-fits s b l k sound h.there)

pub gives-outside : (wide far part : ℕ) (e : Option ℕ) (low : ℤ) (r : ℕ) (l0 l1 : ListData) → wide ≤ 128 → IsEntry l0 wide e → IsIn l0 part → width_at l0 part ≤ 128 → (low <ℤ negsuc 126) ⊎ (pos 127 <ℤ low) →
    Gives Nothing 1 l0 l1 r wide (λ b. held_or b l0 e) → Gives Nothing 1 l0 l1 r wide (λ b. on_path b l0 far wide (held_or b l0 e) low (width_at l0 part) (held b l0 part))
gives-outside wide far part e low r l0 l1 narrow entry there part-narrow h g =
    gives-as Nothing 1 l0 l1 r wide wide (λ b. held_or b l0 e) (λ b. on_path b l0 far wide (held_or b l0 e) low (width_at l0 part) (held b l0 part)) refl
    (λ s b sound. either (held b l0 far == 0) (held_or b l0 e) _
    (placed-outside wide (held_or b l0 e) low (width_at l0 part) (held b l0 part) narrow part-narrow (held-or-fits s b l0 wide e sound entry) (held-fits s b l0 part sound there) h)) g

-- the index of a path of one bit
nine-bits : (v : ℕ) → v < 2 → resized true 1 9 v ≡ (if v == 0 then 0 else 511)
nine-bits zero h = refl
nine-bits (suc zero) h = refl
nine-bits (suc (suc v)) h = absurd (omega arith)

pub distant-by : (n off r : ℕ) (l0 l1 : ListData) → n ≤ 1 → IsSlot l0 off 1 → Gives Nothing n l0 l1 r 9 (λ b. resized true (width_at l0 off) 9 (held b l0 off)) → Distant 1 l0 l1 r off
distant-by n off r l0 l1 few is g = record {
  longer = longer-weaken Nothing Nothing n 1 l0 l1 (λ s h. h) few g.longer;
  there = g.there;
  value = λ s b sound.
      let small : held b l0 off < 2 ^ 1 = subst (λ w. held b l0 off < 2 ^ w) is.width (held-fits s b l0 off sound is.there) in
      g.value s b sound ∙ ap (λ w. resized true w 9 (held b l0 off)) is.width ∙ nine-bits (held b l0 off) small;
}

pub distant-away : (n old-off : ℕ) → (v : ℕ) → n ≡ (if v == 0 then 0 else 511) → IsAway n
distant-away n o zero e h = absurd (h e)
distant-away n o (suc v) e h = (let q : (suc v == 0) ≡ false = grind arith in let f = rw q at e in omega (arith, f))

-- a slot that was there, behind cells
pub gives-kept : (n w r : ℕ) (l0 l1 : ListData) → IsSlot l0 r w → Longer Nothing n l0 l1 → Gives Nothing n l0 l1 r w (λ b. held b l0 r)
gives-kept n w r l0 l1 is h =
    let g = longer-grows Nothing n l0 l1 h in record {
      longer = h;
      there = in-stays l0 l1 r g is.there;
      width = width-stays l0 l1 r g is.there ∙ is.width;
      value = λ s b sound. held-stays b l0 l1 r g is.there;
    }

pub gives-rewritten : (low : Low) (part off before after r : ℕ) (l0 l1 l2 : ListData) → IsIn l0 off → IsIn l0 before →
    Gives Nothing 1 l0 l1 after (width_at l0 before) (λ b. placed (width_at l0 before) (held b l0 before) (low_in b l0 low) (width_at l0 part) (held b l0 part)) →
    Gives Nothing 1 l1 l2 r (width_at l1 before) (λ b. if held b l1 off == 0 then held b l1 after else held b l1 before) →
    Gives Nothing 2 l0 l2 r (width_at l0 before) (λ b. on_path b l0 off (width_at l0 before) (held b l0 before) (low_in b l0 low) (width_at l0 part) (held b l0 part))
gives-rewritten low part off before after r l0 l1 l2 ko kb ga g =
    let m = longer-grows Nothing 1 l0 l1 ga.longer in
    gives-as Nothing 2 l0 l2 r (width_at l1 before) (width_at l0 before) (λ b. if held b l1 off == 0 then held b l1 after else held b l1 before)
    (λ b. on_path b l0 off (width_at l0 before) (held b l0 before) (low_in b l0 low) (width_at l0 part) (held b l0 part)) (width-stays l0 l1 before m kb)
    (λ s b sound.
    ap (λ z. if z == 0 then held b l1 after else held b l1 before) (held-stays b l0 l1 off m ko)
    ∙ ap (λ z. if held b l0 off == 0 then z else held b l1 before) (ga.value s b sound)
    ∙ ap (λ z. if held b l0 off == 0 then placed (width_at l0 before) (held b l0 before) (low_in b l0 low) (width_at l0 part) (held b l0 part) else z) (held-stays b l0 l1 before m kb))
    (gives-behind Nothing 1 1 l0 l1 l2 r (width_at l1 before) (λ b. if held b l1 off == 0 then held b l1 after else held b l1 before) met-nothing ga.longer g)

pub few-cells : (q : Bool) → (if q then 0 else 1) ≤ 1
few-cells true = omega arith
few-cells false = omega arith
