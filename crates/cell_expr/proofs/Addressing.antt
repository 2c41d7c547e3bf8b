-- The words that addresses name, in slots (IEEE 1364-2005, clause 5.2.2).
use Rattle.std.proofs.Common.{◌≡◌, ℕ, ◌+◌, ◌^◌, ◌%◌, ◌<◌, ◌≤◌, ℤ, true, false, List, Some, refl, sym, ap, ◌∙◌, arith, subst, mod-eq_of_lt, nat_lt, w64, SFits}
use Rattle.std.specs.Prelude.{pos, negsuc, neg_ℤ, ◌-ℤ◌, int_lt, ◌==◌, if◌then◌else◌, slice_get}
use Rattle.std.specs.Int.RustNames.{unsigned_abs}
use Rattle.std.proofs.lemmas.Bool.{ltb-true}
use Rattle.std.proofs.lemmas.Int.{ints}
use Rattle.vl_base.specs.Value.{wrapped, reading, resized, truth}
use Rattle.vl_base.proofs.Readings.{reading-fits, fits-wider}
use Rattle.vl_design.specs.Syntax.{Row}
use Rattle.vl_design.specs.Value.{word_at}
use Rattle.cell_emit.specs.cell_form.specs.Data.{ListData, BankData}
use Rattle.cell_emit.specs.cell_form.specs.Sound.{Shape}
use Rattle.cell_emit.specs.Slots.{held, width_at, IsIn, AreSound, Grows, Gives, Nothing}
use Rattle.cell_emit.proofs.Frames.{held-fits, held-stays, width-stays, width-fits, longer-grows, longer-same, longer-then, longer-weaken, grows-then, gives-as}
use Rattle.cell_emit.specs.Envs.{IsSlot, Always}
use Rattle.cell_emit.proofs.Staying.{is-slot-stays, gives-slot}
use Rattle.cell_expr.specs.declared.address.Address.{Address}
use Rattle.cell_expr.specs.Chosen.{word_named, Chooses}
use Rattle.cell_expr.specs.Words.{found_in, row_words, words_in}
use Rattle.cell_expr.proofs.Choosing.{within, found-is, far-is, far-wrapped, word-is, word-there}

-- what a slot of so many bits holds fits them
slot-fits : (s : Shape) (b : BankData) (l : ListData) (slot w : ℕ) → AreSound s l → IsSlot l slot w → held b l slot < 2 ^ w
slot-fits s b l slot w sound k = subst (λ n. held b l slot < 2 ^ n) k.width (held-fits s b l slot sound k.there)

-- ---- how far an address is behind the lowest one

pub moved-none : (l : ListData) (slot : ℕ) (lowest : ℤ) → lowest ≡ pos 0 → IsSlot l slot 128 → Gives Nothing 2 l l slot 128 (λ b. wrapped 128 (pos (held b l slot) -ℤ lowest))
moved-none l slot lowest e k = record {
  longer = longer-weaken Nothing Nothing 0 2 l l (λ s h. h) (omega arith) (longer-same Nothing l);
  there = k.there;
  width = k.width;
  value = λ s b sound.
      let v = held b l slot in
      let same : pos v -ℤ pos 0 ≡ pos v = omega (arith, ints) in
      sym (ap (λ z. wrapped 128 (pos v -ℤ z)) e ∙ ap (wrapped 128) same ∙ mod-eq_of_lt (slot-fits s b l slot 128 sound k));
}

-- an operator on a slot and a number
pub by-number : (l0 l1 l2 : ListData) (slot far r n : ℕ) (W : ℕ → ℕ) (F : ℕ → ℕ → ℕ → ℕ) → IsSlot l0 slot 128 → Gives Nothing 1 l0 l1 far 128 (λ b. n % 2 ^ 128) →
    Gives Nothing 1 l1 l2 r (W (width_at l1 slot)) (λ b. F (width_at l1 slot) (held b l1 slot) (held b l1 far)) → Gives Nothing 2 l0 l2 r (W 128) (λ b. F 128 (held b l0 slot) (n % 2 ^ 128))
by-number l0 l1 l2 slot far r n W F k c g =
    let g01 = longer-grows Nothing 1 l0 l1 c.longer in
    let same = width-stays l0 l1 slot g01 k.there ∙ k.width in
    record {
      longer = longer-then Nothing 1 1 l0 l1 l2 c.longer g.longer;
      there = g.there;
      width = g.width ∙ ap W same;
      value = λ s b sound.
          g.value s b (c.longer.sound s tt sound) ∙ ap (λ w. F w (held b l1 slot) (held b l1 far)) same ∙ ap (λ v. F 128 v (held b l1 far)) (held-stays b l0 l1 slot g01 k.there) ∙ ap (F 128 (held b l0 slot)) (c.value s b sound);
    }

pub moved-up : (l0 l2 : ListData) (slot r n : ℕ) (lowest : ℤ) → n < 2 ^ 128 → lowest ≡ neg_ℤ (pos n) → Gives Nothing 2 l0 l2 r 128 (λ b. (held b l0 slot + n % 2 ^ 128) % 2 ^ 128) →
    Gives Nothing 2 l0 l2 r 128 (λ b. wrapped 128 (pos (held b l0 slot) -ℤ lowest))
moved-up l0 l2 slot r n lowest h e g =
    gives-as Nothing 2 l0 l2 r 128 128 (λ b. (held b l0 slot + n % 2 ^ 128) % 2 ^ 128) (λ b. wrapped 128 (pos (held b l0 slot) -ℤ lowest)) refl
    (λ s b sound. (
    let v = held b l0 slot in
    let sum : pos v -ℤ lowest ≡ pos (v + n) = omega (arith, ints, e) in
    ap (λ y. (v + y) % 2 ^ 128) (mod-eq_of_lt h) ∙ sym (ap (wrapped 128) sum))) g

pub moved-down : (l0 l2 : ListData) (slot r n : ℕ) (lowest : ℤ) → n < 2 ^ 128 → lowest ≡ pos n → Gives Nothing 2 l0 l2 r 128 (λ b. wrapped 128 (pos (held b l0 slot) -ℤ pos (n % 2 ^ 128))) →
    Gives Nothing 2 l0 l2 r 128 (λ b. wrapped 128 (pos (held b l0 slot) -ℤ lowest))
moved-down l0 l2 slot r n lowest h e g =
    gives-as Nothing 2 l0 l2 r 128 128 (λ b. wrapped 128 (pos (held b l0 slot) -ℤ pos (n % 2 ^ 128))) (λ b. wrapped 128 (pos (held b l0 slot) -ℤ lowest)) refl
    (λ s b sound. ap (λ y. wrapped 128 (pos (held b l0 slot) -ℤ pos y)) (mod-eq_of_lt h) ∙ ap (λ z. wrapped 128 (pos (held b l0 slot) -ℤ z)) (sym e)) g

pub negative-is : (z : ℤ) (n : ℕ) → int_lt z (pos 0) ≡ true → n ≡ unsigned_abs z → z ≡ neg_ℤ (pos n)
negative-is (pos k) n h e = let less : k < 0 = ltb-true k 0 h in absurd (omega (arith, less))
negative-is (negsuc k) n h e = rw e refl

pub positive-is : (z : ℤ) (n : ℕ) → int_lt z (pos 0) ≡ false → n ≡ unsigned_abs z → z ≡ pos n
positive-is (pos k) n h e = rw e refl
positive-is (negsuc k) n h e = let y : ⊥ = cc in absurd y

pub below-is : (l0 l2 : ListData) (slot r n count : ℕ) → n ≡ count → n < 2 ^ 128 → Gives Nothing 2 l0 l2 r 1 (λ b. truth (nat_lt (held b l0 slot) (n % 2 ^ 128))) → Gives Nothing 2 l0 l2 r 1 (λ b. truth (nat_lt (held b l0 slot) count))
below-is l0 l2 slot r n count e h g =
    gives-as Nothing 2 l0 l2 r 1 1 (λ b. truth (nat_lt (held b l0 slot) (n % 2 ^ 128))) (λ b. truth (nat_lt (held b l0 slot) count)) refl (λ s b sound. ap (λ y. truth (nat_lt (held b l0 slot) y)) (mod-eq_of_lt h ∙ e)) g

-- ---- the word

pub fits-small : (z : ℤ) → SFits w64 z → unsigned_abs z < 2 ^ 64
fits-small (pos n) h = let k = h.sfits in omega (arith, k)
fits-small (negsuc n) h = let k = h.sfits in omega (arith, k)

module _ (rows : List Row) (m : ℕ) (r : Row) (a : Address) (off wide far there enable number n k : ℕ) (lowest : ℤ) (l0 l1 l2 l3 l4 l5 : ListData) (row : slice_get rows m ≡ Some r) (low : lowest ≡ r.lowest)
    (small : unsigned_abs lowest < 2 ^ 64) (many : r.words ≤ 2 ^ 32) (ka : IsIn l0 a.slot) (ko : IsIn l0 off) (few : n ≤ 1) (also : k ≤ 1)
    (g1 : Gives Nothing n l0 l1 wide 128 (λ b. resized a.signed (width_at l0 a.slot) 128 (held b l0 a.slot)))
    (g2 : Gives Nothing 2 l1 l2 far 128 (λ b. wrapped 128 (pos (held b l1 wide) -ℤ lowest)))
    (g3 : Gives Nothing 2 l2 l3 there 1 (λ b. truth (found_in a.signed lowest r.words (held b l2 wide) (held b l2 far))))
    (g4 : Gives Nothing 1 l3 l4 enable 1 (λ b. if held b l3 off == 0 then held b l3 there else 0))
    (g5 : Gives Nothing k l4 l5 number 32 (λ b. resized false (width_at l4 far) 32 (held b l4 far))) where
  abbrev address : BankData → ℤ
  address b = reading a.signed (width_at l0 a.slot) (held b l0 a.slot)

  h01 : Grows l0 l1
  h01 = longer-grows Nothing n l0 l1 g1.longer

  h12 : Grows l1 l2
  h12 = longer-grows Nothing 2 l1 l2 g2.longer

  h23 : Grows l2 l3
  h23 = longer-grows Nothing 2 l2 l3 g3.longer

  h34 : Grows l3 l4
  h34 = longer-grows Nothing 1 l3 l4 g4.longer

  h45 : Grows l4 l5
  h45 = longer-grows Nothing k l4 l5 g5.longer

  h24 : Grows l2 l4
  h24 = grows-then l2 l3 l4 h23 h34

  h03 : Grows l0 l3
  h03 = grows-then l0 l1 l3 h01 (grows-then l1 l2 l3 h12 h23)

  far-held : (s : Shape) (b : BankData) → AreSound s l0 → held b l2 far ≡ wrapped 128 (address b -ℤ lowest)
  far-held s b sound =
      g2.value s b (g1.longer.sound s tt sound) ∙ ap (λ v. wrapped 128 (pos v -ℤ lowest)) (g1.value s b sound) ∙ far-wrapped lowest (address b)

  -- the address is in range
  found-held : (s : Shape) (b : BankData) → AreSound s l0 → held b l3 there ≡ truth (within r.lowest (address b) r.words)
  found-held s b sound =
      let narrow = (width-fits s l0 a.slot sound ka).1 in
      let fits = fits-wider a.signed (width_at l0 a.slot) 128 (address b) narrow (reading-fits a.signed (width_at l0 a.slot) (held b l0 a.slot) (held-fits s b l0 a.slot sound ka)) in
      let sound2 = g2.longer.sound s tt (g1.longer.sound s tt sound) in
      let wide-held : held b l2 wide ≡ wrapped 128 (address b) = held-stays b l1 l2 wide h12 g1.there ∙ g1.value s b sound in
      g3.value s b sound2 ∙ ap (λ v. truth (found_in a.signed lowest r.words v (held b l2 far))) wide-held ∙ ap (λ v. truth (found_in a.signed lowest r.words (wrapped 128 (address b)) v)) (far-held s b sound)
      ∙ ap truth (found-is a.signed lowest (address b) r.words small many fits ∙ ap (λ z. within z (address b) r.words) low)

  named-there : (b : BankData) → nat_lt (word_named rows b l0 m a) (words_in rows m) ≡ within r.lowest (address b) r.words
  named-there b =
      ap (λ o. nat_lt (word_at o (address b)) (row_words o)) row ∙ word-there r (address b)

  enabled-held : (s : Shape) (b : BankData) → AreSound s l0 → held b l4 enable ≡ (if held b l0 off == 0 then truth (nat_lt (word_named rows b l0 m a) (words_in rows m)) else 0)
  enabled-held s b sound =
      let sound3 = g3.longer.sound s tt (g2.longer.sound s tt (g1.longer.sound s tt sound)) in
      g4.value s b sound3 ∙ ap (λ o. if o == 0 then held b l3 there else 0) (held-stays b l0 l3 off h03 ko)
      ∙ ap (λ v. if held b l0 off == 0 then v else 0) (found-held s b sound ∙ ap truth (sym (named-there b)))

  named-held : (s : Shape) (b : BankData) → AreSound s l0 → word_named rows b l0 m a < words_in rows m → held b l5 number ≡ word_named rows b l0 m a
  named-held s b sound h =
      let sound4 = g4.longer.sound s tt (g3.longer.sound s tt (g2.longer.sound s tt (g1.longer.sound s tt sound))) in
      let less : nat_lt (word_named rows b l0 m a) (words_in rows m) ≡ true = grind arith in
      let inside : within r.lowest (address b) r.words ≡ true = sym (named-there b) ∙ less in
      let inside-too : within lowest (address b) r.words ≡ true = ap (λ z. within z (address b) r.words) low ∙ inside in
      g5.value s b sound4 ∙ ap (λ v. v % 2 ^ 32) (held-stays b l2 l4 far h24 g2.there ∙ far-held s b sound)
      ∙ far-is lowest (address b) r.words many inside-too ∙ ap (λ z. unsigned_abs (address b -ℤ z)) low ∙ sym (ap (λ o. word_at o (address b)) row ∙ word-is r (address b) inside)

  pub chosen : Chooses rows 7 m a off l0 l5 enable number
  chosen = record {
    longer = longer-weaken Nothing Nothing (n + 2 + 2 + 1 + k) 7 l0 l5 (λ s h. h) (omega (arith, few, also))
        (longer-then Nothing (n + 2 + 2 + 1) k l0 l4 l5 (longer-then Nothing (n + 2 + 2) 1 l0 l3 l4 (longer-then Nothing (n + 2) 2 l0 l2 l3 (longer-then Nothing n 2 l0 l1 l2 g1.longer g2.longer) g3.longer) g4.longer) g5.longer);
    enable = is-slot-stays l4 l5 enable 1 h45 (gives-slot Nothing 1 l3 l4 enable 1 _ g4);
    number = gives-slot Nothing k l4 l5 number 32 _ g5;
    enabled = λ s b sound. held-stays b l4 l5 enable h45 g4.there ∙ enabled-held s b sound;
    named = named-held;
  }
