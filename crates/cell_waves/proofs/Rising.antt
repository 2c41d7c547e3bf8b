-- The clock's rise in cells.
use Rattle.std.proofs.Common.{◌≡◌, ℕ, ◌+◌, ◌<◌, ◌≤◌, ◌%◌, ◌^◌, Bool, true, false, refl, sym, ap, ◌∙◌, arith, mod-eq_of_lt}
use Rattle.std.specs.Prelude.{if◌then◌else◌}
use Rattle.ten_form.specs.vl_design.specs.Width.{signal_form}
use Rattle.cell_emit.specs.cell_form.specs.Data.{ListData, BankData}
use Rattle.cell_emit.specs.cell_form.specs.Sound.{Shape}
use Rattle.cell_emit.specs.Slots.{held, width_at, AreSound, Grows, Gives, Nothing}
use Rattle.cell_emit.proofs.Frames.{held-stays, width-stays, grows-then, longer-grows, longer-then, longer-weaken}
use Rattle.cell_emit.specs.Envs.{Env, entry, IsSlot}
use Rattle.cell_emit.proofs.Staying.{is-slot-stays, entry-stays, held-or-stays, always-stays}
use Rattle.cell_waves.specs.Rises.{Rises}

module _ (at : Env) (l0 l1 l2 l3 : ListData) (one time ticks n : ℕ) (slot : IsSlot l0 at.time 64) (few : n ≤ 1)
    (g1 : Gives Nothing 1 l0 l1 one 64 (λ b. 1 % 2 ^ 64))
    (g2 : Gives Nothing 1 l1 l2 time (width_at l1 at.time) (λ b. (held b l1 at.time + held b l1 one) % 2 ^ width_at l1 at.time))
    (g3 : Gives Nothing n l2 l3 ticks 32 (λ b. held b l2 time % 2 ^ 32)) where
  grows1 : Grows l0 l1
  grows1 = longer-grows Nothing 1 l0 l1 g1.longer

  grows2 : Grows l1 l2
  grows2 = longer-grows Nothing 1 l1 l2 g2.longer

  grows3 : Grows l2 l3
  grows3 = longer-grows Nothing n l2 l3 g3.longer

  grows : Grows l0 l3
  grows = grows-then l0 l1 l3 grows1 (grows-then l1 l2 l3 grows2 grows3)

  wide : width_at l1 at.time ≡ 64
  wide = width-stays l0 l1 at.time grows1 slot.there ∙ slot.width

  time-slot : IsSlot l2 time 64
  time-slot = record { there = g2.there; width = g2.width ∙ wide }

  -- the sum, where it is small
  sum : (s : Shape) (b : BankData) (t : ℕ) → AreSound s l0 → held b l0 at.time ≡ t % 2 ^ 64 → t + 1 < 2 ^ 32 → held b l2 time ≡ t + 1
  sum s b t sound is small =
      let sound1 = g1.longer.sound s tt sound in
      let below-64 : t < 2 ^ 64 = omega (arith, small) in
      let next-below : t + 1 < 2 ^ 64 = omega (arith, small) in
      let one-below : 1 < 2 ^ 64 = omega arith in
      g2.value s b sound1
      ∙ ap (λ w. (held b l1 at.time + held b l1 one) % 2 ^ w) wide
      ∙ ap (λ v. (v + held b l1 one) % 2 ^ 64) (held-stays b l0 l1 at.time grows1 slot.there ∙ is ∙ mod-eq_of_lt below-64)
      ∙ ap (λ v. (t + v) % 2 ^ 64) (g1.value s b sound ∙ mod-eq_of_lt one-below)
      ∙ mod-eq_of_lt next-below

  pub rises : Rises at (record at { time = time }) l0 l3 ticks
  rises = record {
    longer = longer-weaken Nothing Nothing (1 + (1 + n)) 4 l0 l3 (λ s h. h) (omega (arith, few)) (longer-then Nothing 1 (1 + n) l0 l1 l3 g1.longer (longer-then Nothing 1 n l1 l2 l3 g2.longer g3.longer));
    kept = refl;
    time = is-slot-stays l2 l3 time 64 grows3 time-slot;
    slot = record { there = g3.there; width = g3.width };
    fits = λ names f. record {
      many = f.many;
      signals = λ k i. entry-stays l0 l3 (signal_form names.rows k).width (entry at k) grows (f.signals k i);
      time = is-slot-stays l2 l3 time 64 grows3 time-slot;
      answer = is-slot-stays l0 l3 at.answer 32 grows f.answer;
      here = is-slot-stays l0 l3 at.here 1 grows f.here;
      away = is-slot-stays l0 l3 at.away 1 grows f.away;
      is_here = always-stays l0 l3 at.here 0 grows f.here.there f.is_here;
      is_away = always-stays l0 l3 at.away 1 grows f.away.there f.is_away;
    };
    stands = λ names z b s sound f h small. record {
      fine = h.fine;
      values = λ k i. h.values k i ∙ sym (held-or-stays b l0 l3 (signal_form names.rows k).width (entry at k) grows (f.signals k i));
      words = h.words;
      many = h.many;
      time = (let next-below : s.ticks + 1 < 2 ^ 64 = omega (arith, small) in held-stays b l2 l3 time grows3 g2.there ∙ sum z b s.ticks sound h.time small ∙ sym (mod-eq_of_lt next-below));
      answer = held-stays b l0 l3 at.answer grows f.answer.there ∙ h.answer;
    };
    counted = λ names z b s sound h small.
        (let sound1 = g1.longer.sound z tt sound in
        let sound2 = g2.longer.sound z tt sound1 in
        g3.value z b sound2 ∙ ap (λ v. v % 2 ^ 32) (sum z b s.ticks sound h.time small) ∙ mod-eq_of_lt small);
  }

-- at most one cell
pub at-most-one : (t : Bool) → (if t then 0 else 1) ≤ 1
at-most-one true = omega arith
at-most-one false = omega arith
