-- Bits of a slot replaced by those of another one under a mask.
use Rattle.std.proofs.Common.{◌≡◌, ℕ, ◌<◌, ◌%◌, ◌^◌, Some, ap, ◌∙◌, arith}
use Rattle.std.specs.Prelude.{bit_and, bit_xor, slice_index}
use Rattle.cell_emit.specs.cell_form.specs.Cycle.{masked}
use Rattle.cell_emit.specs.cell_form.specs.Data.{ListData, BankData}
use Rattle.cell_emit.specs.cell_form.specs.Sound.{Shape}
use Rattle.cell_emit.specs.Slots.{held, width_at, AreSound, Grows, Longer, Gives, Nothing}
use Rattle.cell_emit.proofs.Frames.{held-stays, width-stays, grows-then, longer-grows, longer-then, longer-weaken, sound-before}
use Rattle.cell_emit.specs.Envs.{IsSlot}
use Rattle.cell_emit.proofs.Staying.{is-slot-stays}
use Rattle.ten_form.specs.Registers.{work_register, update_register, mask_register}
use Rattle.cell_waves.specs.Applies.{HasOwn, HoldsUpdate}

module _ (w o n m x y r : ℕ) (l0 l1 l2 l3 : ListData) (so : IsSlot l0 o w) (sn : IsSlot l0 n w) (sm : IsSlot l0 m w)
    (g1 : Gives Nothing 1 l0 l1 x (width_at l0 o) (λ b. bit_xor (held b l0 o) (held b l0 n))) (g2 : Gives Nothing 1 l1 l2 y (width_at l1 x) (λ b. bit_and (held b l1 x) (held b l1 m)))
    (g3 : Gives Nothing 1 l2 l3 r (width_at l2 o) (λ b. bit_xor (held b l2 o) (held b l2 y))) where
  to : (a b : ListData) → Longer Nothing 1 a b → Grows a b
  to a b h = longer-grows Nothing 1 a b h

  from-o : Grows l0 l2
  from-o = grows-then l0 l1 l2 (to l0 l1 g1.longer) (to l1 l2 g2.longer)

  value : (s : Shape) (b : BankData) → AreSound s l0 → held b l3 r ≡ masked (held b l0 o) (held b l0 n) (held b l0 m)
  value s b s0 =
      let s1 = g1.longer.sound s tt s0 in
      let s2 = g2.longer.sound s tt s1 in
      let O = held b l0 o in
      let N = held b l0 n in
      let M = held b l0 m in
      let m1 : held b l1 m ≡ M = held-stays b l0 l1 m (to l0 l1 g1.longer) sm.there in
      let x1 : held b l1 x ≡ bit_xor O N = g1.value s b s0 in
      let y2 : held b l2 y ≡ bit_and (bit_xor O N) M = g2.value s b s1 ∙ ap (λ v. bit_and v (held b l1 m)) x1 ∙ ap (bit_and (bit_xor O N)) m1 in
      let o2 : held b l2 o ≡ O = held-stays b l0 l2 o from-o so.there in
      g3.value s b s2 ∙ ap (λ v. bit_xor v (held b l2 y)) o2 ∙ ap (bit_xor O) y2

  pub replaces : Gives Nothing 3 l0 l3 r w (λ b. masked (held b l0 o) (held b l0 n) (held b l0 m))
  replaces = record {
    longer = longer-then Nothing 1 2 l0 l1 l3 g1.longer (longer-then Nothing 1 1 l1 l2 l3 g2.longer g3.longer);
    there = g3.there;
    width = g3.width ∙ width-stays l0 l2 o from-o so.there ∙ so.width;
    value = value;
  }

-- a variable's value behind the update, from its registers
module _ (w k o n m r : ℕ) (l0 l1 l2 l3 l4 : ListData) (g1 : Gives (λ z. work_register k < z.regs) 1 l0 l1 o w (λ b. slice_index b.regs (work_register k) % 2 ^ w))
    (g2 : Gives (λ z. update_register k < z.regs) 1 l1 l2 n w (λ b. slice_index b.regs (update_register k) % 2 ^ w)) (g3 : Gives (λ z. mask_register k < z.regs) 1 l2 l3 m w (λ b. slice_index b.regs (mask_register k) % 2 ^ w)) where
  old-slot : IsSlot l1 o w
  old-slot = record { there = g1.there; width = g1.width }

  new-slot : IsSlot l2 n w
  new-slot = record { there = g2.there; width = g2.width }

  g12 : Grows l1 l2
  g12 = longer-grows (λ z. update_register k < z.regs) 1 l1 l2 g2.longer

  g23 : Grows l2 l3
  g23 = longer-grows (λ z. mask_register k < z.regs) 1 l2 l3 g3.longer

  g01 : Grows l0 l1
  g01 = longer-grows (λ z. work_register k < z.regs) 1 l0 l1 g1.longer

  pub old-there : IsSlot l3 o w
  old-there = is-slot-stays l1 l3 o w (grows-then l1 l2 l3 g12 g23) old-slot

  pub new-there : IsSlot l3 n w
  new-there = is-slot-stays l2 l3 n w g23 new-slot

  pub mask-there : IsSlot l3 m w
  mask-there = record { there = g3.there; width = g3.width }

  module _ (g4 : Gives Nothing 3 l3 l4 r w (λ b. masked (held b l3 o) (held b l3 n) (held b l3 m))) where
    pub six-longer : Longer (HasOwn k) 6 l0 l4
    six-longer =
        longer-then (HasOwn k) 1 5 l0 l1 l4 (longer-weaken (λ z. work_register k < z.regs) (HasOwn k) 1 1 l0 l1 (λ z h. omega (arith, h)) (omega arith) g1.longer)
        (longer-then (HasOwn k) 1 4 l1 l2 l4 (longer-weaken (λ z. update_register k < z.regs) (HasOwn k) 1 1 l1 l2 (λ z h. omega (arith, h)) (omega arith) g2.longer)
        (longer-then (HasOwn k) 1 3 l2 l3 l4 g3.longer (longer-weaken Nothing (HasOwn k) 3 3 l3 l4 (λ z h. tt) (omega arith) g4.longer)))

    pub update-held : HoldsUpdate w k l4 (Some r)
    update-held = (
      record { there = g4.there; width = g4.width },
      λ z b s4.
          let s3 = sound-before z l3 l4 (longer-grows Nothing 3 l3 l4 g4.longer) s4 in
          let s2 = sound-before z l2 l3 g23 s3 in
          let s1 = sound-before z l1 l2 g12 s2 in
          let s0 = sound-before z l0 l1 g01 s1 in
          let o3 = held-stays b l1 l3 o (grows-then l1 l2 l3 g12 g23) g1.there ∙ g1.value z b s0 in
          let n3 = held-stays b l2 l3 n g23 g2.there ∙ g2.value z b s1 in
          let m3 = g3.value z b s2 in
          g4.value z b s3 ∙ ap (λ v. masked v (held b l3 n) (held b l3 m)) o3
          ∙ ap (λ v. masked (slice_index b.regs (work_register k) % 2 ^ w) v (held b l3 m)) n3
          ∙ ap (masked (slice_index b.regs (work_register k) % 2 ^ w) (slice_index b.regs (update_register k) % 2 ^ w)) m3,
    )
