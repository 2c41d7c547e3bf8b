-- Bits of parts.
use Rattle.std.proofs.Common.{◌≡◌, ◌≢◌, ℕ, zero, suc, ◌+◌, ◌^◌, ◌<◌, Bool, true, false, List, [], ◌∷◌, length, drop, get_or, refl, sym, ap, ◌∙◌, arith, Fits}
use Rattle.std.specs.Prelude.{◌&&◌, ◌==◌, ◌↔◌}
use Rattle.std.specs.Int.{bit_at, w128, trailing_zeros}
use Rattle.std.proofs.lemmas.Grind.{common_steps}
use Rattle.std.proofs.lemmas.Nat.Bits.{bit_at-trailing_zeros}
use mathlib.Core.Logic.{inl, inr}
use Rattle.vl_design.specs.declared.design.Signal.{Signal}
use Rattle.vl_paths.specs.Bits.{Bit}
use Rattle.vl_paths.proofs.Ways.{or_true, or_left, or_right, and_true, both_true}
use Rattle.vl_bits.specs.declared.parts.Part.{Part}
use Rattle.vl_bits.specs.Masks.{has, in_masks, in_part, in_parts}
use Rattle.vl_bits.proofs.Lists.{empty, next}
use Rattle.vl_bits.specs.Drivers.{is_net}
use Rattle.vl_bits.specs.SeenOfDrivers.{HasBit, Met}
pub use Rattle.vl_base.proofs.Booleans.{never_both as not_both}
use Rattle.vl_base.proofs.Numbers.{equal_self as itself, one_true as is_one, equal_from as same_from}

-- a part with bits has one
pub some_bit : (p : Part) → Fits w128 p.bits → p.bits ≢ 0 → (b : Bit) × (in_part p b ≡ true)
some_bit p f n =
    let l : p.bits < 2 ^ 128 = omega (arith, f) in
    let m : 0 < p.bits = omega (arith, n) in
    let h = bit_at-trailing_zeros w128 p.bits m l in
    (record { signal = p.signal; place = trailing_zeros w128 p.bits }, both_true (p.signal == p.signal) (has p.bits (trailing_zeros w128 p.bits)) (itself p.signal) (is_one (bit_at p.bits (trailing_zeros w128 p.bits)) h.1))

-- one without has none
pub no_bit : (p : Part) (b : Bit) → p.bits ≡ 0 → in_part p b ≡ true → ⊥
no_bit p b e h = not_both (in_part p b) h (empty p b e)

part_signal : (p : Part) (b : Bit) → in_part p b ≡ true → b.signal ≡ p.signal
part_signal p b h = same_from b.signal p.signal (and_true (b.signal == p.signal) (has p.bits b.place) h).0

-- a part of a net: its bits in the masks
pub met_bits : (signals : List Signal) (masks : List ℕ) (p q : Part) (r : Bool) → is_net signals p.signal ≡ true → ((b : Bit) → in_part q b ≡ (in_part p b && in_masks masks b)) →
    ((r ≡ true) ↔ ((b : Bit) × (in_part q b ≡ true))) → (r ≡ true) ↔ ((b : Bit) × (in_part p b ≡ true) × Met signals masks b)
met_bits signals masks p q r net is h = (
  λ e. let w = h.0 e in let k = and_true (in_part p w.0) (in_masks masks w.0) (sym (is w.0) ∙ w.1) in (w.0, k.0, (ap (is_net signals) (part_signal p w.0 k.0) ∙ net, k.1)),
  λ w. h.1 (w.0, is w.0 ∙ both_true (in_part p w.0) (in_masks masks w.0) w.1 w.2.1),
)

pub unmet_bits : (signals : List Signal) (masks : List ℕ) (p : Part) → is_net signals p.signal ≡ false → (false ≡ true) ↔ ((b : Bit) × (in_part p b ≡ true) × Met signals masks b)
unmet_bits signals masks p net = (λ e. absurd (not_both false e refl), λ w. absurd (not_both (is_net signals p.signal) (ap (is_net signals) (sym (part_signal p w.0 w.1)) ∙ w.2.0) net))

pub part_in : (ps : List Part) (i : ℕ) (d : Part) (b : Bit) → i < length ps → in_part (get_or ps i d) b ≡ true → in_parts ps b ≡ true
part_in [] i d b l h = absurd (omega arith)
part_in (p ∷ ps) zero d b l h = or_left (in_part p b) (in_parts ps b) h
part_in (p ∷ ps) (suc i) d b l h = or_right (in_part p b) (in_parts ps b) (part_in ps i d b (omega arith) h)

pub bit_here : (P : Bit → Type 0) (ps : List Part) (i : ℕ) (d : Part) (b : Bit) → i < length ps → in_part (get_or ps i d) b ≡ true → P b → HasBit ps P
bit_here P ps i d b l h p = (b, part_in ps i d b l h, p)

-- what isn't in the next part is in those behind it
pub bit_on : (P : Bit → Type 0) (ps : List Part) (i : ℕ) (d : Part) → i < length ps → ((b : Bit) → in_part (get_or ps i d) b ≡ true → P b → ⊥) → HasBit (drop i ps) P → HasBit (drop (i + 1) ps) P
bit_on P ps i d l n w =
    elim (or_true (in_part (get_or ps i d) w.0) (in_parts (drop (i + 1) ps) w.0) (sym (next ps i d w.0 l) ∙ w.1)) [
      | inl h ↦ absurd (n w.0 h w.2)
      | inr h ↦ (w.0, h, w.2)
    ]

pub bit_none : (P : Bit → Type 0) (ps : List Part) → ps ≡ [] → HasBit ps P → ⊥
bit_none P ps e w = not_both (in_parts ps w.0) w.1 (ap (λ xs. in_parts xs w.0) e)

pub ruleset somes = (common_steps, some_bit, no_bit)
