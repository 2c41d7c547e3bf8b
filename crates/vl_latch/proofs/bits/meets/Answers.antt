use Rattle.std.proofs.Common.{◌≡◌, true, false, get_or, drop, refl, sym, ◌∙◌}
use Rattle.std.proofs.lemmas.List.{drop_all}
use Rattle.vl_bits.specs.vl_paths.proofs.Ways.{and_true, both_true}
use Rattle.vl_bits.specs.declared.parts.Part.{Part}
use Rattle.vl_bits.specs.Masks.{in_masks, in_part}
use Rattle.vl_latch.proofs.Testing.{bit_here, bit_none, bit_on, not_both}
use Rattle.vl_latch.proofs.bits.meets.Goals as goal

abbrev none : Part
none = record { signal = 0; bits = 0 }

pub returns-then-has_bit : goal.returns-then-has_bit
returns-then-has_bit c =
    let ps = c.args.parts.now in
    let i = c.loop-part.part-index in
    let ks = c.args.known.now.items in
    let w = c.has_bit.ensures.0 c.if-has_bit.true in
    let k = and_true (in_part (get_or ps i none) w.0) (in_masks ks w.0) (sym (c.known_of.ensures.bits w.0) ∙ w.1) in
    (λ e. bit_here (λ b. in_masks ks b ≡ true) ps i none w.0 c.loop-part-test.true k.0 k.1, λ h. refl)

pub loop-part-preserved : goal.loop-part-preserved
loop-part-preserved c =
    let ps = c.args.parts.now in
    let i = c.loop-part.part-index in
    let ks = c.args.known.now.items in
    λ w. bit_on (λ b. in_masks ks b ≡ true) ps i none c.loop-part-test.true
    (λ b h k. not_both c.has_bit.result (c.has_bit.ensures.1 (b, c.known_of.ensures.bits b ∙ both_true (in_part (get_or ps i none) b) (in_masks ks b) h k)) c.if-has_bit.false)
    (c.loop-part.invariant w)

pub returns : goal.returns
returns c =
    let ps = c.args.parts.now in
    let i = c.loop-part.part-index in
    let ks = c.args.known.now.items in
    (λ e. absurd (not_both false e refl), λ w. absurd (bit_none (λ b. in_masks ks b ≡ true) (drop i ps) (drop_all i ps c.loop-part-test.false) (c.loop-part.invariant w)))
