use Rattle.std.proofs.Common.{false, drop, refl}
use Rattle.std.proofs.lemmas.List.{drop_all}
use Rattle.vl_bits.specs.declared.parts.Part.{Part}
use Rattle.vl_bits.specs.SeenOfDrivers.{Met}
use Rattle.vl_bits.proofs.Testing.{bit_here, bit_none, bit_on, not_both}
use Rattle.vl_bits.proofs.meets.meets.Goals as goal

abbrev none : Part
none = record { signal = 0; bits = 0 }

pub returns-then-is_met : goal.returns-then-is_met
returns-then-is_met c =
    let w = c.is_met.ensures.0 c.if-is_met.true in
    (λ e. bit_here (Met c.args.signals.now c.args.known.now.items) c.args.parts.now c.loop-part.part-index none w.0 c.loop-part-test.true w.1 w.2, λ h. refl)

pub loop-part-preserved : goal.loop-part-preserved
loop-part-preserved c =
    λ w. bit_on (Met c.args.signals.now c.args.known.now.items) c.args.parts.now c.loop-part.part-index none c.loop-part-test.true
    (λ b h k. not_both c.is_met.result (c.is_met.ensures.1 (b, h, k)) c.if-is_met.false)
    (c.loop-part.invariant w)

pub returns : goal.returns
returns c =
    let ps = c.args.parts.now in
    let i = c.loop-part.part-index in
    let P = Met c.args.signals.now c.args.known.now.items in
    (λ e. absurd (not_both false e refl), λ w. absurd (bit_none P (drop i ps) (drop_all i ps c.loop-part-test.false) (c.loop-part.invariant w)))
