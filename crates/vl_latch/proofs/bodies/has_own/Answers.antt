use Rattle.std.proofs.Common.{◌≡◌, true, false, drop, refl}
use Rattle.std.proofs.lemmas.List.{drop_all}
use Rattle.vl_design.specs.Trees.{fun_of}
use Rattle.vl_bits.specs.vl_paths.specs.Bits.{Bit}
use Rattle.vl_bits.specs.Seen.{names_seen}
use Rattle.vl_bits.specs.declared.parts.Part.{Part}
use Rattle.vl_latch.specs.Partly.{is_own}
use Rattle.vl_latch.proofs.Testing.{bit_here, bit_none, bit_on, not_both}
use Rattle.vl_latch.proofs.bodies.has_own.Goals as goal

abbrev none : Part
none = record { signal = 0; bits = 0 }

pub returns-then-has_own_bit : goal.returns-then-has_own_bit
returns-then-has_own_bit c =
    let P : Bit → Type 0 = λ b. is_own (names_seen c.args.m.now) (fun_of c.args.f.now) b.signal ≡ true in
    let w = c.has_own_bit.ensures.0 c.if-has_own_bit.true in
    (λ e. bit_here P c.args.parts.now c.loop-part.part-index none w.0 c.loop-part-test.true w.1 w.2, λ h. refl)

pub loop-part-preserved : goal.loop-part-preserved
loop-part-preserved c =
    let P : Bit → Type 0 = λ b. is_own (names_seen c.args.m.now) (fun_of c.args.f.now) b.signal ≡ true in
    λ w. bit_on P c.args.parts.now c.loop-part.part-index none c.loop-part-test.true (λ b h k. not_both c.has_own_bit.result (c.has_own_bit.ensures.1 (b, h, k)) c.if-has_own_bit.false) (c.loop-part.invariant w)

pub returns : goal.returns
returns c =
    let P : Bit → Type 0 = λ b. is_own (names_seen c.args.m.now) (fun_of c.args.f.now) b.signal ≡ true in
    let i = c.loop-part.part-index in
    let ps = c.args.parts.now in
    (λ e. absurd (not_both false e refl), λ w. absurd (bit_none P (drop i ps) (drop_all i ps c.loop-part-test.false) (c.loop-part.invariant w)))
