use Rattle.std.proofs.Common.{drop, arith}
use Rattle.std.proofs.lemmas.List.{drop_all}
use Rattle.vl_bits.specs.Seen.{names_seen}
use Rattle.vl_bits.specs.declared.parts.Part.{Part}
use Rattle.vl_latch.proofs.Testing.{part_in, wholes_done, wholes_first, wholes_next}
use Rattle.vl_latch.proofs.bits.wholes.Goals as goal

abbrev none : Part
none = record { signal = 0; bits = 0 }

pub loop-part-init : goal.loop-part-init
loop-part-init c = record {
  wholes = wholes_first (names_seen c.args.m.now) c.args.parts.now c.new-all.result.items c.new-all.ensures.items;
  within = rw (c.new-all.ensures.items) (λ k d l. absurd (omega arith));
}

pub add_whole-requires : goal.add_whole-requires
add_whole-requires c = λ b h. c.requires b (part_in c.args.parts.now c.loop-part.part-index none b c.loop-part-test.true h)

pub loop-part-preserved : goal.loop-part-preserved
loop-part-preserved c = record {
  wholes = wholes_next (names_seen c.args.m.now) c.args.parts.now c.loop-part.part-index none c.loop-part.all.items c.add_whole.new.all.items c.loop-part-test.true c.in_ok-add_whole.ensures.bits c.loop-part.invariant.wholes;
  within = c.in_ok-add_whole.ensures.within c.loop-part.invariant.within;
}

pub returns-clause-bits : goal.returns-clause-bits
returns-clause-bits c =
    let i = c.loop-part.part-index in
    let ps = c.args.parts.now in
    wholes_done (names_seen c.args.m.now) ps (drop i ps) c.loop-part.all.items (drop_all i ps c.loop-part-test.false) c.loop-part.invariant.wholes
