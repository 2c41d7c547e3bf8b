use Rattle.std.proofs.Common.{false, length, ap, ◌∙◌}
use Rattle.std.specs.Prelude.{◌||◌}
use Rattle.vl_design.specs.Trees.{exp_of, target_of}
use Rattle.vl_paths.specs.Bits.{bit_set}
use Rattle.vl_bits.specs.Seen.{names_seen}
use Rattle.vl_bits.specs.Masks.{in_parts}
use Rattle.vl_bits.proofs.Steps.{set_walks}
use Rattle.vl_bits.proofs.sets.assign.Goals as goal

pub returns : goal.returns
returns c =
    let names = names_seen c.args.m.now in
    let t = target_of c.args.target.now in
    set_walks names t (exp_of c.args.source.now) c.args.sets.now _ c.look_target.new.read.items c.put-2.new.parts.items c.in_ok-more.more.items
    c.in_ok-more.ensures.long c.in_ok-look_target.ensures.bits c.in_ok-look.ensures.bits c.in_ok-put.ensures.bits
    (λ b. c.in_ok-put-2.ensures.bits b ∙ ap (λ ps. in_parts ps b || bit_set names false b t) c.new-sure.ensures.items)
    (rw c.as_slice.ensures.value at c.in_ok-more.ensures.known) c.in_ok-more.ensures.within (rw c.as_slice.ensures.value at c.in_ok-more.ensures.bits)
    (λ h. c.in_ok-look.ensures.within (c.in_ok-look_target.ensures.within h))
    (length names.rows) c.requires.long c.in_ok-put.ensures.within
