use Rattle.std.proofs.Common.{◌≡◌, false, sym, ◌∙◌}
use Rattle.vl_bits.specs.Masks.{in_masks, in_parts}
use Rattle.vl_latch.proofs.Testing.{bit_same, hid_again, shown}
use Rattle.vl_latch.proofs.bits.lacks.Goals as goal

pub returns-clause-lacks : goal.returns-clause-lacks
returns-clause-lacks c =
    let masks = c.args.known.now.items in
    let shows = c.show.new.known.items in
    let ps = c.args.others.now in
    bit_same (λ b. in_masks shows b ≡ false) (λ b. in_parts ps b ≡ false) c.args.parts.now c.exceeds-left.result c.exceeds-left.ensures
    (λ b h. sym (shown masks shows ps c.requires.clear c.show.ensures.bits b) ∙ h) (λ b h. shown masks shows ps c.requires.clear c.show.ensures.bits b ∙ h)

pub returns-clause-clear : goal.returns-clause-clear
returns-clause-clear c = hid_again c.args.known.now.items c.show.new.known.items c.hide.new.known.items c.args.others.now c.requires.clear c.show.ensures.bits c.hide.ensures.bits
