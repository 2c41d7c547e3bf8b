use Rattle.std.proofs.Common.{◌≡◌, true, sym, ap, ◌∙◌}
use Rattle.std.specs.Prelude.{◌||◌}
use Rattle.vl_design.specs.Trees.{target_of}
use Rattle.vl_paths.specs.Bits.{Bit, bit_set}
use Rattle.vl_bits.specs.Seen.{names_seen}
use Rattle.vl_bits.specs.Masks.{in_masks, in_parts}
use Rattle.vl_bits.proofs.drivers.leaf_again.Goals as goal

pub returns-clause-again : goal.returns-clause-again
returns-clause-again c =
    let names = names_seen c.args.m.now in
    let t = target_of c.args.t.now in
    let is : (b : Bit) → in_parts c.as_slice.result.now b ≡ bit_set names true b t =
    λ b. ap (λ ps. in_parts ps b) c.as_slice.ensures.value ∙ c.in_ok-put.ensures.bits b ∙ ap (λ ps. in_parts ps b || bit_set names true b t) c.new-parts.ensures.items in (
      λ e. let w = c.meets-again.ensures.0 e in (w.0, w.2.0, sym (is w.0) ∙ w.1, w.2.1),
      λ w. c.meets-again.ensures.1 (w.0, is w.0 ∙ w.2, (w.1, w.3)),
    )

pub returns-clause-known : goal.returns-clause-known
returns-clause-known c b =
    let names = names_seen c.args.m.now in
    let t = target_of c.args.t.now in
    c.show.ensures.bits b
    ∙ ap (λ z. in_masks c.args.known.now.items b || z) (ap (λ ps. in_parts ps b) c.as_slice-2.ensures.value ∙ c.in_ok-put.ensures.bits b ∙ ap (λ ps. in_parts ps b || bit_set names true b t) c.new-parts.ensures.items)
