use Rattle.std.proofs.Common.{◌≡◌, ◌<◌, ◌+◌, ℕ, Bool, length, drop, get_or, refl, sym, ap, ◌∙◌, arith}
use Rattle.std.specs.Prelude.{◌||◌, ◌&&◌, not, false}
use Rattle.std.proofs.lemmas.List.{drop_all}
use Rattle.vl_paths.specs.Bits.{Bit}
use Rattle.vl_bits.specs.declared.parts.Part.{Part}
use Rattle.vl_bits.specs.Masks.{in_masks, in_part, in_parts, AreOf}
use Rattle.vl_bits.proofs.Lists.{next, or_assoc, or_none, hid, nothing_hid, met_more, nothing_met, known_more, gained_more, back, both}
use Rattle.vl_bits.proofs.parts.hide.Goals as goal

abbrev none : Part
none = record { signal = 0; bits = 0 }

pub loop-part-preserved : goal.loop-part-preserved
loop-part-preserved c =
    let ps = c.args.parts.now in
    let i = c.loop-part.part-index in
    let old = c.loop-part.known.items in
    record {
      long = c.hide_part.ensures.long ∙ c.loop-part.invariant.long;
      bits = λ b.
          ap (λ x. x && not (in_parts (drop (i + 1) ps) b)) (c.hide_part.ensures.bits b)
          ∙ hid (in_masks old b) (in_part (get_or ps i none) b) (in_parts (drop (i + 1) ps) b)
          ∙ ap (λ x. in_masks old b && not x) (sym (next ps i none b c.loop-part-test.true))
          ∙ c.loop-part.invariant.bits b;
    }

pub returns-clause-bits : goal.returns-clause-bits
returns-clause-bits c b =
    let k = in_masks c.loop-part.known.items b in
    sym (nothing_hid k) ∙ ap (λ ps. k && not (in_parts ps b)) (sym (drop_all c.loop-part.part-index c.args.parts.now c.loop-part-test.false)) ∙ c.loop-part.invariant.bits b
