use Rattle.std.proofs.Common.{◌≡◌, ◌<◌, ◌+◌, ℕ, Bool, length, drop, get_or, refl, sym, ap, ◌∙◌, arith}
use Rattle.std.specs.Prelude.{◌||◌, ◌&&◌, not, false}
use Rattle.std.proofs.lemmas.List.{drop_all}
use Rattle.vl_paths.specs.Bits.{Bit}
use Rattle.vl_bits.specs.declared.parts.Part.{Part}
use Rattle.vl_bits.specs.Masks.{in_masks, in_part, in_parts, AreOf}
use Rattle.vl_bits.proofs.Lists.{next, or_assoc, or_none, hid, nothing_hid, met_more, nothing_met, known_more, gained_more, back, both}
use Rattle.vl_bits.proofs.parts.met.Goals as goal

abbrev none : Part
none = record { signal = 0; bits = 0 }

pub loop-part-init : goal.loop-part-init
loop-part-init c = record {
  within = rw (c.new-all.ensures.items) (λ k d l. absurd (omega arith));
  bits = λ b. rw (c.new-all.ensures.items) refl;
}

pub loop-part-preserved : goal.loop-part-preserved
loop-part-preserved c =
    let ps = c.args.parts.now in
    let i = c.loop-part.part-index in
    let all = c.loop-part.all.items in
    let ks = c.args.known.now.items in
    record {
      within = c.in_ok-add.ensures.within (length ks) c.loop-part.invariant.within (omega (arith, c.known_of.ensures.signal, c.requires i none c.loop-part-test.true));
      bits = λ b.
          ap (λ x. x || (in_masks ks b && in_parts (drop (i + 1) ps) b)) (c.in_ok-add.ensures.parts b ∙ ap (λ x. in_parts all b || x) (c.known_of.ensures.bits b))
          ∙ met_more (in_parts all b) (in_part (get_or ps i none) b) (in_masks ks b) (in_parts (drop (i + 1) ps) b)
          ∙ ap (λ x. in_parts all b || (in_masks ks b && x)) (sym (next ps i none b c.loop-part-test.true))
          ∙ c.loop-part.invariant.bits b;
    }

pub returns-clause-bits : goal.returns-clause-bits
returns-clause-bits c b =
    let a = in_parts c.loop-part.all.items b in
    let k = in_masks c.args.known.now.items b in
    sym (nothing_met a k) ∙ ap (λ ps. a || (k && in_parts ps b)) (sym (drop_all c.loop-part.part-index c.args.parts.now c.loop-part-test.false)) ∙ c.loop-part.invariant.bits b
