use Rattle.std.proofs.Common.{◌≡◌, ◌<◌, ◌+◌, ℕ, Bool, length, drop, get_or, refl, sym, ap, ◌∙◌, arith}
use Rattle.std.specs.Prelude.{◌||◌, ◌&&◌, not, false}
use Rattle.std.proofs.lemmas.List.{drop_all}
use Rattle.vl_paths.specs.Bits.{Bit}
use Rattle.vl_bits.specs.declared.parts.Part.{Part}
use Rattle.vl_bits.specs.Masks.{in_masks, in_part, in_parts, AreOf}
use Rattle.vl_bits.proofs.Lists.{next, or_assoc, or_none, hid, nothing_hid, met_more, nothing_met, known_more, gained_more, back, both}
use Rattle.vl_bits.proofs.parts.gain.Goals as goal

abbrev none : Part
none = record { signal = 0; bits = 0 }

pub loop-part-init : goal.loop-part-init
loop-part-init c = record {
  long = refl;
  within = rw (c.new-all.ensures.items) (λ k d l. absurd (omega arith));
  known = λ b. refl;
  bits = λ b. rw (c.new-all.ensures.items) refl;
}

pub loop-part-preserved : goal.loop-part-preserved
loop-part-preserved c =
    let ps = c.args.parts.now in
    let i = c.loop-part.part-index in
    let all = c.loop-part.all.items in
    let ks = c.loop-part.known.items in
    let new : (b : Bit) → in_masks c.show_part.new.known.items b ≡ (in_masks ks b || (in_part (get_or ps i none) b && not (in_masks ks b))) =
    λ b. c.show_part.ensures.bits b ∙ ap (λ x. in_masks ks b || x) (c.unknown-new.ensures.bits b) in
    record {
      long = c.show_part.ensures.long ∙ c.loop-part.invariant.long;
      within = c.in_ok-add.ensures.within (length c.args.known.now.items) c.loop-part.invariant.within (omega (arith, c.unknown-new.ensures.signal, c.requires i none c.loop-part-test.true));
      known = λ b.
          ap (λ x. x || in_parts (drop (i + 1) ps) b) (new b)
          ∙ known_more (in_masks ks b) (in_part (get_or ps i none) b) (in_parts (drop (i + 1) ps) b)
          ∙ ap (λ x. in_masks ks b || x) (sym (next ps i none b c.loop-part-test.true))
          ∙ c.loop-part.invariant.known b;
      bits = λ b.
          ap (λ x. x || (not (in_masks c.show_part.new.known.items b) && in_parts (drop (i + 1) ps) b)) (c.in_ok-add.ensures.parts b ∙ ap (λ x. in_parts all b || x) (c.unknown-new.ensures.bits b))
          ∙ ap (λ x. (in_parts all b || (in_part (get_or ps i none) b && not (in_masks ks b))) || (not x && in_parts (drop (i + 1) ps) b)) (new b)
          ∙ gained_more (in_parts all b) (in_part (get_or ps i none) b) (in_masks ks b) (in_parts (drop (i + 1) ps) b)
          ∙ ap (λ x. in_parts all b || (not (in_masks ks b) && x)) (sym (next ps i none b c.loop-part-test.true))
          ∙ c.loop-part.invariant.bits b;
    }

pub returns-clause-known : goal.returns-clause-known
returns-clause-known c b =
    let k = in_masks c.loop-part.known.items b in
    sym (or_none k) ∙ ap (λ ps. k || in_parts ps b) (sym (drop_all c.loop-part.part-index c.args.parts.now c.loop-part-test.false)) ∙ c.loop-part.invariant.known b

pub returns-clause-bits : goal.returns-clause-bits
returns-clause-bits c b =
    let a = in_parts c.loop-part.all.items b in
    let k = not (in_masks c.loop-part.known.items b) in
    sym (nothing_met a k) ∙ ap (λ ps. a || (k && in_parts ps b)) (sym (drop_all c.loop-part.part-index c.args.parts.now c.loop-part-test.false)) ∙ c.loop-part.invariant.bits b
