use Rattle.std.proofs.Common.{◌≡◌, ◌+◌, refl, sym, ap, ◌∙◌, drop}
use Rattle.std.specs.Prelude.{◌||◌}
use Rattle.std.proofs.lemmas.List.{drop_all}
use Rattle.vl_design.specs.Syntax.{Several}
use Rattle.vl_design.specs.Sound.{IsSoundTarget}
use Rattle.vl_design.specs.Trees.{target_of}
use Rattle.vl_paths.specs.Bits.{Bit, bit_set, some_bit_set}
use Rattle.vl_bits.specs.Seen.{names_seen}
use Rattle.vl_bits.specs.Masks.{in_parts}
use Rattle.vl_bits.proofs.Lists.{or_assoc, or_none}
use Rattle.vl_bits.proofs.Targets.{listed, several-is, targets-more}
use Rattle.vl_bits.proofs.puts.+put.Goals as goal

pub loop-item-init : goal.loop-item-init
loop-item-init t c =
    let names = names_seen c.args.m.now in
    let xs = c.deref-item-items.result.now in
    let e : target_of c.args.target.now ≡ Several (listed xs) = several-is c.args.target.now c.in-List.list xs c.in-List.is c.deref-item-items.ensures.value in
    let s : IsSoundTarget names (Several (listed xs)) = rw e at c.requires in
    record {
      sound = s.1;
      bits = λ b. ap (λ z. in_parts c.args.parts.now.items b || bit_set names c.args.any b z) (sym e);
      within = λ h. h;
    }

pub loop-item-preserved : goal.loop-item-preserved
loop-item-preserved t c =
    let names = names_seen c.args.m.now in
    let xs = c.deref-item-items.result.now in
    let i = c.loop-item.item-index in
    let e = targets-more xs i c.item-item.result c.loop-item-test.true c.item-item.is in
    let r = c.loop-item.parts.items in
    record {
      sound = (rw e at c.loop-item.invariant.sound).1;
      bits = λ b.
          ap (λ x. x || some_bit_set names c.args.any b (listed (drop (i + 1) xs))) (c.in_ok-put-in-List.ensures.bits b)
          ∙ or_assoc (in_parts r b) (bit_set names c.args.any b (target_of c.item-item.result)) (some_bit_set names c.args.any b (listed (drop (i + 1) xs)))
          ∙ ap (λ z. in_parts r b || some_bit_set names c.args.any b z) (sym e)
          ∙ c.loop-item.invariant.bits b;
      within = λ h. c.in_ok-put-in-List.ensures.within (c.loop-item.invariant.within h);
    }

pub returns-after-loop-item-clause-bits : goal.returns-after-loop-item-clause-bits
returns-after-loop-item-clause-bits t c b =
    let names = names_seen c.args.m.now in
    let r = in_parts c.loop-item.parts.items b in
    sym (or_none r)
    ∙ ap (λ ts. r || some_bit_set names c.args.any b (listed ts)) (sym (drop_all c.loop-item.item-index c.deref-item-items.result.now c.loop-item-test.false))
    ∙ c.loop-item.invariant.bits b
