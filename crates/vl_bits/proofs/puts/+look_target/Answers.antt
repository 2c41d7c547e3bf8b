use Rattle.std.proofs.Common.{◌≡◌, ◌+◌, refl, sym, ap, ◌∙◌, drop}
use Rattle.std.specs.Prelude.{◌||◌, ◌&&◌, not}
use Rattle.std.proofs.lemmas.List.{drop_all}
use Rattle.std.proofs.lemmas.Result.{on_ok_weaker}
use Rattle.vl_design.specs.Syntax.{Several}
use Rattle.vl_design.specs.Sound.{IsSoundTarget}
use Rattle.vl_design.specs.Trees.{target_of}
use Rattle.vl_paths.specs.Bits.{Bit, index_reads, some_index_reads}
use Rattle.vl_bits.specs.Seen.{names_seen}
use Rattle.vl_bits.specs.Masks.{in_masks, in_parts}
use Rattle.vl_bits.proofs.Looking.{looked, looked_none}
use Rattle.vl_bits.proofs.Targets.{listed, several-is, targets-more}
use Rattle.vl_bits.proofs.puts.+look_target.Goals as goal

pub loop-item-init : goal.loop-item-init
loop-item-init t c =
    let names = names_seen c.args.m.now in
    let xs = c.deref-item-items.result.now in
    let e : target_of c.args.target.now ≡ Several (listed xs) = several-is c.args.target.now c.in-List.list xs c.in-List.is c.deref-item-items.ensures.value in
    let s : IsSoundTarget names (Several (listed xs)) = rw e at c.requires.sound in
    record {
      sound = s.1;
      read = λ b. ap (λ z. in_parts c.args.read.now.items b || (not (in_masks c.args.known.now.items b) && index_reads names b z)) (sym e);
      within = λ h. h;
    }

pub loop-item-preserved : goal.loop-item-preserved
loop-item-preserved t c =
    let names = names_seen c.args.m.now in
    let xs = c.deref-item-items.result.now in
    let i = c.loop-item.item-index in
    let ks = c.args.known.now.items in
    let r = c.loop-item.read.items in
    let e = targets-more xs i c.item-item.result c.loop-item-test.true c.item-item.is in
    record {
      sound = (rw e at c.loop-item.invariant.sound).1;
      read = λ b.
          ap (λ x. x || (not (in_masks ks b) && some_index_reads names b (listed (drop (i + 1) xs)))) (c.in_ok-look_target-in-List.ensures.bits b)
          ∙ looked (in_parts r b) (not (in_masks ks b)) (index_reads names b (target_of c.item-item.result)) (some_index_reads names b (listed (drop (i + 1) xs)))
          ∙ ap (λ z. in_parts r b || (not (in_masks ks b) && some_index_reads names b z)) (sym e)
          ∙ c.loop-item.invariant.read b;
      within = λ h. c.in_ok-look_target-in-List.ensures.within (c.loop-item.invariant.within h);
    }

pub returns-after-loop-item-clause-bits : goal.returns-after-loop-item-clause-bits
returns-after-loop-item-clause-bits t c b =
    let names = names_seen c.args.m.now in
    let k = not (in_masks c.args.known.now.items b) in
    let r = in_parts c.loop-item.read.items b in
    looked_none r k
    ∙ ap (λ ts. r || (k && some_index_reads names b (listed ts))) (sym (drop_all c.loop-item.item-index c.deref-item-items.result.now c.loop-item-test.false))
    ∙ c.loop-item.invariant.read b

pub returns-in_ok-look_target-in-Pick-clause-within : goal.returns-in_ok-look_target-in-Pick-clause-within
returns-in_ok-look_target-in-Pick-clause-within t c = on_ok_weaker c.look-in-Pick.result (λ f h. f (c.in_ok-look_target-in-Pick.ensures.within h)) c.look-in-Pick.ensures.within
