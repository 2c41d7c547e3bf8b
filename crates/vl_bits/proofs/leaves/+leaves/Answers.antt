use Rattle.std.proofs.Common.{◌+◌, ◌++◌, append_assoc, append-nil, drop, map, sym, ap, ◌∙◌}
use Rattle.std.proofs.lemmas.List.{drop_all}
use Rattle.vl_design.specs.Trees.{target_of}
use Rattle.vl_bits.proofs.Targets.{listed, several-is, targets-more}
use Rattle.vl_bits.specs.Drivers.{leaves, all_leaves}
use Rattle.vl_bits.specs.SeenOfDrivers.{leaf_of}
use Rattle.vl_bits.proofs.leaves.+leaves.Goals as goal

pub loop-part-init : goal.loop-part-init
loop-part-init t c =
    let xs = c.deref-part-items.result.now in
    ap (λ z. map leaf_of c.args.all.now.items ++ leaves z) (sym (several-is c.args.t.now c.in-List.parts xs c.in-List.is c.deref-part-items.ensures.value))

pub loop-part-preserved : goal.loop-part-preserved
loop-part-preserved t c =
    let xs = c.deref-part-items.result.now in
    let i = c.loop-part.part-index in
    let r = map leaf_of c.loop-part.all.items in
    let y = target_of c.part-item.result in
    ap (λ z. z ++ all_leaves (listed (drop (i + 1) xs))) c.in_ok-leaves-in-List.ensures
    ∙ append_assoc r (leaves y) (all_leaves (listed (drop (i + 1) xs)))
    ∙ ap (λ z. r ++ all_leaves z) (sym (targets-more xs i c.part-item.result c.loop-part-test.true c.part-item.is))
    ∙ c.loop-part.invariant

pub returns-after-loop-part : goal.returns-after-loop-part
returns-after-loop-part t c =
    let r = map leaf_of c.loop-part.all.items in
    sym (append-nil r)
    ∙ ap (λ z. r ++ all_leaves (listed z)) (sym (drop_all c.loop-part.part-index c.deref-part-items.result.now c.loop-part-test.false))
    ∙ c.loop-part.invariant
