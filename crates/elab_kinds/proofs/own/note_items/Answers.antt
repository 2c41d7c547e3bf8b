use Rattle.std.proofs.Common.{◌≡◌, refl, sym, ap, ◌∙◌, ℕ, ◌+◌, ◌++◌, List, map, drop, arith}
use Rattle.std.specs.List.{flat_map}
use Rattle.std.proofs.lemmas.List.{at_drop_more, drop_all}
use Rattle.indexmap.specs.IndexSet.{index_set_len}
use Rattle.elab_plain.specs.vl_flat.specs.Kinds.{signals_in}
use Rattle.elab_plain.specs.declared.items.Item.{Item}
use Rattle.elab_plain.specs.SeenItems.{seen_item}
use Rattle.elab_kinds.specs.Names.{has}
use Rattle.elab_kinds.specs.Sized.{count_new}
use Rattle.elab_kinds.proofs.own.note_items.Goals as goal

plus-zero : (n : ℕ) → n ≡ n + 0
plus-zero n = omega arith

pub loop-item-init : goal.loop-item-init
loop-item-init c = refl

pub loop-item-preserved : goal.loop-item-preserved
loop-item-preserved c =
    let rest = flat_map signals_in (map seen_item (drop (c.loop-item.item-index + 1) c.args.items.now)) in
    c.in_ok-note_item.ensures rest
    ∙ (ap (λ z. index_set_len c.loop-item.known + count_new (has c.loop-item.known) (signals_in (seen_item z) ++ rest)) c.item-item.is
    ∙ (sym (at_drop_more (λ (z : List Item). index_set_len c.loop-item.known + count_new (has c.loop-item.known) (flat_map signals_in (map seen_item z))) c.args.items.now c.loop-item.item-index c.item-item.result c.loop-item-test.true)
    ∙ c.loop-item.invariant))

pub returns : goal.returns
returns c =
    plus-zero (index_set_len c.loop-item.known)
    ∙ (sym (ap (λ (z : List Item). index_set_len c.loop-item.known + count_new (has c.loop-item.known) (flat_map signals_in (map seen_item z))) (drop_all c.loop-item.item-index c.args.items.now c.loop-item-test.false))
    ∙ c.loop-item.invariant)
