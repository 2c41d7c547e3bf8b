use Rattle.std.proofs.Common.{sym, ap, ◌∙◌, List}
use Rattle.std.specs.List.{flat_map}
use Rattle.std.proofs.lemmas.List.{take_all}
use Rattle.std.proofs.lemmas.List.Folds.{flat_map-map}
use Rattle.elab_plain.specs.vl_flat.specs.Items as x
use Rattle.elab_plain.specs.vl_flat.specs.Kinds.{signals_in}
use Rattle.elab_plain.specs.declared.items.Item.{Item}
use Rattle.elab_plain.specs.SeenItems.{seen_item}
use Rattle.elab_kinds.specs.Said.{either, said, declaration_at}
use Rattle.elab_kinds.proofs.Saying.{said-none, said-more}
use Rattle.elab_kinds.proofs.declared.add_items.Goals as goal

abbrev views : Item → List x.Declared
views a = signals_in (seen_item a)

pub loop-item-init : goal.loop-item-init
loop-item-init c = said-none (declaration_at c.args.declared.now)

pub loop-item-preserved : goal.loop-item-preserved
loop-item-preserved c =
    said-more (declaration_at c.args.declared.now) (declaration_at c.loop-item.declared) (declaration_at c.add_item.new.declared) views c.args.items.now c.loop-item.item-index c.item-item.result
    c.loop-item-test.true c.item-item.is c.loop-item.invariant c.in_ok-add_item.ensures

pub returns : goal.returns
returns c =
    c.loop-item.invariant
    ∙ ap (λ (z : List x.Declared). λ t. either (declaration_at c.args.declared.now t) (said z t))
    (ap (flat_map views) (take_all c.loop-item.item-index c.args.items.now c.loop-item-test.false) ∙ sym (flat_map-map signals_in seen_item c.args.items.now))
