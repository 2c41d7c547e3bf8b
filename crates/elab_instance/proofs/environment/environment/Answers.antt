use Rattle.std.proofs.Common.{◌<◌, ◌≤◌, length, map, ap, ◌∙◌, arith}
use Rattle.std.specs.Prelude.{fold}
use Rattle.std.proofs.lemmas.List.{take_all}
use Rattle.elab_plain.specs.vl_flat.specs.Environments as e
use Rattle.elab_plain.specs.SeenItems.{seen_item, seen_module}
use Rattle.elab_kinds.specs.Facts.{facts_of}
use Rattle.elab_kinds.specs.Sized.{size_of}
use Rattle.elab_instance.specs.Given.{given_of, overrides_of}
use Rattle.elab_instance.specs.Known.{counts_of, kinds_by, known, nothing_known, with_item}
use Rattle.elab_instance.proofs.Steps.{start-known}
use Rattle.elab_instance.proofs.Turns.{fold-turn}
use Rattle.elab_instance.proofs.environment.environment.Goals as goal

pub loop-item-init : goal.loop-item-init
loop-item-init c = (start-known c.new-names.result c.args.base c.new-names.ensures.empty, λ told path s l h. start-known c.new-names.result c.args.base c.new-names.ensures.empty)

pub loop-item-preserved : goal.loop-item-preserved
loop-item-preserved c =
    let items = c.as_slice-item-items.result.now in
    let i = c.loop-item.item-index in
    let m = seen_module c.args.definition.now in
    let below : i < length items = omega arith in (
      fold-turn (with_item (size_of c.args.sizes.now c.args.depth) (overrides_of c.args.above.now) (kinds_by (facts_of c.args.roles.now) c.args.above.now)) seen_item (nothing_known c.args.base)
          (known c.loop-item.names c.loop-item.next) (known c.add_item.new.names c.in_ok-next.next) items i c.item-item.result below c.item-item.is
          c.loop-item.invariant.0 c.in_ok-next.ensures.table,
      λ told path s l h. fold-turn (e.with_item (told c.args.depth) (given_of m c.args.above.now path (counts_of c.args.base)) m) seen_item (nothing_known c.args.base)
          (known c.loop-item.names c.loop-item.next) (known c.add_item.new.names c.in_ok-next.next) items i c.item-item.result below c.item-item.is
          (c.loop-item.invariant.1 told path s l h) (c.in_ok-next.ensures.module told m path (counts_of c.args.base) s l h),
    )

pub returns-clause-table : goal.returns-clause-table
returns-clause-table c =
    let items = c.as_slice-item-items.result.now in
    let i = c.loop-item.item-index in
    let all : length items ≤ i = omega arith in
    let step = with_item (size_of c.args.sizes.now c.args.depth) (overrides_of c.args.above.now) (kinds_by (facts_of c.args.roles.now) c.args.above.now) in
    ap (λ k. k.env) (c.loop-item.invariant.0
    ∙ ap (λ xs. fold step (nothing_known c.args.base) (map seen_item xs)) (take_all i items all ∙ c.as_slice-item-items.ensures.value))

pub returns-clause-module : goal.returns-clause-module
returns-clause-module c =
    let items = c.as_slice-item-items.result.now in
    let i = c.loop-item.item-index in
    let m = seen_module c.args.definition.now in
    let all : length items ≤ i = omega arith in
    λ told path s l h. ap (λ k. k.env) (c.loop-item.invariant.1 told path s l h
    ∙ ap (λ xs. fold (e.with_item (told c.args.depth) (given_of m c.args.above.now path (counts_of c.args.base)) m) (nothing_known c.args.base) (map seen_item xs)) (take_all i items all ∙ c.as_slice-item-items.ensures.value))
