use Rattle.std.proofs.Common.{◌≡◌, refl, ap, sym, ◌∙◌, subst, map, arith}
use Rattle.elab_plain.specs.vl_flat.specs.Environments as e
use Rattle.elab_plain.specs.vl_flat.specs.Flat as f
use Rattle.elab_plain.specs.SeenItems.{seen_item, seen_module}
use Rattle.vl_sound.specs.Sized.{parts_by}
use Rattle.elab_constant.specs.Seen.{look}
use Rattle.vl_elab.specs.Growing.{Grows, Stops, IsMade, Makes}
use Rattle.vl_elab.specs.Libraries.{modules_of, sizes_in, instance_in}
use Rattle.vl_elab.proofs.Growth.{made-all, made-stops, made-handed}
use Rattle.vl_elab.proofs.elaborate.made_with.Goals as goal

pub returns : goal.returns
returns c = λ m there known.
    let ms = modules_of c.args.library.now in
    let md = seen_module c.definition_at-top.result.now in
    let is = c.definition_at-top.ensures m there in
    let g = f.top_given md in
    let sizes = sizes_in c.args.library.now 128 in
    let names = subst (λ z. look c.args.names.now ≡ e.environment sizes (f.top_given z) z) (sym is) known in
    let behind = ap (λ z. z.signals) (c.in_ok-all.ensures (sizes_in c.args.library.now) c.requires.library.sizes (omega arith)) in
    let items = f.items_parts (instance_in c.args.library.now 128) sizes ms in
    let body = ap (λ n. items (record { env = look c.args.names.now; path = c.as_slice-name.result.now; behind = n }) g e.no_more (map seen_item c.as_slice.result.now)) behind
    ∙ (ap (λ p. items (record { env = look c.args.names.now; path = p; behind = (e.module_counts sizes md).signals }) g e.no_more (map seen_item c.as_slice.result.now)) c.as_slice-name.ensures
    ∙ (ap (λ z. items (record { env = z; path = md.name.name; behind = (e.module_counts sizes md).signals }) g e.no_more (map seen_item c.as_slice.result.now)) names
    ∙ ap (λ z. items (record { env = e.environment sizes g md; path = md.name.name; behind = (e.module_counts sizes md).signals }) g e.no_more (map seen_item z)) c.as_slice.ensures.value)) in
    subst (λ z. IsMade (parts_by (sizes_in c.args.library.now) ms z) c.add_items.new.making) is
    (made-all c.nothing_yet-making.result c.add_items.new.making (parts_by (sizes_in c.args.library.now) ms md)
    c.nothing_yet-making.ensures.totals c.nothing_yet-making.ensures.signals c.nothing_yet-making.ensures.funcs c.nothing_yet-making.ensures.processes
    (subst (Grows c.nothing_yet-making.result c.add_items.new.making) body (c.in_ok-add_items.ensures g refl)))

pub returns-in_err-add_items : goal.returns-in_err-add_items
returns-in_err-add_items c = λ m there known.
    let ms = modules_of c.args.library.now in
    let md = seen_module c.definition_at-top.result.now in
    let is = c.definition_at-top.ensures m there in
    let g = f.top_given md in
    let sizes = sizes_in c.args.library.now 128 in
    let stop = c.in_err-add_items.field-0.0 in
    let names = subst (λ z. look c.args.names.now ≡ e.environment sizes (f.top_given z) z) (sym is) known in
    let behind = ap (λ z. z.signals) (c.in_ok-all.ensures (sizes_in c.args.library.now) c.requires.library.sizes (omega arith)) in
    let items = f.items_parts (instance_in c.args.library.now 128) sizes ms in
    let body = ap (λ n. items (record { env = look c.args.names.now; path = c.as_slice-name.result.now; behind = n }) g e.no_more (map seen_item c.as_slice.result.now)) behind
    ∙ (ap (λ p. items (record { env = look c.args.names.now; path = p; behind = (e.module_counts sizes md).signals }) g e.no_more (map seen_item c.as_slice.result.now)) c.as_slice-name.ensures
    ∙ (ap (λ z. items (record { env = z; path = md.name.name; behind = (e.module_counts sizes md).signals }) g e.no_more (map seen_item c.as_slice.result.now)) names
    ∙ ap (λ z. items (record { env = e.environment sizes g md; path = md.name.name; behind = (e.module_counts sizes md).signals }) g e.no_more (map seen_item z)) c.as_slice.ensures.value)) in
    subst (λ z. Makes (parts_by (sizes_in c.args.library.now) ms z) c.from_residual-in_err-add_items.result) is
    (made-handed c.from_residual-in_err-add_items.result stop (parts_by (sizes_in c.args.library.now) ms md) c.from_residual-in_err-add_items.ensures (λ e h. h)
    (made-stops stop c.nothing_yet-making.result.totals (parts_by (sizes_in c.args.library.now) ms md) c.nothing_yet-making.ensures.totals
    (subst (Stops stop c.nothing_yet-making.result.totals) body (c.in_err-add_items.ensures g refl))))
