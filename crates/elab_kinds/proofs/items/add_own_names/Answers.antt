use Rattle.std.proofs.Common.{sym, ap, ◌∙◌, ℕ, List, Bool}
use Rattle.std.specs.Prelude.{◌||◌}
use Rattle.std.specs.List.{list_any}
use Rattle.std.specs.Str.{bytes_eq}
use Rattle.indexmap.proofs.MapLemmas.{OnOk-map}
use Rattle.elab_plain.specs.vl_flat.specs.Kinds.{declares}
use Rattle.elab_plain.specs.declared.items.Locals.{Locals}
use Rattle.elab_plain.specs.SeenItems.{seen_function}
use Rattle.elab_kinds.specs.Names.{nothing, Adds}
use Rattle.elab_kinds.proofs.Adding.{adds-as, adds-then}
use Rattle.elab_kinds.proofs.Parts.{locals-any}
use Rattle.elab_kinds.proofs.items.add_own_names.Goals as goal

abbrev in_group : List ℕ → Locals → Bool
in_group t g = list_any (λ n. bytes_eq t n.name) g.names.items

pub returns : goal.returns
returns c =
    let f = c.args.f.now in
    OnOk-map c.add_locals.result
    (Adds c.add.new.names c.add_locals.new.names nothing (λ t. list_any (in_group t) c.as_slice-2.result.now))
    (Adds c.args.names.now c.add_locals.new.names nothing (λ t. declares t (seen_function f)))
    (λ adds. adds-as (adds-then c.in_ok-add.ensures adds) (λ t.
    ap (λ z. bytes_eq t z || list_any (in_group t) c.as_slice-2.result.now) c.as_slice.ensures
    ∙ (ap (λ z. bytes_eq t f.name.name || list_any (in_group t) z) c.as_slice-2.ensures.value
    ∙ ap (λ b. bytes_eq t f.name.name || b) (sym (locals-any t f.locals.items)))))
    c.add_locals.ensures
