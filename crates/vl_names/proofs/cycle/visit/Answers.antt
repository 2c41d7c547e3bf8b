use Rattle.std.proofs.Common.{◌≡◌, ◌∷◌, [], get_or, false, true, sym, ◌∙◌, subst, slice_set}
use Rattle.std.proofs.lemmas.List.{get_or_default}
use Rattle.vl_names.specs.Walks.{Visits}
use Rattle.vl_names.proofs.Walks.{visits-new}
use Rattle.vl_names.proofs.cycle.visit.Goals as goal

pub returns : goal.returns
returns c =
    let marks = c.args.marks.now.items in
    let read : get_or marks c.args.node false ≡ false = sym (c.index.ensures ∙ get_or_default marks c.args.node _ _ c.requires) ∙ c.if-index.false in
    subst (Visits (c.args.node ∷ []) marks c.args.pile.now.items (slice_set marks c.args.node true)) (sym c.in_ok-push.ensures.items) (visits-new c.args.node marks c.args.pile.now.items c.requires read)
