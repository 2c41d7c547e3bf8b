use Rattle.std.proofs.Common.{◌≡◌, ◌∙◌, [], IfOk, None, sym, ap, subst}
use Rattle.std.specs.List.{flat_map}
use Rattle.vl_scope.specs.Faults.{earliest}
use Rattle.vl_uses.specs.Nodes as n
use Rattle.vl_uses.specs.Settings.{behind}
use Rattle.vl_uses.specs.UseFaults.{meanings, site_faults}
use Rattle.vl_uses.specs.Walks as w
use Rattle.vl_uses.proofs.Sites.{scoped-known, sites-within, item_sites-other}
use Rattle.vl_uses.proofs.faults.note_item_uses.Goals as goal

pub returns-in-Function : goal.returns-in-Function
returns-in-Function c = λ as' known none. subst (λ a. IfOk c.note_function_uses.result (λ b. b ≡ earliest c.args.best (flat_map (site_faults as') (n.item_sites c.args.parameters a)))) (sym c.in-Function.is) (c.note_function_uses.ensures as' known)

pub returns-in_default : goal.returns-in_default
returns-in_default c = λ as' known none.
    let a = c.args.item.now in
    let best = c.args.best in
    c.note_item.ensures
    ∙ (ap (λ m. earliest best (w.faults m (n.item_nodes c.behind.result a))) (scoped-known c.args.outer.now c.args.none.now c.args.none.now as' [] known none none)
    ∙ (ap (λ k. earliest best (w.faults (meanings as' []) (n.item_nodes k a))) c.behind.ensures
    ∙ (ap (earliest best) (sym (sites-within as' None (n.item_nodes (behind c.args.parameters) a)))
    ∙ ap (λ l. earliest best (flat_map (site_faults as') l)) (sym (item_sites-other c.args.parameters a c.in_default.not-Function)))))
