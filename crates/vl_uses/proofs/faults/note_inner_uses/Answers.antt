use Rattle.std.proofs.Common.{◌∙◌, drop, Some, sym, ap}
use Rattle.vl_scope.specs.Declarations as scope
use Rattle.vl_scope.specs.Faults.{earliest}
use Rattle.vl_uses.specs.Nodes as n
use Rattle.vl_uses.specs.Settings.{behind}
use Rattle.vl_uses.specs.UseFaults.{meanings}
use Rattle.vl_uses.specs.Walks as w
use Rattle.vl_uses.proofs.Sites.{scoped-known, known-seen, sites-within}
use Rattle.vl_uses.proofs.faults.note_inner_uses.Goals as goal

pub returns : goal.returns
returns c = λ as' known.
    let f = c.args.function.now in
    let best = c.args.best in
    let inside = scope.function_declarations f in
    let others = c.behind_first.ensures ∙ ap (drop 1) c.requires.declarations in
    let called = known-seen c.in_ok-called.called _ (drop 1 inside) c.in_ok-called.ensures others in
    c.note_function.ensures
    ∙ (ap (λ m. earliest best (w.faults m (n.function_nodes c.behind.result f))) (scoped-known c.args.outer.now c.args.inner.now c.in_ok-called.called as' inside known c.requires.inner called)
    ∙ (ap (λ k. earliest best (w.faults (meanings as' inside) (n.function_nodes k f))) c.behind.ensures
    ∙ ap (earliest best) (sym (sites-within as' (Some f) (n.function_nodes (behind c.args.parameters) f)))))
