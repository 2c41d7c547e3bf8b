use Rattle.std.proofs.Common.{sym, ap, ◌∙◌}
use Rattle.std.specs.Prelude.{is_some}
use Rattle.elab_plain.specs.vl_flat.specs.declared.binding.Binding.TheVariants as b
use Rattle.elab_plain.specs.vl_flat.specs.Scopes.{bind}
use Rattle.elab_plain.specs.vl_flat.specs.Environments as e
use Rattle.elab_plain.specs.SeenItems.{seen_declared, seen_type}
use Rattle.elab_constant.specs.Seen.{look}
use Rattle.elab_kinds.specs.Facts.{facts_of}
use Rattle.elab_instance.specs.Known.{counts_of, kinds_by, known}
use Rattle.elab_instance.proofs.Steps.{signal-step}
use Rattle.elab_instance.proofs.signals.add_signal.Goals as goal

pub returns : goal.returns
returns c =
    let env = look c.args.names.now in
    let d = seen_declared (seen_type c.args.kind.now) c.args.declared.now in
    let n = c.args.next.signals in
    let kinds = kinds_by (facts_of c.args.roles.now) c.args.above.now in
    signal-step kinds (known c.args.names.now c.args.next) d (look c.bind.new.names) (counts_of c.in_ok-sum.field-0)
    (sym (c.is_known.ensures ∙ ap (λ t. is_some (env t)) c.as_slice-name.ensures) ∙ c.if-is_known.false)
    (c.in_ok-bind.ensures
    ∙ ap (λ s. bind env c.as_slice-name.result.now (b.Signal n s)) c.shape-shape.ensures
    ∙ ap (λ z. bind env c.as_slice-name.result.now (b.Signal n (e.shape env z d))) c.signal_kind.ensures
    ∙ ap (λ t. bind env t (b.Signal n (e.shape env (kinds t) d))) c.as_slice-name.ensures)
    (c.in_ok-sum.ensures ∙ ap (e.plus (counts_of c.args.next)) c.one_signal.ensures)
