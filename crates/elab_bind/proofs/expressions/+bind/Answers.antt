use Rattle.std.proofs.Common.{map, ap, ◌∙◌, sym, take}
use Rattle.elab_plain.specs.vl_flat.specs.Surface as x
use Rattle.elab_plain.specs.vl_flat.specs.Binding as f
use Rattle.elab_plain.specs.declared.surface.Argument.TheBlock.{hidden-the_row-Ex-1, hidden-the_row-Select-0}
use Rattle.vl_tree.specs.declared.tree.Name.{out-Name}
use Rattle.elab_plain.specs.Seen.{seen, row_exs, row_selects, select, argument, selects_before, args_before}
use Rattle.elab_plain.specs.Listed.{of_list, given}
use Rattle.elab_plain.specs.Listed as g
use Rattle.elab_plain.proofs.Opens.{named-opens, parenthesized-ex, concatenation-ex, call-ex, replication-ex}
use Rattle.elab_plain.proofs.Walks.{row_exs-hidden, row_selects-hidden, selects-append, selects-more, args-append, args-more, system-is}
use Rattle.elab_bind.proofs.expressions.+bind.Goals as goal

pub bind_primary-returns-in_ok-new-in-Parenthesized : goal.bind_primary-returns-in_ok-new-in-Parenthesized
bind_primary-returns-in_ok-new-in-Parenthesized t c =
    ap (x.Paren c.in-Parenthesized.at) (ap seen c.in_ok-new-in-Parenthesized.ensures.ok ∙ (c.in_ok-inner-in-Parenthesized.ensures ∙ ap f.ex c.get.ensures))
    ∙ sym (ap f.primary c.in-Parenthesized.is ∙ parenthesized-ex c.in-Parenthesized.at c.in-Parenthesized.e)

pub bind_primary-returns-in_ok-bind_all-in-Concatenation : goal.bind_primary-returns-in_ok-bind_all-in-Concatenation
bind_primary-returns-in_ok-bind_all-in-Concatenation t c =
    ap (x.Joined c.in-Concatenation.at) (row_exs-hidden c.in_ok-bind_all-in-Concatenation.field-0 ∙ ap of_list (c.in_ok-bind_all-in-Concatenation.ensures ∙ ap (map f.ex) c.as_slice.ensures))
    ∙ sym (ap f.primary c.in-Concatenation.is ∙ concatenation-ex c.in-Concatenation.at c.in-Concatenation.es)

pub bind_primary-returns-in_ok-parts-in-Replication : goal.bind_primary-returns-in_ok-parts-in-Replication
bind_primary-returns-in_ok-parts-in-Replication t c =
    let n = ap seen c.in_ok-count-in-Replication.ensures.ok ∙ (c.in_ok-bind-in-Replication.ensures ∙ ap f.ex c.get-in-Replication.ensures) in
    let es = row_exs-hidden c.in_ok-parts-in-Replication.parts ∙ ap of_list (c.in_ok-parts-in-Replication.ensures ∙ ap (map f.ex) c.as_slice-in-Replication.ensures) in
    (ap (λ z. x.Repeated c.in-Replication.at z (row_exs (hidden-the_row-Ex-1 c.in_ok-parts-in-Replication.parts))) n ∙ ap (x.Repeated c.in-Replication.at (f.ex c.in-Replication.count)) es)
    ∙ sym (ap f.primary c.in-Replication.is ∙ replication-ex c.in-Replication.at c.in-Replication.count c.in-Replication.es)

pub bind_primary-returns-in_ok-copied-in-Call : goal.bind_primary-returns-in_ok-copied-in-Call
bind_primary-returns-in_ok-copied-in-Call t c =
    let es = row_exs-hidden c.in_ok-arguments-in-Call.arguments ∙ ap of_list (c.in_ok-arguments-in-Call.ensures ∙ ap (map f.ex) c.as_slice-in-Call.ensures) in
    (ap (λ z. x.Called c.in-Call.name.place z (row_exs (hidden-the_row-Ex-1 c.in_ok-arguments-in-Call.arguments))) c.in_ok-copied-in-Call.ensures ∙ ap (x.Called c.in-Call.name.place c.in-Call.name.name) es)
    ∙ sym (ap f.primary c.in-Call.is ∙ call-ex c.in-Call.name c.in-Call.es)

pub bind_selects-loop-one-preserved : goal.bind_selects-loop-one-preserved
bind_selects-loop-one-preserved t c = λ o.
    ap (λ z. selects_before z o) c.in_ok-push.ensures.items
    ∙ (selects-append c.loop-one.all.items c.in_ok-bind_select.field-0 o
    ∙ (c.loop-one.invariant (select c.in_ok-bind_select.field-0 o)
    ∙ (ap (g.selects_before (take c.loop-one.one-index c.args.ss.now)) (c.in_ok-bind_select.ensures o)
    ∙ sym (selects-more c.args.ss.now c.loop-one.one-index c.one-item.result o c.loop-one-test.true c.one-item.is))))

pub bind_arguments-loop-a-preserved : goal.bind_arguments-loop-a-preserved
bind_arguments-loop-a-preserved t c = λ o.
    ap (λ z. args_before z o) c.in_ok-push.ensures.items
    ∙ (args-append c.loop-a.all.items c.in_ok-bind_argument.field-0 o
    ∙ (c.loop-a.invariant (argument c.in_ok-bind_argument.field-0 o)
    ∙ (ap (g.args_before (take c.loop-a.a-index c.args.given.now)) (c.in_ok-bind_argument.ensures o)
    ∙ sym (args-more c.args.given.now c.loop-a.a-index c.a-item.result o c.loop-a-test.true c.a-item.is))))

pub bind_name-returns : goal.bind_name-returns
bind_name-returns t c =
    let n = out-Name c.args.n.now in
    (ap (λ z. x.Named n.place z (row_selects (hidden-the_row-Select-0 c.in_ok-selects.selects))) c.in_ok-copied.ensures
    ∙ ap (x.Named n.place n.identifier.name) (row_selects-hidden c.in_ok-selects.selects ∙ (c.in_ok-selects.ensures x.NoSelects ∙ ap (λ z. g.selects_before z x.NoSelects) c.as_slice.ensures)))
    ∙ sym (named-opens c.args.n.now)

pub bind_system-returns-in-None : goal.bind_system-returns-in-None
bind_system-returns-in-None t c =
    system-is c.args.c.now c.in_ok-name.name c.new.result c.in_ok-name.ensures
    (ap (λ z. args_before z x.NoArgs) c.new.ensures.items ∙ sym (ap given c.in-None.is))

pub bind_system-returns-in_ok-arguments-in-Some : goal.bind_system-returns-in_ok-arguments-in-Some
bind_system-returns-in_ok-arguments-in-Some t c =
    system-is c.args.c.now c.in_ok-name.name c.in_ok-arguments-in-Some.arguments c.in_ok-name.ensures
    (c.in_ok-arguments-in-Some.ensures x.NoArgs ∙ (ap (λ z. g.args_before z x.NoArgs) c.as_slice.ensures ∙ sym (ap given c.in-Some.is)))
