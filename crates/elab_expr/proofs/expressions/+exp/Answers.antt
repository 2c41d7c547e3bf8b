use Rattle.std.proofs.Common.{◌≡◌, map, ap, ◌∙◌, sym, subst, drop, ◌+◌}
use Rattle.std.specs.Prelude.{IfOk, option_map, codes}
use Rattle.vl_design.specs.declared.design.ExprNode.TheBlock.{hidden-the_row-Expr-0, hidden-the_row-SysArg-1}
use Rattle.elab_plain.specs.vl_flat.specs.Surface as x
use Rattle.vl_design.specs.Placed as p
use Rattle.elab_plain.specs.vl_flat.specs.Scopes.{number_of, range_of}
use Rattle.elab_plain.specs.vl_flat.specs.Constants.{count_of}
use Rattle.elab_plain.specs.vl_flat.specs.Expressions.{constant, keeps_texts}
use Rattle.vl_design.specs.Seen.{exp_of, row_exps, row_args}
use Rattle.elab_plain.specs.Seen.{seen, selects_before, args_before, argument}
use Rattle.elab_plain.proofs.Walks.{named-seen, joined-seen, called-seen, system-seen}
use Rattle.elab_plain.proofs.Walks as walks
use Rattle.elab_constant.specs.Seen.{seen_scope, binding_of}
use Rattle.elab_constant.specs.Types.{numbers}
use Rattle.elab_plain.specs.vl_flat.specs.Expressions as flat
use Rattle.elab_expr.specs.Listed as n
use Rattle.elab_expr.proofs.Lists.{row-exps, row_args-hidden, selects-step, selects-end, named-plain, system-is, other-word, args-with-append, before-more}
use Rattle.elab_expr.proofs.expressions.+exp.Goals as goal

pub exp-returns-in-Named : goal.exp-returns-in-Named
exp-returns-in-Named t c =
    let s = seen_scope c.args.scope.now in
    let at = c.in-Named.at in
    let name = c.in-Named.name in
    let P : p.Exp → Type 0 = λ z. IfOk c.named.result (λ b. exp_of b ≡ z) in
    subst P
    (ap (λ o. n.named s at o (selects_before c.as_slice-in-Named-2.result.now x.NoSelects)) (c.meaning-known.ensures ∙ ap s.names c.as_slice-in-Named.ensures)
    ∙ (ap (λ ss. n.named s at (s.names name) (selects_before ss x.NoSelects)) c.as_slice-in-Named-2.ensures.value
    ∙ sym (ap (flat.exp s) (ap seen c.in-Named.is ∙ named-seen at name c.in-Named.selects))))
    c.named.ensures

pub exp-returns-in_ok-parts-in-Joined : goal.exp-returns-in_ok-parts-in-Joined
exp-returns-in_ok-parts-in-Joined t c =
    let s = seen_scope c.args.scope.now in
    ap (p.Cat c.in-Joined.at) (row-exps s c.in_ok-parts-in-Joined.parts c.in-Joined.parts.items (c.in_ok-parts-in-Joined.ensures ∙ ap (map (n.seen_exp s)) c.as_slice-in-Joined.ensures.value))
    ∙ sym (ap (flat.exp s) (ap seen c.in-Joined.is ∙ joined-seen c.in-Joined.at c.in-Joined.parts))

pub exp-returns-in_ok-parts-in-Repeated : goal.exp-returns-in_ok-parts-in-Repeated
exp-returns-in_ok-parts-in-Repeated t c =
    let s = seen_scope c.args.scope.now in
    let at = c.in-Repeated.at in
    let k = c.count.ensures.same ∙ ap (λ z. count_of (constant s (seen z))) c.deref-in-Repeated.ensures in
    (ap (λ m. p.Rep at m (row_exps (hidden-the_row-Expr-0 c.in_ok-parts-in-Repeated.parts))) k
    ∙ ap (p.Rep at (count_of (constant s (seen c.in-Repeated.n.value))))
    (row-exps s c.in_ok-parts-in-Repeated.parts c.in-Repeated.parts.items (c.in_ok-parts-in-Repeated.ensures ∙ ap (map (n.seen_exp s)) c.as_slice-in-Repeated.ensures.value)))
    ∙ sym (ap (flat.exp s) (ap seen c.in-Repeated.is ∙ ap (x.Repeated at (seen c.in-Repeated.n.value)) (walks.row_exs-hidden c.in-Repeated.parts)))

pub exp-returns-in_ok-arguments-in-Called : goal.exp-returns-in_ok-arguments-in-Called
exp-returns-in_ok-arguments-in-Called t c =
    let s = seen_scope c.args.scope.now in
    let at = c.in-Called.at in
    let name = c.in-Called.name in
    (ap (λ m. p.Call at m (row_exps (hidden-the_row-Expr-0 c.in_ok-arguments-in-Called.arguments))) (c.number_of-number.ensures ∙ ap number_of (c.found_in.ensures ∙ ap s.calls c.as_slice-in-Called.ensures))
    ∙ ap (p.Call at (number_of (s.calls name)))
    (row-exps s c.in_ok-arguments-in-Called.arguments c.in-Called.arguments.items (c.in_ok-arguments-in-Called.ensures ∙ ap (map (n.seen_exp s)) c.as_slice-in-Called-2.ensures.value)))
    ∙ sym (ap (flat.exp s) (ap seen c.in-Called.is ∙ called-seen at name c.in-Called.arguments))

pub exp-returns-in-System : goal.exp-returns-in-System
exp-returns-in-System t c =
    let s = seen_scope c.args.scope.now in
    let at = c.in-System.at in
    let name = c.in-System.name in
    let P : p.Exp → Type 0 = λ z. IfOk c.system.result (λ b. exp_of b ≡ z) in
    subst P
    (ap (λ g. flat.exp s (x.System at name (args_before g x.NoArgs))) c.as_slice-in-System.ensures.value
    ∙ sym (ap (flat.exp s) (ap seen c.in-System.is ∙ system-seen at name c.in-System.given)))
    c.system.ensures

pub arguments-loop-a-preserved : goal.arguments-loop-a-preserved
arguments-loop-a-preserved t c = λ o.
    let s = seen_scope c.args.scope.now in
    let k = c.args.keeps in
    ap (λ z. n.args_with z (flat.args s k o)) c.in_ok-push.ensures.items
    ∙ (args-with-append c.loop-a.all.items c.in_ok-one_argument.field-0 (flat.args s k o)
    ∙ (ap (n.args_with c.loop-a.all.items) (c.in_ok-one_argument.ensures o)
    ∙ (c.loop-a.invariant (argument c.a-item.result o)
    ∙ sym (ap (flat.args s k) (before-more c.args.given.now c.loop-a.a-index c.a-item.result o c.loop-a-test.true c.a-item.is)))))

pub system-returns : goal.system-returns
system-returns t c =
    let s = seen_scope c.args.scope.now in
    let name = c.args.name.now in
    let at = c.args.at in
    let given = args_before c.args.given.now x.NoArgs in
    let keeps = c.keeps_texts.ensures ∙ ap keeps_texts c.as_slice-7.ensures in
    let row = row_args-hidden c.in_ok-args.args ∙ (c.in_ok-args.ensures x.NoArgs ∙ ap (λ k. flat.args s k given) keeps) in
    (ap (λ z. p.Sys at z (row_args (hidden-the_row-SysArg-1 c.in_ok-args.args))) c.in_ok-name.ensures ∙ ap (p.Sys at name) row)
    ∙ sym (system-is at name (flat.first_of s at given) (flat.args s (keeps_texts name) given)
    (other-word c.is_word.result c.as_slice.result.now name c.as_slice-2.result.now (codes "$signed") c.is_word.ensures c.as_slice.ensures c.as_slice-2.ensures c.if-is_word.false)
    (other-word c.is_word-2.result c.as_slice-3.result.now name c.as_slice-4.result.now (codes "$unsigned") c.is_word-2.ensures c.as_slice-3.ensures c.as_slice-4.ensures c.if-is_word-2.false)
    (other-word c.is_word-3.result c.as_slice-5.result.now name c.as_slice-6.result.now (codes "$time") c.is_word-3.ensures c.as_slice-5.ensures c.as_slice-6.ensures c.if-is_word-3.false))

pub selected-loop-one-preserved : goal.selected-loop-one-preserved
selected-loop-one-preserved t c =
    let s = seen_scope c.args.scope.now in
    c.in_ok-all.ensures (selects_before (drop (c.loop-one.one-index + 1) c.args.selects.now) x.NoSelects)
    ∙ (sym (ap (n.selected s c.args.at (numbers c.loop-one.all.range) (exp_of c.loop-one.all.base)) (selects-step c.args.selects.now c.loop-one.one-index c.one-item.result x.NoSelects c.loop-one-test.true c.one-item.is))
    ∙ c.loop-one.invariant)

pub selected-returns : goal.selected-returns
selected-returns t c =
    let s = seen_scope c.args.scope.now in
    sym (ap (n.selected s c.args.at (numbers c.loop-one.all.range) (exp_of c.loop-one.all.base)) (selects-end c.args.selects.now c.loop-one.one-index x.NoSelects c.loop-one-test.false))
    ∙ c.loop-one.invariant

pub named-returns : goal.named-returns
named-returns t c =
    let s = seen_scope c.args.scope.now in
    let o = option_map binding_of c.args.known in
    let ss = selects_before c.args.selects.now x.NoSelects in
    let P : p.Exp → Type 0 = λ z. IfOk c.selected.result (λ b. exp_of b ≡ z) in
    subst P
    (ap (λ r. n.selected s c.args.at r (exp_of c.whole-base.result) ss) c.range_of-range.ensures
    ∙ (ap (λ b. n.selected s c.args.at (range_of o) b ss) c.whole-base.ensures
    ∙ sym (named-plain s c.args.at o ss (sym c.is_memory.ensures ∙ c.if-is_memory.false))))
    c.selected.ensures
