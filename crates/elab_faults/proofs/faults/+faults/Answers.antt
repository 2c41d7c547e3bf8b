use Rattle.std.proofs.Common.{refl, map, drop, ap, ◌∙◌, sym, ◌+◌, ◌++◌}
use Rattle.std.specs.Prelude.{option_map}
use Rattle.elab_plain.specs.vl_flat.specs.Surface as x
use Rattle.vl_design.specs.Stops.{earliest}
use Rattle.elab_plain.specs.vl_flat.specs.Constants.{is_count}
use Rattle.elab_plain.specs.vl_flat.specs.Expressions.{keeps_texts}
use Rattle.elab_plain.specs.vl_flat.specs.ExpressionFaults.{constant_must, directions, left_bound, right_bound, faults, all_faults, selects_faults, name_faults, args_faults}
use Rattle.elab_plain.specs.Seen.{seen, select, selects_before, args_before, argument}
use Rattle.elab_plain.specs.Listed.{of_list}
use Rattle.elab_plain.proofs.Walks.{named-seen, joined-seen, called-seen, system-seen, row_exs-hidden}
use Rattle.elab_constant.specs.Seen.{seen_scope, binding_of}
use Rattle.vl_design.proofs.Earliest.{over, chain, chain-three, over-four, step, step-left, finish}
use Rattle.elab_faults.proofs.Selected.{own-then, at-node, at-all, text-kept, text-other}
use Rattle.elab_faults.proofs.faults.+faults.Goals as goal

pub faults-returns-in-Named : goal.faults-returns-in-Named
faults-returns-in-Named t c =
    let s = seen_scope c.args.scope.now in
    let name = c.in-Named.name in
    let ss = selects_before c.in-Named.selects.items x.NoSelects in
    own-then s c.args.best c.past-own.result c.name_faults.result (seen c.args.e.now) (x.Named c.in-Named.at name ss) (name_faults s c.in-Named.at (s.names name) ss)
    c.past-own.ensures
    (ap seen c.in-Named.is ∙ named-seen c.in-Named.at name c.in-Named.selects)
    (c.name_faults.ensures
    ∙ (ap (λ o. earliest c.past-own.result (name_faults s c.in-Named.at o (selects_before c.as_slice-in-Named-2.result.now x.NoSelects))) (c.meaning-known.ensures ∙ ap s.names c.as_slice-in-Named.ensures)
    ∙ ap (λ z. earliest c.past-own.result (name_faults s c.in-Named.at (s.names name) (selects_before z x.NoSelects))) c.as_slice-in-Named-2.ensures.value))
    refl

pub faults-returns-in-Unary : goal.faults-returns-in-Unary
faults-returns-in-Unary t c =
    let s = seen_scope c.args.scope.now in
    own-then s c.args.best c.past-own-in-Unary.result c.faults-in-Unary.result (seen c.args.e.now) (x.Unary c.in-Unary.field-0 c.in-Unary.field-1 (seen c.in-Unary.a.value)) (faults s (seen c.in-Unary.a.value))
    c.past-own-in-Unary.ensures
    (ap seen c.in-Unary.is)
    (at-node s c.past-own-in-Unary.result c.faults-in-Unary.result c.deref-in-Unary.result.now c.in-Unary.a.value c.faults-in-Unary.ensures c.deref-in-Unary.ensures)
    refl

pub faults-returns-in-Binary : goal.faults-returns-in-Binary
faults-returns-in-Binary t c =
    let s = seen_scope c.args.scope.now in
    let a = seen c.in-Binary.a.value in
    let b = seen c.in-Binary.b.value in
    own-then s c.args.best c.past-own-in-Binary.result c.faults-in-Binary.result (seen c.args.e.now) (x.Binary c.in-Binary.field-0 c.in-Binary.field-1 a b) (faults s a ++ faults s b)
    c.past-own-in-Binary.ensures
    (ap seen c.in-Binary.is)
    (chain c.past-own-in-Binary.result c.faults-left.result c.faults-in-Binary.result (faults s a) (faults s b)
    (at-node s c.past-own-in-Binary.result c.faults-left.result c.deref-in-Binary.result.now c.in-Binary.a.value c.faults-left.ensures c.deref-in-Binary.ensures)
    (at-node s c.faults-left.result c.faults-in-Binary.result c.deref-in-Binary-2.result.now c.in-Binary.b.value c.faults-in-Binary.ensures c.deref-in-Binary-2.ensures))
    refl

pub faults-returns-in-Choice : goal.faults-returns-in-Choice
faults-returns-in-Choice t c =
    let s = seen_scope c.args.scope.now in
    let i = seen c.in-Choice.t.value in
    let a = seen c.in-Choice.a.value in
    let b = seen c.in-Choice.b.value in
    own-then s c.args.best c.past-own-in-Choice.result c.faults-in-Choice.result (seen c.args.e.now) (x.Choice c.in-Choice.field-0 i a b) (faults s i ++ (faults s a ++ faults s b))
    c.past-own-in-Choice.ensures
    (ap seen c.in-Choice.is)
    (chain-three c.past-own-in-Choice.result c.faults-test.result c.faults-chosen.result c.faults-in-Choice.result (faults s i) (faults s a) (faults s b)
    (at-node s c.past-own-in-Choice.result c.faults-test.result c.deref-in-Choice.result.now c.in-Choice.t.value c.faults-test.ensures c.deref-in-Choice.ensures)
    (at-node s c.faults-test.result c.faults-chosen.result c.deref-in-Choice-2.result.now c.in-Choice.a.value c.faults-chosen.ensures c.deref-in-Choice-2.ensures)
    (at-node s c.faults-chosen.result c.faults-in-Choice.result c.deref-in-Choice-3.result.now c.in-Choice.b.value c.faults-in-Choice.ensures c.deref-in-Choice-3.ensures))
    refl

pub faults-returns-in-Joined : goal.faults-returns-in-Joined
faults-returns-in-Joined t c =
    let s = seen_scope c.args.scope.now in
    let es = of_list (map seen c.in-Joined.parts.items) in
    own-then s c.args.best c.past-own-in-Joined.result c.all_faults.result (seen c.args.e.now) (x.Joined c.in-Joined.field-0 es) (all_faults s es)
    c.past-own-in-Joined.ensures
    (ap seen c.in-Joined.is ∙ joined-seen c.in-Joined.field-0 c.in-Joined.parts)
    (at-all s c.past-own-in-Joined.result c.all_faults.result c.as_slice-in-Joined.result.now c.in-Joined.parts.items c.all_faults.ensures c.as_slice-in-Joined.ensures.value)
    refl

pub faults-returns-in-Repeated : goal.faults-returns-in-Repeated
faults-returns-in-Repeated t c =
    let s = seen_scope c.args.scope.now in
    let n = seen c.in-Repeated.n.value in
    let es = of_list (map seen c.in-Repeated.parts.items) in
    own-then s c.args.best c.past-own-in-Repeated.result c.all_faults-in-Repeated.result (seen c.args.e.now) (x.Repeated c.in-Repeated.field-0 n es) (faults s n ++ (constant_must s is_count n 10 ++ all_faults s es))
    c.past-own-in-Repeated.ensures
    (ap seen c.in-Repeated.is ∙ ap (x.Repeated c.in-Repeated.field-0 n) (row_exs-hidden c.in-Repeated.parts))
    (chain-three c.past-own-in-Repeated.result c.faults-inner.result c.must_be_count-count.result c.all_faults-in-Repeated.result (faults s n) (constant_must s is_count n 10) (all_faults s es)
    (at-node s c.past-own-in-Repeated.result c.faults-inner.result c.deref-in-Repeated.result.now c.in-Repeated.n.value c.faults-inner.ensures c.deref-in-Repeated.ensures)
    (c.must_be_count-count.ensures ∙ ap (λ z. earliest c.faults-inner.result (constant_must s is_count (seen z) 10)) c.deref-in-Repeated-2.ensures)
    (at-all s c.must_be_count-count.result c.all_faults-in-Repeated.result c.as_slice-in-Repeated.result.now c.in-Repeated.parts.items c.all_faults-in-Repeated.ensures c.as_slice-in-Repeated.ensures.value))
    refl

pub faults-returns-in-Called : goal.faults-returns-in-Called
faults-returns-in-Called t c =
    let s = seen_scope c.args.scope.now in
    let es = of_list (map seen c.in-Called.given.items) in
    own-then s c.args.best c.past-own-in-Called.result c.all_faults-in-Called.result (seen c.args.e.now) (x.Called c.in-Called.field-0 c.in-Called.field-1 es) (all_faults s es)
    c.past-own-in-Called.ensures
    (ap seen c.in-Called.is ∙ called-seen c.in-Called.field-0 c.in-Called.field-1 c.in-Called.given)
    (at-all s c.past-own-in-Called.result c.all_faults-in-Called.result c.as_slice-in-Called.result.now c.in-Called.given.items c.all_faults-in-Called.ensures c.as_slice-in-Called.ensures.value)
    refl

pub faults-returns-in-System : goal.faults-returns-in-System
faults-returns-in-System t c =
    let s = seen_scope c.args.scope.now in
    let name = c.in-System.name in
    let given = args_before c.in-System.given.items x.NoArgs in
    let own = c.past-own-in-System.result in
    own-then s c.args.best own c.args_faults.result (seen c.args.e.now) (x.System c.in-System.field-0 name given) (args_faults s (keeps_texts name) given)
    c.past-own-in-System.ensures
    (ap seen c.in-System.is ∙ system-seen c.in-System.field-0 name c.in-System.given)
    (c.args_faults.ensures
    ∙ (ap (λ k. earliest own (args_faults s k (args_before c.as_slice-in-System-2.result.now x.NoArgs))) (c.keeps_texts-keeps.ensures ∙ ap keeps_texts c.as_slice-in-System.ensures)
    ∙ ap (λ g. earliest own (args_faults s (keeps_texts name) (args_before g x.NoArgs))) c.as_slice-in-System-2.ensures.value))
    refl

pub all_faults-loop-e-preserved : goal.all_faults-loop-e-preserved
all_faults-loop-e-preserved t c =
    let s = seen_scope c.args.scope.now in
    step (λ es. all_faults s (of_list (map seen es))) (λ e. faults s (seen e)) (λ y ys. refl) c.args.es.now c.loop-e.e-index c.e-item.result c.loop-e.all c.faults-all.result
    (earliest c.args.best (all_faults s (of_list (map seen c.args.es.now)))) c.loop-e-test.true c.e-item.is c.faults-all.ensures c.loop-e.invariant

pub all_faults-returns : goal.all_faults-returns
all_faults-returns t c =
    let s = seen_scope c.args.scope.now in
    finish (λ es. all_faults s (of_list (map seen es))) refl c.args.es.now c.loop-e.e-index c.loop-e.all
    (earliest c.args.best (all_faults s (of_list (map seen c.args.es.now)))) c.loop-e-test.false c.loop-e.invariant

pub selects_faults-loop-one-preserved : goal.selects_faults-loop-one-preserved
selects_faults-loop-one-preserved t c =
    let s = seen_scope c.args.scope.now in
    step-left (λ z. selects_before z x.NoSelects) (selects_faults s) (selects_faults s)
    c.args.selects.now c.loop-one.one-index c.one-item.result c.loop-one.all c.select_faults-all.result
    (earliest c.args.best (selects_faults s (selects_before c.args.selects.now x.NoSelects)))
    c.loop-one-test.true c.one-item.is (c.select_faults-all.ensures (selects_before (drop (c.loop-one.one-index + 1) c.args.selects.now) x.NoSelects)) c.loop-one.invariant

pub selects_faults-returns : goal.selects_faults-returns
selects_faults-returns t c =
    let s = seen_scope c.args.scope.now in
    finish (λ z. selects_faults s (selects_before z x.NoSelects)) refl c.args.selects.now c.loop-one.one-index c.loop-one.all
    (earliest c.args.best (selects_faults s (selects_before c.args.selects.now x.NoSelects)))
    c.loop-one-test.false c.loop-one.invariant

pub args_faults-loop-a-preserved : goal.args_faults-loop-a-preserved
args_faults-loop-a-preserved t c =
    let s = seen_scope c.args.scope.now in
    let k = c.args.keeps in
    step-left (λ z. args_before z x.NoArgs) (args_faults s k) (args_faults s k)
    c.args.given.now c.loop-a.a-index c.a-item.result c.loop-a.all c.argument_faults-all.result
    (earliest c.args.best (args_faults s k (args_before c.args.given.now x.NoArgs)))
    c.loop-a-test.true c.a-item.is (c.argument_faults-all.ensures (args_before (drop (c.loop-a.a-index + 1) c.args.given.now) x.NoArgs)) c.loop-a.invariant

pub args_faults-returns : goal.args_faults-returns
args_faults-returns t c =
    let s = seen_scope c.args.scope.now in
    let k = c.args.keeps in
    finish (λ z. args_faults s k (args_before z x.NoArgs)) refl c.args.given.now c.loop-a.a-index c.loop-a.all
    (earliest c.args.best (args_faults s k (args_before c.args.given.now x.NoArgs)))
    c.loop-a-test.false c.loop-a.invariant

pub name_faults-returns : goal.name_faults-returns
name_faults-returns t c =
    let s = seen_scope c.args.scope.now in
    let ss = selects_before c.args.selects.now x.NoSelects in
    chain c.args.best c.directions-turned.result c.selects_faults.result (directions s c.args.at (option_map binding_of c.args.known) ss) (selects_faults s ss)
    c.directions-turned.ensures c.selects_faults.ensures

pub select_faults-returns-in-Index : goal.select_faults-returns-in-Index
select_faults-returns-in-Index t c = λ others.
    let s = seen_scope c.args.scope.now in
    over c.args.best c.faults.result (faults s (seen c.in-Index.i)) (selects_faults s others) c.faults.ensures
    ∙ sym (ap (λ z. earliest c.args.best (selects_faults s (select z others))) c.in-Index.is)

pub select_faults-returns-in-Range : goal.select_faults-returns-in-Range
select_faults-returns-in-Range t c = λ others.
    let s = seen_scope c.args.scope.now in
    let m = c.in-Range.mark in
    let a = seen c.in-Range.left in
    let b = seen c.in-Range.right in
    over-four c.args.best c.faults-before.result c.left_bound-bound.result c.faults-behind.result c.right_bound.result
    (faults s a) (left_bound s m a) (faults s b) (right_bound s m b) (selects_faults s others)
    c.faults-before.ensures c.left_bound-bound.ensures c.faults-behind.ensures c.right_bound.ensures
    ∙ sym (ap (λ z. earliest c.args.best (selects_faults s (select z others))) c.in-Range.is)

pub argument_faults-returns-then-is_kept : goal.argument_faults-returns-then-is_kept
argument_faults-returns-then-is_kept t c = λ others.
    let s = seen_scope c.args.scope.now in
    let k = c.args.keeps in
    sym (ap (λ z. earliest c.args.best (args_faults s k (argument z others))) c.in-Value.is
    ∙ ap (λ own. earliest c.args.best (own ++ args_faults s k others)) (text-kept s k (seen c.in-Value.e) (faults s (seen c.in-Value.e)) (sym c.is_kept.ensures ∙ c.if-is_kept.true)))

pub argument_faults-returns-else-is_kept : goal.argument_faults-returns-else-is_kept
argument_faults-returns-else-is_kept t c = λ others.
    let s = seen_scope c.args.scope.now in
    let k = c.args.keeps in
    over c.args.best c.faults.result (faults s (seen c.in-Value.e)) (args_faults s k others) c.faults.ensures
    ∙ sym (ap (λ z. earliest c.args.best (args_faults s k (argument z others))) c.in-Value.is
    ∙ ap (λ own. earliest c.args.best (own ++ args_faults s k others)) (text-other s k (seen c.in-Value.e) (faults s (seen c.in-Value.e)) (sym c.is_kept.ensures ∙ c.if-is_kept.false)))
