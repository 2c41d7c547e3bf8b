use Rattle.std.proofs.Common.{map, ap, ◌∙◌, sym, take}
use Rattle.std.specs.Prelude.{◌||◌}
use Rattle.elab_plain.specs.vl_flat.specs.Surface as x
use Rattle.elab_plain.specs.vl_flat.specs.ExpressionFaults.{holds_long, some_hold_long, selects_hold_long, args_hold_long}
use Rattle.elab_plain.specs.Seen.{seen, selects_before, args_before}
use Rattle.elab_plain.specs.Listed.{of_list}
use Rattle.elab_plain.proofs.Walks.{named-seen, joined-seen, called-seen, system-seen, row_exs-hidden}
use Rattle.elab_faults.proofs.LongTexts.{exs-more, selects-more, args-more, or-right}
use Rattle.elab_faults.proofs.long.+long.Goals as goal

pub holds_long-returns-in-Named : goal.holds_long-returns-in-Named
holds_long-returns-in-Named t c =
    c.selects_hold_long.ensures
    ∙ (ap (λ ss. selects_hold_long (selects_before ss x.NoSelects)) c.as_slice-in-Named.ensures.value
    ∙ sym (ap holds_long (ap seen c.in-Named.is ∙ named-seen c.in-Named.field-0 c.in-Named.field-1 c.in-Named.selects)))

pub holds_long-returns-in-Joined : goal.holds_long-returns-in-Joined
holds_long-returns-in-Joined t c =
    c.some_hold_long.ensures
    ∙ (ap (λ es. some_hold_long (of_list (map seen es))) c.as_slice-in-Joined.ensures.value
    ∙ sym (ap holds_long (ap seen c.in-Joined.is ∙ joined-seen c.in-Joined.field-0 c.in-Joined.parts)))

pub holds_long-returns-else-holds_long-4 : goal.holds_long-returns-else-holds_long-4
holds_long-returns-else-holds_long-4 t c =
    c.some_hold_long-else-holds_long-4.ensures
    ∙ (ap (λ es. some_hold_long (of_list (map seen es))) c.as_slice-else-holds_long-4.ensures.value
    ∙ (or-right c.holds_long-in-Repeated.result (holds_long (seen c.in-Repeated.n.value)) (some_hold_long (of_list (map seen c.in-Repeated.parts.items))) (c.holds_long-in-Repeated.ensures ∙ ap (λ z. holds_long (seen z)) c.deref-in-Repeated.ensures) c.if-holds_long-4.false
    ∙ sym (ap holds_long (ap seen c.in-Repeated.is ∙ ap (x.Repeated c.in-Repeated.field-0 (seen c.in-Repeated.n.value)) (row_exs-hidden c.in-Repeated.parts)))))

pub holds_long-returns-in-Called : goal.holds_long-returns-in-Called
holds_long-returns-in-Called t c =
    c.some_hold_long-in-Called.ensures
    ∙ (ap (λ es. some_hold_long (of_list (map seen es))) c.as_slice-in-Called.ensures.value
    ∙ sym (ap holds_long (ap seen c.in-Called.is ∙ called-seen c.in-Called.field-0 c.in-Called.field-1 c.in-Called.given)))

pub holds_long-returns-in-System : goal.holds_long-returns-in-System
holds_long-returns-in-System t c =
    c.args_hold_long.ensures
    ∙ (ap (λ g. args_hold_long (args_before g x.NoArgs)) c.as_slice-in-System.ensures.value
    ∙ sym (ap holds_long (ap seen c.in-System.is ∙ system-seen c.in-System.field-0 c.in-System.field-1 c.in-System.given)))

pub some_hold_long-loop-e-preserved : goal.some_hold_long-loop-e-preserved
some_hold_long-loop-e-preserved t c =
    c.either-next.ensures
    ∙ (ap (λ b. b || c.holds_long-found.result) c.loop-e.invariant
    ∙ (ap (λ b. some_hold_long (of_list (map seen (take c.loop-e.e-index c.args.es.now))) || b) c.holds_long-found.ensures
    ∙ sym (exs-more c.args.es.now c.loop-e.e-index c.e-item.result c.loop-e-test.true c.e-item.is)))

pub selects_hold_long-loop-one-preserved : goal.selects_hold_long-loop-one-preserved
selects_hold_long-loop-one-preserved t c =
    c.either-next.ensures
    ∙ (ap (λ b. b || c.select_holds_long-found.result) c.loop-one.invariant
    ∙ (ap (λ b. selects_hold_long (selects_before (take c.loop-one.one-index c.args.selects.now) x.NoSelects) || b) c.select_holds_long-found.ensures
    ∙ sym (selects-more c.args.selects.now c.loop-one.one-index c.one-item.result c.loop-one-test.true c.one-item.is)))

pub args_hold_long-loop-a-preserved : goal.args_hold_long-loop-a-preserved
args_hold_long-loop-a-preserved t c =
    c.either-next.ensures
    ∙ (ap (λ b. b || c.argument_holds_long-found.result) c.loop-a.invariant
    ∙ (ap (λ b. args_hold_long (args_before (take c.loop-a.a-index c.args.given.now) x.NoArgs) || b) c.argument_holds_long-found.ensures
    ∙ sym (args-more c.args.given.now c.loop-a.a-index c.a-item.result c.loop-a-test.true c.a-item.is)))
