use Rattle.std.proofs.Common.{refl, map, ap, ◌∙◌, sym}
use Rattle.std.specs.Prelude.{◌&&◌}
use Rattle.elab_plain.specs.vl_flat.specs.Surface as x
use Rattle.elab_plain.specs.vl_flat.specs.Connections.{is_net, are_constant, are_nets, all_nets}
use Rattle.elab_plain.specs.Seen.{seen, selects_before}
use Rattle.elab_plain.specs.Listed.{of_list}
use Rattle.elab_plain.proofs.Walks.{named-seen, joined-seen}
use Rattle.elab_constant.specs.Seen.{seen_scope}
use Rattle.elab_faults.proofs.Constants.{test-step, test-finish}
use Rattle.elab_faults.proofs.nets.+nets.Goals as goal

pub are_nets-returns-in-Named : goal.are_nets-returns-in-Named
are_nets-returns-in-Named t c =
    let n = (seen_scope c.args.scope.now).names in
    let name = c.in-Named.name in
    c.both.ensures
    ∙ (ap (λ b. b && c.are_constant.result) (c.is_net-named.ensures ∙ ap is_net (c.meaning.ensures ∙ ap n c.as_slice.ensures))
    ∙ (ap (λ b. is_net (n name) && b) (c.are_constant.ensures ∙ ap (λ ss. are_constant n (selects_before ss x.NoSelects)) c.as_slice-in-Named.ensures.value)
    ∙ sym (ap (are_nets n) (ap seen c.in-Named.is ∙ named-seen c.in-Named.field-0 name c.in-Named.selects))))

pub are_nets-returns-in-Joined : goal.are_nets-returns-in-Joined
are_nets-returns-in-Joined t c =
    let n = (seen_scope c.args.scope.now).names in
    c.all_nets.ensures
    ∙ (ap (λ es. all_nets n (of_list (map seen es))) c.as_slice-in-Joined.ensures.value
    ∙ sym (ap (are_nets n) (ap seen c.in-Joined.is ∙ joined-seen c.in-Joined.field-0 c.in-Joined.parts)))

pub all_nets-loop-e-preserved : goal.all_nets-loop-e-preserved
all_nets-loop-e-preserved t c =
    let n = (seen_scope c.args.scope.now).names in
    test-step (λ es. all_nets n (of_list (map seen es))) (λ e. are_nets n (seen e)) (λ y ys. refl) c.args.es.now c.loop-e.e-index c.e-item.result
    c.loop-e.all c.are_nets-holds.result c.both-next.result (all_nets n (of_list (map seen c.args.es.now)))
    c.loop-e-test.true c.e-item.is c.are_nets-holds.ensures c.both-next.ensures c.loop-e.invariant

pub all_nets-returns : goal.all_nets-returns
all_nets-returns t c =
    let n = (seen_scope c.args.scope.now).names in
    test-finish (λ es. all_nets n (of_list (map seen es))) refl c.args.es.now c.loop-e.e-index c.loop-e.all (all_nets n (of_list (map seen c.args.es.now)))
    c.loop-e-test.false c.loop-e.invariant
