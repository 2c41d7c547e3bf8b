use Rattle.std.proofs.Common.{refl, sym, ◌∙◌}
use Rattle.fab_bay.proofs.Events.{goes-cycle}
use Rattle.fab_bay.proofs.Near.{none-stepped}
use Rattle.fab_bay.proofs.Wanted.{all-step}
use Rattle.fab_bay.proofs.noted.NotedCore.cycle.Goals as goal

pub returns-clause-goes : goal.returns-clause-goes
returns-clause-goes c = λ number out.
    let x = c.args.self.now in
    goes-cycle c.each_act_comes_nearer.ensures.rises c.each_act_comes_nearer.ensures.ticks c.a_run_at_rest_is_at_a_boundary.ensures.boundary c.has_one_state_at_a_boundary.ensures number x (record x { core = c.cycle.new.self }) out
    (record { label = refl; berths = refl; waiting = refl; notes = refl; told = refl }) c.cycle.ensures.fabric (all-step x c.cycle.result (λ f n. c.cycle.ensures.count f n.core) c.requires.steps) c.requires.order

pub returns-clause-near : goal.returns-clause-near
returns-clause-near c = λ on.
    let f = c.requires.fabric.0 in
    let h = c.requires.fabric.1 in
    let x = c.args.self.now in
    none-stepped c.each_act_comes_nearer.ensures.ticks x (record x { core = c.cycle.new.self }) f h.core on (c.cycle.ensures.fabric f h.core)

pub returns-clause-holding : goal.returns-clause-holding
returns-clause-holding c =
    let f = c.requires.fabric.0 in
    let h = c.requires.fabric.1 in
    (c.cycle.ensures.fabric f h.core).holding ∙ sym h.core.holding

pub returns-clause-core : goal.returns-clause-core
returns-clause-core c = λ f h. c.cycle.ensures.fabric f h.core
