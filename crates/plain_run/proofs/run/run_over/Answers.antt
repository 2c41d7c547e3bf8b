use Rattle.std.proofs.Common.{◌≡◌, suc, sym, ap, ◌∙◌, subst, add-one}
use Rattle.vl_eval.specs.vl_design.specs.Trees.{flat_of}
use Rattle.plain_run.specs.Runs.{StandsAt}
use Rattle.plain_run.proofs.Boundaries.{stands-zero, goes-on-zero, goes-more}
use Rattle.plain_run.proofs.run.run_over.Goals as goal

pub ticks-init : goal.ticks-init
ticks-init c =
    let d = flat_of c.args.design.now in
    let files = c.args.files.now in
    let budget = c.args.budget in
    let after = c.settle.new.m in
    let zero_ticks : after.ticks ≡ 0 = c.in_ok-settle.ensures.ticks ∙ ap (λ s. s.ticks) c.in_ok-m.ensures.state in
    record {
      machine = c.in_ok-settle.ensures.machine;
      stands = subst (λ n. StandsAt d files budget n after) (sym zero_ticks) (stands-zero d files budget _ after c.in_ok-m.ensures.state c.in_ok-settle.ensures.settles);
      goes_on = rw zero_ticks (goes-on-zero d files budget);
    }

pub ticks-preserved : goal.ticks-preserved
ticks-preserved c =
    let d = flat_of c.args.design.now in
    let files = c.args.files.now in
    let budget = c.args.budget in
    let k = c.ticks.m.ticks in
    let l = c.ticks.invariant in
    let more = c.in_ok-tick.ensures.ticks in
    let next : c.tick.new.m.ticks ≡ suc k = more ∙ add-one k in
    record {
      machine = c.in_ok-tick.ensures.machine;
      stands = subst (λ n. StandsAt d files budget n c.tick.new.m) (sym next) (c.in_ok-tick.ensures.boundary budget k l.stands);
      goes_on = rw more (goes-more d files budget k c.ticks.m c.ticks-test.true c.if-m-budget.true l.stands l.goes_on);
    }
