use Rattle.std.proofs.Common.{◌≡◌, ◌<◌, ℕ, zero, suc, ◌+◌, List, [], ◌∷◌, length, drop, get_or, arith, subst}
use Rattle.std.proofs.lemmas.List.{at_drop_more, at_drop_all}
use Rattle.vl_eval.specs.vl_design.specs.Trees.{flat_of}
use Rattle.vl_runs.specs.Nets.{AllBelow}
use Rattle.plain_run.proofs.Passing.{Passed, passed-more, passed-all}
use Rattle.plain_run.proofs.nets.pass.Goals as goal
use Rattle.vl_runs.proofs.Shared.{below-at}

pub evaluate-requires-clause-there : goal.evaluate-requires-clause-there
evaluate-requires-clause-there c = below-at _ c.args.order.now c.loop-number.number-index 0 c.requires.there c.loop-number-test.true

pub loop-number-preserved : goal.loop-number-preserved
loop-number-preserved c =
    let d = flat_of c.args.design.now in
    let files = c.args.files.now in
    let order = c.args.order.now in
    let i = c.loop-number.number-index in
    let m = c.args.m.now in
    let left : drop i order ≡ get_or order i 0 ∷ drop (i + 1) order = at_drop_more (λ xs. xs) order i 0 c.loop-number-test.true in
    let before = subst (λ xs. Passed d files order xs m c.loop-number.m) left c.loop-number.invariant.passed in
    record {
      machine = c.in_ok-evaluate.ensures.machine;
      passed = passed-more d files order (drop (i + 1) order) (get_or order i 0) m c.loop-number.m c.evaluate.new.m before c.in_ok-evaluate.ensures.passes;
    }

pub returns-clause-passes : goal.returns-clause-passes
returns-clause-passes c =
    let d = flat_of c.args.design.now in
    let files = c.args.files.now in
    let order = c.args.order.now in
    let left : drop c.loop-number.number-index order ≡ [] = at_drop_all (λ xs. xs) order c.loop-number.number-index c.loop-number-test.false in
    passed-all d files order c.args.m.now c.loop-number.m (subst (λ xs. Passed d files order xs c.args.m.now c.loop-number.m) left c.loop-number.invariant.passed)
