use Rattle.std.proofs.Common.{get_or, ◌<◌, ℕ, subst, List}
use Rattle.vl_design.specs.First.{In}
use Rattle.vl_check.specs.declared.calls_calls.Call.{Call}
use Rattle.vl_check.specs.Tables.{rows_of}
use Rattle.vl_check.proofs.Lists.{in-there, itself-at}
use Rattle.vl_check.proofs.Cycling.{inner-none, inner-more, inner-all}
use Rattle.vl_check.proofs.Tabling.{many-rows}
use Rattle.vl_check.proofs.recursion.calls_fault.Goals as goal

abbrev none : Call
none = record { place = record { line = 0; column = 0 }; callee = 0 }

pub loop-call-init : goal.loop-call-init
loop-call-init c = inner-none (rows_of c.args.table.now) c.args.f c.args.best c.requires.first

pub reaches-requires-clause-from : goal.reaches-requires-clause-from
reaches-requires-clause-from c =
    let y = (get_or c.args.calls.now c.loop-call.call-index none) in
    let rows = rows_of c.args.table.now in
    subst (λ (n : ℕ). y.callee < n) (many-rows c.args.table.now)
    (c.requires.within c.args.f y (subst (λ (z : List Call). In y z) c.requires.row (in-there c.args.calls.now c.loop-call.call-index y c.loop-call-test.true (itself-at c.args.calls.now c.loop-call.call-index none c.loop-call-test.true))))

pub loop-call-preserved : goal.loop-call-preserved
loop-call-preserved c =
    inner-more (rows_of c.args.table.now) c.args.f c.args.calls.now c.loop-call.call-index (get_or c.args.calls.now c.loop-call.call-index none) c.in_ok-back.back c.loop-call.first c.construct_if-first.result
    c.loop-call-test.true (itself-at c.args.calls.now c.loop-call.call-index none c.loop-call-test.true) c.in_ok-back.ensures c.construct_if-first.ensures c.loop-call.invariant

pub returns : goal.returns
returns c = inner-all (rows_of c.args.table.now) c.args.f c.args.calls.now c.loop-call.call-index c.loop-call.first c.loop-call-test.false c.requires.row c.loop-call.invariant
