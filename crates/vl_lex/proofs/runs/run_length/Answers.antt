use Rattle.std.proofs.Common.{get_or, sym, ◌∙◌, arith}
use Rattle.vl_lex.specs.Reading.{test_of}
use Rattle.vl_lex.proofs.RunLaws.{run_goes, run_stops, read}
use Rattle.vl_lex.proofs.runs.run_length.Goals as goal

pub returns-then-not-passes-clause-exact : goal.returns-then-not-passes-clause-exact
returns-then-not-passes-clause-exact c =
    let e = run_stops (test_of c.args.kind) c.args.text.now c.loop-i.i (get_or c.args.text.now c.loop-i.i 0) c.loop-i-test.true (read _ _ 0 c.loop-i-test.true) (sym c.passes.ensures ∙ c.if-not-passes.true) in
    omega (arith, e, c.loop-i.invariant)

pub loop-i-preserved : goal.loop-i-preserved
loop-i-preserved c =
    let e = run_goes (test_of c.args.kind) c.args.text.now c.loop-i.i (get_or c.args.text.now c.loop-i.i 0) c.loop-i-test.true (read _ _ 0 c.loop-i-test.true) (sym c.passes.ensures ∙ c.if-not-passes.false) in
    omega (arith, e, c.loop-i.invariant)
