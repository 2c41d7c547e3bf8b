use Rattle.std.proofs.Common.{◌∙◌}
use Rattle.vl_design.specs.Seen.{func_of}
use Rattle.vl_design.specs.Trees.{flat_of}
use Rattle.vl_design.specs.Width.{names_of}
use Rattle.vl_latch.specs.Faults.{IsFunctionFault}
use Rattle.vl_latch.proofs.Designs.{function-there}
use Rattle.vl_latch.proofs.Rounds.{first-all, first-next, first-none}
use Rattle.vl_latch.proofs.paths.functions_fault.Goals as goal

pub loop-f-init : goal.loop-f-init
loop-f-init c = record {
  long = c.requires.long;
  clear = c.requires.clear;
  first = first-none (λ x. IsFunctionFault (names_of (flat_of c.args.design.now)) (func_of x)) c.args.design.now.funcs;
}

pub function_fault-requires-clause-sound : goal.function_fault-requires-clause-sound
function_fault-requires-clause-sound c = function-there c.args.design.now c.as_slice-funcs.result.now c.loop-f.f-index c.f-item.result c.as_slice-funcs.ensures c.loop-f-test.true c.f-item.is c.requires.sound

pub loop-f-preserved : goal.loop-f-preserved
loop-f-preserved c = record {
  long = c.in_ok-at.ensures.long ∙ c.loop-f.invariant.long;
  clear = c.in_ok-at.ensures.clear;
  first = first-next (λ x. IsFunctionFault (names_of (flat_of c.args.design.now)) (func_of x)) c.args.design.now.funcs c.as_slice-funcs.result.now c.loop-f.f-index c.f-item.result c.loop-f.best c.in_ok-at.at c.first_of-best.result
      c.as_slice-funcs.ensures c.loop-f-test.true c.f-item.is c.loop-f.invariant.first c.in_ok-at.ensures.first c.first_of-best.ensures;
}

pub returns : goal.returns
returns c = first-all (λ x. IsFunctionFault (names_of (flat_of c.args.design.now)) (func_of x)) c.args.design.now.funcs c.as_slice-funcs.result.now c.loop-f.f-index c.loop-f.best c.as_slice-funcs.ensures c.loop-f-test.false c.loop-f.invariant.first
