use Rattle.std.proofs.Common.{◌∙◌}
use Rattle.vl_design.specs.Seen.{process_of}
use Rattle.vl_design.specs.Trees.{flat_of}
use Rattle.vl_design.specs.Width.{names_of}
use Rattle.vl_latch.specs.Faults.{IsProcessFault}
use Rattle.vl_latch.proofs.Designs.{process-there}
use Rattle.vl_latch.proofs.Rounds.{first-all, first-next, first-none}
use Rattle.vl_latch.proofs.paths.processes_fault.Goals as goal

pub loop-process-init : goal.loop-process-init
loop-process-init c = record {
  long = c.requires.long;
  clear = c.requires.clear;
  first = first-none (λ x. IsProcessFault (names_of (flat_of c.args.design.now)) (process_of x)) c.args.design.now.processes;
}

pub process_fault-requires-clause-sound : goal.process_fault-requires-clause-sound
process_fault-requires-clause-sound c = process-there c.args.design.now c.as_slice-processes.result.now c.loop-process.process-index c.process-item.result c.as_slice-processes.ensures c.loop-process-test.true c.process-item.is c.requires.sound

pub loop-process-preserved : goal.loop-process-preserved
loop-process-preserved c = record {
  long = c.in_ok-at.ensures.long ∙ c.loop-process.invariant.long;
  clear = c.in_ok-at.ensures.clear;
  first = first-next (λ x. IsProcessFault (names_of (flat_of c.args.design.now)) (process_of x)) c.args.design.now.processes c.as_slice-processes.result.now c.loop-process.process-index c.process-item.result c.loop-process.best c.in_ok-at.at c.first_of-best.result
      c.as_slice-processes.ensures c.loop-process-test.true c.process-item.is c.loop-process.invariant.first c.in_ok-at.ensures.first c.first_of-best.ensures;
}

pub returns-clause-first : goal.returns-clause-first
returns-clause-first c = first-all (λ x. IsProcessFault (names_of (flat_of c.args.design.now)) (process_of x)) c.args.design.now.processes c.as_slice-processes.result.now c.loop-process.process-index c.loop-process.best c.as_slice-processes.ensures c.loop-process-test.false c.loop-process.invariant.first
