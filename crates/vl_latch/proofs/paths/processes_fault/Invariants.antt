use Rattle.std.proofs.Common.{◌≡◌, length}
use Rattle.vl_design.specs.Seen.{process_of}
use Rattle.vl_design.specs.Trees.{flat_of}
use Rattle.vl_design.specs.Width.{names_of}
use Rattle.vl_bits.specs.Walks.{IsClear}
use Rattle.vl_design.specs.First.{IsFirst}
use Rattle.vl_latch.specs.Faults.{IsProcessFault, stop_at}
use Rattle.vl_latch.proofs.Firsts.{Before}
use Rattle.vl_latch.proofs.paths.processes_fault.Given as goal

abbrev pub invariant-loop-process : goal.invariant-loop-process
invariant-loop-process l = record {
  long : length l.known.items ≡ length l.design.signals;
  clear : IsClear l.known.items;
  first : IsFirst (λ s. Before (λ x. IsProcessFault (names_of (flat_of l.design)) (process_of x) s) l.design.processes l.process-index) (stop_at l.best);
}
