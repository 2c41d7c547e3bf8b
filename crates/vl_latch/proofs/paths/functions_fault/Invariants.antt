use Rattle.std.proofs.Common.{◌≡◌, length}
use Rattle.vl_design.specs.Seen.{func_of}
use Rattle.vl_design.specs.Trees.{flat_of}
use Rattle.vl_design.specs.Width.{names_of}
use Rattle.vl_bits.specs.Walks.{IsClear}
use Rattle.vl_design.specs.First.{IsFirst}
use Rattle.vl_latch.specs.Faults.{IsFunctionFault, stop_at}
use Rattle.vl_latch.proofs.Firsts.{Before}
use Rattle.vl_latch.proofs.paths.functions_fault.Given as goal

abbrev pub invariant-loop-f : goal.invariant-loop-f
invariant-loop-f l = record {
  long : length l.known.items ≡ length l.design.signals;
  clear : IsClear l.known.items;
  first : IsFirst (λ s. Before (λ x. IsFunctionFault (names_of (flat_of l.design)) (func_of x) s) l.design.funcs l.f-index) (stop_at l.best);
}
