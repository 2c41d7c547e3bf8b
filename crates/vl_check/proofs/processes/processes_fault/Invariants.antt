use Rattle.std.proofs.Common.{◌≡◌, ◌<◌, ℕ, drop, take, map, length, get_or, false}
use Rattle.std.specs.Prelude.{None, []}
use Rattle.vl_design.specs.Seen.{placed, process_of}
use Rattle.vl_design.specs.Stops.{earliest}
use Rattle.vl_check.specs.Standing.{processes_faults}
use Rattle.vl_check.specs.Told.{AreLong, AreTold}
use Rattle.vl_check.proofs.processes.processes_fault.Given as goal

abbrev pub invariant-loop-a : goal.invariant-loop-a
invariant-loop-a l = record {
  marks_long : length l.marks.items ≡ length l.design.signals;
  clean : (k : ℕ) → k < length l.design.signals → get_or l.marks.items k false ≡ false;
  long : AreLong (length l.design.signals) l.writers;
  told : AreTold (length l.design.signals) (map process_of (take l.a-index l.design.processes)) l.writers;
  rest : earliest l.first (processes_faults (placed l.design) (map process_of (take l.a-index l.design.processes)) (map process_of (drop l.a-index l.design.processes)))
      ≡ earliest None (processes_faults (placed l.design) [] (map process_of l.design.processes));
}
