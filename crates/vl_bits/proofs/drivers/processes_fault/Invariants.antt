use Rattle.std.proofs.Common.{◌≡◌, length, map, take}
use Rattle.std.specs.Prelude.{flat_map}
use Rattle.vl_design.specs.Seen.{placed, process_of}
use Rattle.vl_paths.specs.Bits.{Bit}
use Rattle.vl_bits.specs.Seen.{names_seen}
use Rattle.vl_bits.specs.Masks.{in_masks}
use Rattle.vl_design.specs.First.{IsFirst}
use Rattle.vl_design.specs.Firsts.{Somewhere}
use Rattle.vl_bits.specs.Drivers.{some_drives, driven_parts}
use Rattle.vl_bits.proofs.Following.{IsFaultOf}
use Rattle.vl_bits.proofs.drivers.processes_fault.Given as goal

abbrev pub invariant-loop-a : goal.invariant-loop-a
invariant-loop-a l = record {
  long : length l.known.items ≡ length (names_seen l.m).rows;
  known : (b : Bit) → in_masks l.known.items b ≡ some_drives (names_seen l.m) (flat_map driven_parts (map process_of (take l.a-index l.design.processes))) b;
  first : IsFirst (λ f. Somewhere (IsFaultOf (placed l.design) f) (map process_of (take l.a-index l.design.processes))) l.best;
}
