use Rattle.std.proofs.Common.{◌≡◌, drop}
use Rattle.std.specs.Prelude.{not}
use Rattle.std.specs.List.{find}
use Rattle.vl_base.specs.Files.{free_slot, is_taken, slots}
use Rattle.ten_files.proofs.open.free_slot.Given as goal

abbrev pub invariant-loop-slot : goal.invariant-loop-slot
invariant-loop-slot l = free_slot l.table ≡ find (λ slot. not (is_taken l.table slot)) (drop l.slot slots)
