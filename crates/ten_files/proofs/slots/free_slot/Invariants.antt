use Rattle.std.proofs.Common.{◌≡◌, drop}
use Rattle.std.specs.Prelude.{List, not}
use Rattle.std.specs.List.{find}
use Rattle.vl_base.specs.declared.files.File.{File}
use Rattle.vl_base.specs.Files.{free_slot, is_taken, slots}
use Rattle.ten_files.specs.Tables.{open_files}
use Rattle.ten_files.proofs.slots.free_slot.Given as goal

abbrev pub invariant-loop-slot : goal.invariant-loop-slot
invariant-loop-slot l =
    (files : List File) → free_slot (open_files files l.rows) ≡ find (λ slot. not (is_taken (open_files files l.rows) slot)) (drop l.slot slots)
