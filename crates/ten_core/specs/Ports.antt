-- The ports of a design in the banks of its image (own).
use Rattle.std.specs.Prelude.{ℕ, ◌+◌, List, [], ◌∷◌, if◌then◌else◌}
use Rattle.vl_design.specs.Snapshots.{is_kept, snap_words}
use Rattle.vl_design.specs.Syntax.{Row}
use Rattle.trap_runtime.specs.cell_form.specs.declared.bank.Port.{Port}
use Rattle.snap_form.specs.declared.snapshot.SnapRow.{SnapRow}
use Rattle.sub_runs.specs.Memories.{is_mem}
use Rattle.ten_form.specs.Registers.{value_register, work_register, place}

-- the port of a signal of this number: of a variable the registers of its value and its work copy, of a memory its number
abbrev pub port_of : ℕ → Row → Port
port_of k r = record {
  mem = is_mem r.kind;
  value = place value_register r.kind k;
  work = place work_register r.kind k;
  width = r.width;
  words = snap_words r.kind r.words;
}

abbrev pub ports_from : ℕ → List Row → List Port
ports_from k [] = []
ports_from k (r ∷ rs) = if is_kept r.kind then port_of k r ∷ ports_from (k + 1) rs else ports_from (k + 1) rs

-- those of the signals that a snapshot keeps, in their order
abbrev pub ports_of : List Row → List Port
ports_of rows = ports_from 0 rows

-- the row of a signal in snapshots
abbrev pub snap_row : Row → SnapRow
snap_row r = record { name = r.name; width = r.width; words = snap_words r.kind r.words }
