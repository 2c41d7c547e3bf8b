-- How parts lie in a joined bank (own).
use Rattle.std.specs.Prelude.{◌≡◌, List, map, All, AllPairs}
use Rattle.trap_runtime.specs.cell_form.specs.declared.bank.Port.{Port}
use Rattle.trap_runtime.specs.cell_form.specs.Data.{TableData, BankData}
use Rattle.trap_runtime.specs.cell_form.specs.Sound.{Shape, shape_of}
use Rattle.trap_runtime.specs.cell_form.specs.Views.{table_of}
use Rattle.fab_join.specs.declared.joined.Part.{Part}
use Rattle.fab_join.specs.declared.span.Span.{Span}
use Rattle.fab_join.specs.Banks.{part, IsWithin, AreApart}
use Rattle.fab_join.specs.Numbers.{behind, from_first, numbered_table, numbered_port}
use Rattle.fab_join.specs.Parts.{PartData, IsTable}

abbrev pub shape_of_span : Span → Shape
shape_of_span s = record { regs = s.regs; mems = s.mems; slots = s.slots }

-- the part by its own numbers
abbrev pub part_data : BankData → Part → PartData
part_data b p = record {
  table = numbered_table (from_first (shape_of_span p.place)) (table_of p.table);
  ports = map (numbered_port (from_first (shape_of_span p.place))) p.ports.ports;
  bank = part (shape_of_span p.place) (shape_of_span p.size) b;
}

-- the table and the ports of a part are some of a bank of its size, under the numbers of its place, which is in the bank
pub record IsPart (bank : Shape) (p : Part) : Type 0 where
  pub table : TableData
  pub ports : List Port
  pub table_is : table_of p.table ≡ numbered_table (behind (shape_of_span p.place)) table
  pub ports_are : p.ports.ports ≡ map (numbered_port (behind (shape_of_span p.place))) ports
  pub may_run : IsTable (shape_of_span p.size) table
  pub within : IsWithin (shape_of_span p.place) (shape_of_span p.size) bank

abbrev pub PartsApart : Part → Part → Type 0
PartsApart p q = AreApart (shape_of_span p.place) (shape_of_span p.size) (shape_of_span q.place) (shape_of_span q.size)

-- each part is in the bank, and no two have anything in common
pub record IsLaid (b : BankData) (parts : List Part) : Type 0 where
  pub each : All (IsPart (shape_of b)) parts
  pub apart : AllPairs PartsApart parts
