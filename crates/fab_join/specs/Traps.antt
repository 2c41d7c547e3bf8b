-- The trap of the state that a part stands in, and what serving it does (own).
use Rattle.std.specs.Prelude.{ℕ, Bool, false, List, Option, Some, None, option_and_then}
use Rattle.cell_eval.specs.vl_base.specs.declared.files.File.{File}
use Rattle.cell_eval.specs.vl_base.specs.declared.files.OpenFile.{OpenFile}
use Rattle.trap_runtime.specs.cell_form.specs.declared.table.Trap.{Trap}
use Rattle.trap_runtime.specs.cell_form.specs.Data.{BankData, TableData}
use Rattle.trap_runtime.specs.cell_form.specs.States.{present}
use Rattle.trap_runtime.specs.declared.served.Served.{Served}
use Rattle.trap_runtime.specs.declared.served.Served.TheVariants as way
use Rattle.trap_runtime.specs.Served.{Works, served, takes_memory, way_of}
use Rattle.fab_join.specs.Parts.{PartData}

-- the trap of the state that the state register names
abbrev pub trap_at : TableData → BankData → Option Trap
trap_at t b = option_and_then (λ s. s.trap) (present t b)

abbrev pub trap_in : PartData → Option Trap
trap_in p = trap_at p.table p.bank

-- what serving a trap does, and nothing where there is none
abbrev pub trap_served : List File → Option Trap → Works → Works
trap_served files None x = x
trap_served files (Some t) x = served files t x

-- a part's bank, the open files, and what is printed
abbrev pub works_of : PartData → List OpenFile → List ℕ → Works
works_of p rows printed = record { bank = p.bank; table = rows; printed = printed }

-- what serving the trap of a part does to its own bank
abbrev pub part_served : List File → PartData → List OpenFile → List ℕ → Works
part_served files p rows printed = trap_served files (trap_in p) (works_of p rows printed)

-- how it is served: where there is no trap, the run goes on
abbrev pub way_of_trap : Option Trap → Served
way_of_trap None = way.Went
way_of_trap (Some t) = way_of t.call

-- serving it takes memory: where there is no trap, it takes none
abbrev pub trap_takes_memory : Option Trap → Bool
trap_takes_memory None = false
trap_takes_memory (Some t) = takes_memory t.call
