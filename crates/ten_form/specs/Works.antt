-- What a trap that is served does to a run (IEEE 1364-2005, clause 17; own).
use Rattle.std.specs.Prelude.{◌≡◌, ◌↔◌, ℕ, ◌<◌, ◌≤◌, ◌^◌, true, false, List, [], ◌∷◌, ◌++◌, map, length, slice_index, All, ⊤}
use Rattle.vl_design.specs.vl_base.specs.declared.files.File.{File}
use Rattle.vl_design.specs.Functions.{scope_of}
use Rattle.vl_design.specs.Laws.{IsFine}
use Rattle.vl_design.specs.Sound.{IsSoundTask}
use Rattle.vl_design.specs.State.{State, sample}
use Rattle.vl_design.specs.Syntax.{Task, Fread, Flat}
use Rattle.vl_design.specs.Tasks.{called}
use Rattle.vl_design.specs.Width.{names_of}
use Rattle.vl_runs.specs.Computed.{computed_at}
use Rattle.cell_emit.specs.cell_form.specs.Data.{BankData}
use Rattle.cell_emit.specs.cell_form.specs.Sound.{shape_of}
use Rattle.cell_emit.specs.cell_form.specs.declared.table.Trap.{Trap}
use Rattle.cell_emit.specs.Envs.{HasOneWord}
use Rattle.trap_runtime.specs.declared.served.Served.{Served}
use Rattle.trap_runtime.specs.declared.served.Served.TheVariants as w
use Rattle.trap_runtime.specs.Served.{Works, served, way_of}
use Rattle.ten_form.specs.Banks.{IsFor, HoldsState}
use Rattle.ten_form.specs.Registers.{register_count}
use Rattle.ten_form.specs.Asked.{asked}
use Rattle.ten_form.specs.Traps.{IsTrapOf}

-- what a call works on, where a run is in a state that a bank holds
abbrev pub works_of : BankData → State → Works
works_of b s = record { bank = b; table = s.table; printed = s.printed }

-- the variable that `$fread` writes isn't computed by combinational processes
abbrev pub IsVariableRead : Flat → Task → Type 0
IsVariableRead d (Fread k fd) = computed_at d.rows k ≡ false
IsVariableRead d task = ⊤

-- each byte of each file is one
abbrev pub HaveBytes : List File → Type 0
HaveBytes files = All (λ f. All (λ b. b < 2 ^ 8) f.bytes) files

-- a run that goes on is in a state before a call, a bank holds this state, and slots hold what the call is given
pub record IsBefore (d : Flat) (files : List File) (task : Task) (slots : ℕ) (t : Trap) (b : BankData) (s : State) (committed : List (List ℕ)) : Type 0 where
  pub trap : IsTrapOf d task slots t
  pub sound : IsSoundTask (names_of d) task
  pub variable : IsVariableRead d task
  pub one_word : HasOneWord d.rows
  pub shape : IsFor d slots (shape_of b)
  pub holds : HoldsState d b s committed
  pub fine : IsFine d.rows s.values
  pub goes_on : s.finished ≡ false
  pub args : map (slice_index b.slots) t.args ≡ asked (scope_of d files) (sample s) task

-- the names of the snapshots that a call asks for
abbrev pub saved : Served → List (List ℕ)
saved (w.Save name) = name ∷ []
saved way = []

-- served, the trap does the call to what the bank holds, to the open files and to what is printed; and the run ends, or wants a
-- snapshot, just where the call says so
pub record DoesCall (d : Flat) (files : List File) (task : Task) (t : Trap) (b : BankData) (s : State) (committed : List (List ℕ)) : Type 0 where
  pub bank : HoldsState d (served files t (works_of b s)).bank (called (scope_of d files) task s) committed
  pub shape : shape_of (served files t (works_of b s)).bank ≡ shape_of b
  -- registers behind those of signals are as they were
  pub stores : (r : ℕ) → register_count (length d.rows) ≤ r → slice_index (served files t (works_of b s)).bank.regs r ≡ slice_index b.regs r
  pub table : (served files t (works_of b s)).table ≡ (called (scope_of d files) task s).table
  pub printed : (served files t (works_of b s)).printed ≡ (called (scope_of d files) task s).printed
  pub finishes : (way_of t.call ≡ w.Finish) ↔ ((called (scope_of d files) task s).finished ≡ true)
  pub saves : (called (scope_of d files) task s).saves ≡ s.saves ++ saved (way_of t.call)
