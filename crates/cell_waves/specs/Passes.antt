-- That cells do one pass over combinational processes (IEEE 1364-2005, clauses 6.1 and 9.7.5; own).
use Rattle.std.specs.Prelude.{◌≡◌, ℕ, ◌+◌, false, List, [], ◌∷◌, if◌then◌else◌}
use Rattle.cell_emit.specs.vl_base.specs.declared.files.File.{File}
use Rattle.ten_form.specs.vl_design.specs.Syntax.{Flat}
use Rattle.ten_form.specs.vl_design.specs.Width.{names_of}
use Rattle.ten_form.specs.vl_design.specs.Queue.{proc_at}
use Rattle.ten_form.specs.vl_design.specs.State.{State, sample}
use Rattle.ten_form.specs.vl_runs.specs.Nets.{pass}
use Rattle.ten_form.specs.vl_runs.specs.NetsOfSettle.{comb_at, run}
use Rattle.cell_emit.specs.cell_form.specs.Data.{ListData, BankData}
use Rattle.cell_emit.specs.cell_form.specs.Sound.{Shape}
use Rattle.cell_emit.specs.Slots.{AreSound, Longer}
use Rattle.cell_emit.specs.Envs.{Env, Fits, HasMemories, Stands}
use Rattle.cell_emit.specs.Paths.{Keeps}
use Rattle.cell_expr.specs.Counts.{stm_count, body_cells}

-- at most how many cells an evaluation of a process has, and those of processes in order
abbrev pub process_count : Flat → ℕ → ℕ
process_count d i = if comb_at d i then stm_count (body_cells d) (proc_at d i).body else 0

abbrev pub pass_count : Flat → List ℕ → ℕ
pass_count d [] = 0
pass_count d (i ∷ order) = process_count d i + pass_count d order

-- with at most n cells more, slots hold the values that one pass in order leaves
pub record Passes (d : Flat) (n : ℕ) (order : List ℕ) (at at' : Env) (old new : ListData) : Type 0 where
  pub longer : Longer (HasMemories (names_of d) at) n old new
  pub fits : Fits (names_of d) new at'
  pub keeps : Keeps (names_of d) at at'
  pub stands : (files : List File) (s : Shape) (b : BankData) (t : State) → AreSound s old → t.finished ≡ false → Stands (names_of d) b old at (sample t) →
      Stands (names_of d) b new at' (sample (record t { values = pass (run d files t) order t.values }))
