-- Which designs are compiled (IEEE 1364-2005, clauses 6.1 and 9.7.5; own).
use Rattle.std.specs.Prelude.{◌≡◌, ℕ, ◌≤◌, ◌==◌, true, false, List, length, All}
use Rattle.vl_design.specs.Queue.{proc_at}
use Rattle.vl_design.specs.Reads.{stm_writes}
use Rattle.vl_design.specs.Sound.{IsSound}
use Rattle.vl_design.specs.Syntax.{Flat}
use Rattle.vl_design.specs.Width.{names_of}
use Rattle.ten_form.specs.vl_runs.specs.Nets.{AllBelow}
use Rattle.ten_form.specs.vl_runs.specs.Checked.{IsChecked}
use Rattle.ten_form.specs.vl_runs.specs.Computed.{computed_at}
use Rattle.ten_form.specs.vl_runs.specs.NetsOfSettle.{comb_at}
use Rattle.cell_expr.specs.Bodies.{IsCellFun}

-- combinational processes write computed signals alone
abbrev pub ComputesAlone : Flat → Type 0
ComputesAlone d = (i k : ℕ) → comb_at d i ≡ true → computed_at d.rows k ≡ false → stm_writes (λ x. x == k) (proc_at d i).body ≡ false

-- designs that are compiled, with an order of their processes: sound ones that meet the rules of settling, of which functions can be
-- compiled, and combinational processes write computed signals alone
pub record IsCellDesign (d : Flat) (order : List ℕ) : Type 0 where
  pub sound : IsSound d
  pub functions : All (IsCellFun (names_of d)) d.funs
  pub checked : IsChecked d
  pub there : AllBelow (length d.procs) order
  pub few : length d.rows ≤ 268435456
  pub alone : ComputesAlone d
