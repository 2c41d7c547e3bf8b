-- What the processes of an accepted design meet with its loops unrolled, rule by rule, and an order of them (IEEE 1364-2005,
-- clauses 6.1, 9.2 and 9.7.5; which constructs are refused is own).
use Rattle.std.specs.Prelude.{◌≡◌, ℕ, ◌<◌, true, false, ◌==◌, length, List}
use Rattle.vl_paths.specs.vl_design.specs.declared.design.ProcKind.TheVariants.{Comb, Assign}
use Rattle.vl_paths.specs.vl_design.specs.Syntax.{Flat}
use Rattle.vl_paths.specs.vl_design.specs.Width.{names_of}
use Rattle.vl_paths.specs.vl_design.specs.Queue.{proc_at}
use Rattle.vl_paths.specs.vl_design.specs.Reads.{stm_writes, stm_timed}
use Rattle.vl_paths.specs.vl_design.specs.Laws.{can_act}
use Rattle.vl_paths.specs.Bits.{Bit, is_of}
use Rattle.vl_paths.specs.Paths.{always}
use Rattle.vl_paths.specs.Touched.{touched}
use Rattle.vl_paths.specs.Nets.{IsNetStm}
use Rattle.vl_paths.specs.Graph.{drives, Levelled}
use Rattle.vl_runs.specs.Nets.{In, AllBelow}
use Rattle.vl_runs.specs.NetsOfSettle.{is_memory, comb_at}

pub record IsChecked (d : Flat) : Type 0 where
  -- a combinational process only tests, and assigns at once, to signals of one word and selects of them
  pub nets : (i : ℕ) → comb_at d i ≡ true → IsNetStm (is_memory d.rows) (proc_at d i).body
  -- it asks for no answer of a system function, and not for the time
  pub quiet : (i : ℕ) → comb_at d i ≡ true → can_act (proc_at d i).body ≡ false
  pub timeless : (i : ℕ) → comb_at d i ≡ true → stm_timed (proc_at d i).body ≡ false
  -- an `always` that is combinational assigns on every path each bit of a signal of which it may assign one
  pub assigned : (i : ℕ) (b c : Bit) → (proc_at d i).kind ≡ Comb → touched (names_of d) c (proc_at d i).body ≡ true →
      is_of (names_of d) b c.signal ≡ true → always (names_of d) b (proc_at d i).body ≡ true
  -- an `assign` assigns each bit that it may assign: it is to no variable index
  pub placed : (i : ℕ) (b : Bit) → (proc_at d i).kind ≡ Assign → touched (names_of d) b (proc_at d i).body ≡ true →
      always (names_of d) b (proc_at d i).body ≡ true
  -- a bit has one driver
  pub once : (i j : ℕ) (b : Bit) → drives d i b ≡ true → drives d j b ≡ true → i ≡ j
  -- what a combinational process writes, a process of another kind doesn't
  pub alone : (i j k : ℕ) → comb_at d i ≡ true → comb_at d j ≡ false → stm_writes (λ x. x == k) (proc_at d i).body ≡ true →
      stm_writes (λ x. x == k) (proc_at d j).body ≡ false

-- each process stands in the order, and nothing else does; none reads a bit that it drives itself, or that one behind it
-- drives
pub record IsOrder (d : Flat) (order : List ℕ) : Type 0 where
  pub below : AllBelow (length d.procs) order
  pub every : (i : ℕ) → i < length d.procs → In i order
  pub levelled : Levelled d order
