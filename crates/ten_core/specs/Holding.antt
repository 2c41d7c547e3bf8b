-- Designs whose runs can be held (own).
use Rattle.std.specs.Prelude.{◌≡◌, ℕ, ◌≤◌, ◌<◌, ◌^◌, ◌==◌, true, false, length}
use Rattle.std.specs.List.{AllByRecursion}
use Rattle.vl_design.specs.Queue.{proc_at}
use Rattle.vl_design.specs.Reads.{stm_writes}
use Rattle.vl_design.specs.Sound.{IsSound, IsWidth}
use Rattle.vl_design.specs.Syntax.{Row, Flat}
use Rattle.ten_form.specs.vl_runs.specs.Computed.{computed_at}
use Rattle.ten_form.specs.vl_runs.specs.NetsOfSettle.{comb_at}
use Rattle.ten_form.specs.cell_emit.specs.Envs.{HasOneWord}

-- 1 to 128 bits, and from one word to as many as 32 bits count
pub record IsSized (r : Row) : Type 0 where
  pub width : IsWidth r.width
  pub some : 1 ≤ r.words
  pub few : r.words < 2 ^ 32

-- combinational processes write computed signals alone
abbrev pub ComputesAlone : Flat → Type 0
ComputesAlone d = (i k : ℕ) → comb_at d i ≡ true → computed_at d.rows k ≡ false → stm_writes (λ x. x == k) (proc_at d i).body ≡ false

-- a sound design; what is no memory has one word; it has so few signals that each has its registers; and combinational processes
-- write computed signals alone
pub record CanBeHeld (d : Flat) : Type 0 where
  pub sound : IsSound d
  pub words : HasOneWord d.rows
  pub few : length d.rows ≤ 268435456
  pub signals : AllByRecursion IsSized d.rows
  pub alone : ComputesAlone d
