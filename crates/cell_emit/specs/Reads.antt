-- Registers and memories that hold what expressions read (own).
use Rattle.std.specs.Prelude.{◌≡◌, ℕ, true, ◌<◌, ◌%◌, ◌^◌, List, [], slice_index, slice_index_or}
use Rattle.vl_sites.specs.vl_design.specs.Width.{Names}
use Rattle.vl_sites.specs.vl_design.specs.Value.{Sample, words_of, value_of}
use Rattle.vl_sites.specs.vl_design.specs.Sound.{IsSignal, IsMemory}
use Rattle.vl_sites.specs.vl_design.specs.Laws.{IsFine}
use Rattle.vl_sites.specs.Others.{other_at}
use Rattle.cell_form.specs.Data.{BankData}
use Rattle.cell_form.specs.Sound.{Shape}

-- a bank holds a sample: each signal in the register, and each memory in the memory, that its place names; the ticks begun and the
-- answer in registers. Loop variables and clocks are 0
pub record IsRead (names : Names) (b : BankData) (places : List ℕ) (time answer : ℕ) (x : Sample) : Type 0 where
  pub fine : IsFine names.rows x.values
  pub signals : (k : ℕ) → IsSignal names k → slice_index b.regs (slice_index places k) ≡ value_of x.values k
  pub others : (k : ℕ) → IsSignal names k → other_at names.rows k ≡ true → value_of x.values k ≡ 0
  pub memories : (m : ℕ) → IsMemory names m → slice_index_or b.mems (slice_index places m) [] ≡ words_of x.values m
  pub ticks : slice_index b.regs time ≡ x.time % 2 ^ 64
  pub last : slice_index b.regs answer ≡ x.answer
  pub small : x.answer < 2 ^ 32

-- these registers and memories are there
pub record HasPlaces (names : Names) (places : List ℕ) (time answer : ℕ) (s : Shape) : Type 0 where
  pub signals : (k : ℕ) → IsSignal names k → slice_index places k < s.regs
  pub memories : (m : ℕ) → IsMemory names m → slice_index places m < s.mems
  pub ticks : time < s.regs
  pub last : answer < s.regs
