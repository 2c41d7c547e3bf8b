-- What it means that a bank holds a state of a run (own).
use Rattle.std.specs.Prelude.{◌≡◌, ℕ, ◌<◌, ◌≤◌, ◌+◌, ◌*◌, ◌^◌, List, [], length, take, slice_index, slice_index_or}
use Rattle.vl_design.specs.Syntax.{Flat}
use Rattle.vl_design.specs.Width.{names_of, signal_form}
use Rattle.vl_design.specs.Value.{value_of, words_of}
use Rattle.vl_design.specs.State.{State, Update, all_updated}
use Rattle.vl_design.specs.Sound.{IsSignal, IsMemory}
use Rattle.vl_design.specs.Laws.{IsFine}
use Rattle.cell_emit.specs.cell_form.specs.Cycle.{masked}
use Rattle.cell_emit.specs.cell_form.specs.Data.{BankData}
use Rattle.cell_emit.specs.cell_form.specs.Sound.{Shape}
use Rattle.sub_split.specs.sub_nodes.specs.Nodes.{Node}
use Rattle.sub_split.specs.sub_nodes.specs.Code.{table_of}
use Rattle.sub_split.specs.sub_nodes.specs.Early.{early_from}
use Rattle.ten_form.specs.declared.store.Store.{Store}
use Rattle.ten_form.specs.Holding.{HoldsWords}
use Rattle.ten_form.specs.Stores.{stores_of, stores_above, stores_below}
use Rattle.ten_form.specs.Registers.{answer_register, ticks_register, value_register, work_register, update_register, mask_register, register_count}
use Rattle.ten_form.specs.Nets.{cleared}

-- ---- the nodes that are done by states of cells, and their stores

-- those behind time zero's wave
abbrev pub cell_nodes : Flat → List Node
cell_nodes d = take (early_from d) (table_of d).nodes

-- their stores, whose registers stand behind those of the signals
abbrev pub stores_in : Flat → List Store
stores_in d = stores_of (register_count (length d.rows)) (cell_nodes d)

-- those of the nodes before this number
abbrev pub stores_before : Flat → ℕ → List Store
stores_before d n = stores_below (register_count (length d.rows)) (cell_nodes d) n

-- those of the nodes from this number on
abbrev pub stores_after : Flat → ℕ → List Store
stores_after d n = stores_above (register_count (length d.rows)) (cell_nodes d) n

-- ---- banks

-- a bank for the design, with at least so many slots
pub record IsFor (d : Flat) (least : ℕ) (z : Shape) : Type 0 where
  pub regs : z.regs ≡ register_count (length d.rows) + 4 * length (stores_in d)
  pub mems : z.mems ≡ length d.rows
  pub slots : least ≤ z.slots

-- the registers hold what is pending of signals: they make of any values what the updates in order make of them, by new values under
-- masks (IEEE 1364-2005, clause 9.2.2)
pub record HoldsPending (d : Flat) (b : BankData) (later : List Update) : Type 0 where
  pub updates : (base : List (List ℕ)) (k : ℕ) → IsFine d.rows base → IsSignal (names_of d) k →
      value_of (all_updated d.rows base later) k ≡ masked (value_of base k) (slice_index b.regs (update_register k)) (slice_index b.regs (mask_register k))
  pub update_fits : (k : ℕ) → IsSignal (names_of d) k → slice_index b.regs (update_register k) < 2 ^ (signal_form d.rows k).width
  pub mask_fits : (k : ℕ) → IsSignal (names_of d) k → slice_index b.regs (mask_register k) < 2 ^ (signal_form d.rows k).width

-- the registers of signals hold what a state and the values committed last have of them
pub record HoldsSignals (d : Flat) (b : BankData) (s : State) (committed : List (List ℕ)) : Type 0 where
  -- of each variable the work copy, and the copy committed last; 0 where a signal is computed
  pub works : (k : ℕ) → IsSignal (names_of d) k → slice_index b.regs (work_register k) ≡ value_of (cleared d.rows s.values) k
  pub values : (k : ℕ) → IsSignal (names_of d) k → slice_index b.regs (value_register k) ≡ value_of (cleared d.rows committed) k
  pub pending : HoldsPending d b s.later
  pub ticks : slice_index b.regs ticks_register ≡ s.ticks
  pub few : s.ticks < 2 ^ 32
  pub answer : slice_index b.regs answer_register ≡ s.answer
  pub small : s.answer < 2 ^ 32

-- the bank holds a state and the values committed last
pub record HoldsState (d : Flat) (b : BankData) (s : State) (committed : List (List ℕ)) : Type 0 where
  pub signals : HoldsSignals d b s committed
  -- a memory has one copy
  pub memories : (m : ℕ) → IsMemory (names_of d) m → slice_index_or b.mems m [] ≡ words_of s.values m
  -- the registers of stores hold what is pending of memories
  pub words : HoldsWords d b (stores_in d) s.later
