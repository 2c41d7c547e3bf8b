-- Memories over the values committed last: clocked blocks write words of them by nonblocking assignments alone (own).
use Rattle.std.specs.Prelude.{◌≡◌, ℕ, Bool, true, false, ◌||◌, List, slice_get, Option, Some, None}
use Rattle.vl_sites.specs.vl_design.specs.declared.design.SigKind.{SigKind}
use Rattle.vl_sites.specs.vl_design.specs.declared.design.SigKind.TheVariants.{Mem}
use Rattle.vl_sites.specs.vl_design.specs.Syntax.{Stm, Nop, Then, If, Case, For, Repeat, Set, Later, Sys, Items, NoItems, Labelled, Default, Row, Flat}
use Rattle.vl_sites.specs.vl_design.specs.Value.{words_of}
use Rattle.vl_sites.specs.vl_design.specs.Reads.{target_writes, task_writes}
use Rattle.vl_sites.specs.vl_design.specs.Queue.{is_rise, is_fall, proc_at}
use Rattle.sub_nodes.specs.Cycles.{Stage}

abbrev pub is_mem : SigKind → Bool
is_mem Mem = true
is_mem kind = false

abbrev pub is_mem_row : Option Row → Bool
is_mem_row None = false
is_mem_row (Some r) = is_mem r.kind

-- the signal of a number is a memory
abbrev pub memory_at : List Row → ℕ → Bool
memory_at rows k = is_mem_row (slice_get rows k)

abbrev mutual
  -- the statement writes a signal that passes the test before its wave ends: by all but a nonblocking assignment
  pub stm_sets : (ℕ → Bool) → Stm → Bool
  stm_sets p Nop = false
  stm_sets p (Then a b) = stm_sets p a || stm_sets p b
  stm_sets p (If t a b) = stm_sets p a || stm_sets p b
  stm_sets p (Case e items) = items_set p items
  stm_sets p (For k start test step a) = p k || (stm_sets p start || (stm_sets p step || stm_sets p a))
  stm_sets p (Repeat n a) = stm_sets p a
  stm_sets p (Set t e) = target_writes p t
  stm_sets p (Later t e) = false
  stm_sets p (Sys task) = task_writes p task

  pub items_set : (ℕ → Bool) → Items → Bool
  items_set p NoItems = false
  items_set p (Labelled es a others) = stm_sets p a || items_set p others
  items_set p (Default a others) = stm_sets p a || items_set p others

-- no clocked block writes a memory by a blocking assignment, or by reading a file
pub record SetsNoMemories (d : Flat) : Type 0 where
  pub rises : (i : ℕ) → is_rise (proc_at d i).kind ≡ true → stm_sets (memory_at d.rows) (proc_at d i).body ≡ false
  pub falls : (i : ℕ) → is_fall (proc_at d i).kind ≡ true → stm_sets (memory_at d.rows) (proc_at d i).body ≡ false

-- memories are as they are in the committed values
pub record MemoriesHold (d : Flat) (i : Stage) : Type 0 where
  pub words : (m : ℕ) → memory_at d.rows m ≡ true → words_of i.state.values m ≡ words_of i.committed m
