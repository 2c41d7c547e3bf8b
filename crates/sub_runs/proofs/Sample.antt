-- A small design meets the premises.
use Rattle.std.proofs.Common.{◌≡◌, ℕ, zero, suc, true, false, refl}
use Rattle.vl_sites.specs.vl_design.specs.Reads.{stm_writes}
use Rattle.vl_sites.specs.vl_design.specs.Queue.{proc_at, is_rise, is_fall}
use Rattle.vl_runs.specs.NetsOfSettle.{is_memory, comb_at}
use Rattle.vl_runs.specs.Sample.{backwards}
use Rattle.sub_runs.specs.Nets.{computed_at, HasNarrowNets, WritesNoNets}
use Rattle.sub_runs.specs.Memories.{memory_at, stm_sets, SetsNoMemories}

pub nets : WritesNoNets backwards
nets = record { others = at }
  where
    at : (i : ℕ) → comb_at backwards i ≡ false → stm_writes (computed_at backwards.rows) (proc_at backwards i).body ≡ false
    at zero h = let z : ⊥ = cc in absurd z
    at (suc zero) h = let z : ⊥ = cc in absurd z
    at (suc (suc zero)) h = refl
    at (suc (suc (suc i))) h = refl

pub narrow : HasNarrowNets backwards
narrow = record { words = at }
  where
    at : (k : ℕ) → computed_at backwards.rows k ≡ true → is_memory backwards.rows k ≡ false
    at zero h = refl
    at (suc zero) h = refl
    at (suc (suc zero)) h = refl
    at (suc (suc (suc zero))) h = refl
    at (suc (suc (suc (suc k)))) h = refl

pub memories : SetsNoMemories backwards
memories = record { rises = rise; falls = fall }
  where
    rise : (i : ℕ) → is_rise (proc_at backwards i).kind ≡ true → stm_sets (memory_at backwards.rows) (proc_at backwards i).body ≡ false
    rise zero h = refl
    rise (suc zero) h = refl
    rise (suc (suc zero)) h = refl
    rise (suc (suc (suc i))) h = refl

    fall : (i : ℕ) → is_fall (proc_at backwards i).kind ≡ true → stm_sets (memory_at backwards.rows) (proc_at backwards i).body ≡ false
    fall zero h = refl
    fall (suc zero) h = refl
    fall (suc (suc zero)) h = refl
    fall (suc (suc (suc i))) h = refl
