-- What the tests of a design's signals tell of their rows and kinds.
use Rattle.std.proofs.Common.{◌≡◌, ℕ, zero, suc, true, false, List, [], ◌∷◌, map, Option, Some, None, refl}
use Rattle.std.specs.List.{slice_get}
use Rattle.vl_loops.specs.vl_design.specs.declared.design.Signal.{Signal}
use Rattle.vl_loops.specs.vl_design.specs.declared.design.SigKind.{SigKind}
use Rattle.vl_loops.specs.vl_design.specs.declared.design.SigKind.TheVariants.{Net, Var, Comb, Loop, Mem, Clock}
use Rattle.vl_loops.specs.vl_design.specs.Rows.{row_of}
use Rattle.sub_runs.specs.vl_runs.specs.Computed.{is_computed, computed_at}
use Rattle.elab_laws.specs.vl_check.specs.Bodies.{signal_is, kind_is}
use Rattle.elab_laws.specs.vl_check.specs.Rules.{is_clock, is_loop, is_derived}
use Rattle.elab_laws.specs.vl_check.specs.Writers.{is_store}
use Rattle.elab_laws.specs.vl_bits.specs.Drivers.{is_net_kind, is_net_signal, is_net}
use Rattle.elab_laws.specs.vl_check.specs.Written.{is_kept, is_combined, is_uncomputed}
use Rattle.sub_runs.specs.Memories.{is_mem, memory_at}

derived : (kind : SigKind) → is_computed kind ≡ is_derived kind
derived Net = refl
derived Var = refl
derived Comb = refl
derived Loop = refl
derived Mem = refl
derived Clock = refl

-- a computed signal is one by its row
pub computed : (signals : List Signal) (k : ℕ) → computed_at (map row_of signals) k ≡ kind_is is_derived signals k
computed [] k = refl
computed (s ∷ ss) zero = derived s.kind
computed (s ∷ ss) (suc k) = computed ss k

-- ---- the kinds of signals

kind_left : (kind : SigKind) → is_kept kind ≡ false → is_clock kind ≡ false → is_loop kind ≡ false → is_mem kind ≡ false → is_derived kind ≡ true
kind_left Net kept clock loop memory = refl
kind_left Comb kept clock loop memory = refl
kind_left Var kept clock loop memory = let z : ⊥ = cc in absurd z
kind_left Loop kept clock loop memory = let z : ⊥ = cc in absurd z
kind_left Mem kept clock loop memory = let z : ⊥ = cc in absurd z
kind_left Clock kept clock loop memory = let z : ⊥ = cc in absurd z

-- what is left beside kept variables, clocks, loop variables and memories is computed
pub derived_left : (signals : List Signal) (k : ℕ) → is_uncomputed signals k ≡ false → kind_is is_clock signals k ≡ false → kind_is is_loop signals k ≡ false →
    memory_at (map row_of signals) k ≡ false → kind_is is_derived signals k ≡ true
derived_left [] k kept clock loop memory = let z : ⊥ = cc in absurd z
derived_left (s ∷ ss) zero kept clock loop memory = kind_left s.kind kept clock loop memory
derived_left (s ∷ ss) (suc k) kept clock loop memory = derived_left ss k kept clock loop memory

kind_neither : (kind : SigKind) → is_net_kind kind ≡ false → is_combined kind ≡ false → is_derived kind ≡ false
kind_neither Net net combined = net
kind_neither Var net combined = refl
kind_neither Comb net combined = combined
kind_neither Loop net combined = refl
kind_neither Mem net combined = refl
kind_neither Clock net combined = refl

-- what is neither a net nor a variable that combinational processes compute isn't computed
pub derived_neither : (signals : List Signal) (k : ℕ) → is_net signals k ≡ false → kind_is is_combined signals k ≡ false → kind_is is_derived signals k ≡ false
derived_neither signals k net combined = at (slice_get signals k) net combined
  where
    at : (o : Option Signal) → is_net_signal o ≡ false → signal_is is_combined o ≡ false → signal_is is_derived o ≡ false
    at None net' combined' = refl
    at (Some s) net' combined' = kind_neither s.kind net' combined'

kind_stored : (kind : SigKind) → is_combined kind ≡ true → is_store kind ≡ true
kind_stored Comb combined = refl
kind_stored Net combined = combined
kind_stored Var combined = refl
kind_stored Loop combined = combined
kind_stored Mem combined = refl
kind_stored Clock combined = combined

-- a variable that combinational processes compute keeps its value
pub stored : (signals : List Signal) (k : ℕ) → kind_is is_combined signals k ≡ true → kind_is is_store signals k ≡ true
stored signals k combined = at (slice_get signals k) combined
  where
    at : (o : Option Signal) → signal_is is_combined o ≡ true → signal_is is_store o ≡ true
    at None combined' = combined'
    at (Some s) combined' = kind_stored s.kind combined'
