-- Laws that several crates use.
use Rattle.std.proofs.Common.{List, None, Option, Some, [], arith, false, get_or, length, refl, suc, zero, ℕ, ◌<◌, ◌∷◌, ◌≡◌}
use Rattle.std.specs.Prelude.{slice_get}
use Rattle.vl_paths.specs.vl_design.specs.Sound.{IsMem, IsMemory, IsOf}
use Rattle.vl_paths.specs.vl_design.specs.Syntax.{Row}
use Rattle.vl_paths.specs.vl_design.specs.Width.{Names}
use Rattle.vl_paths.specs.vl_design.specs.declared.design.SigKind.{SigKind}
use Rattle.vl_paths.specs.vl_design.specs.declared.design.SigKind.TheVariants.{Clock, Comb, Loop, Mem, Net, Var}
use Rattle.vl_runs.specs.Computed.{computed_at, is_computed, is_computed_row}
use Rattle.vl_runs.specs.Nets.{AllBelow}

pub below-at : (n : ℕ) (xs : List ℕ) (i e : ℕ) → AllBelow n xs → i < length xs → get_or xs i e < n
below-at n [] i e h l = absurd (omega (arith, l))
below-at n (x ∷ xs) zero e h l = h.0
below-at n (x ∷ xs) (suc i) e h l = below-at n xs i e h.1 (omega (arith, l))

-- a memory isn't computed
pub memory-kept : (names : Names) (m : ℕ) → IsMemory names m → computed_at names.rows m ≡ false
memory-kept names m i = of (slice_get names.rows m) i
  where
    kind : (k : SigKind) → IsMem k → is_computed k ≡ false
    kind Net h = absurd h
    kind Var h = absurd h
    kind Comb h = absurd h
    kind Loop h = absurd h
    kind Mem h = refl
    kind Clock h = absurd h

    of : (o : Option Row) → IsOf IsMem o → is_computed_row o ≡ false
    of None h = absurd h
    of (Some r) h = kind r.kind h.0
