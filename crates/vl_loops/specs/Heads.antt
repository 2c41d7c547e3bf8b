-- Headers of loops, and the states of their turns (IEEE 1364-2005, clause 9.6).
use Rattle.std.specs.Prelude.{◌≡◌, ℕ, zero, suc, Bool, true, false, List, [], ◌∷◌}
use Rattle.vl_design.specs.Width.{Names}
use Rattle.vl_design.specs.Sound.{IsSoundExp}
use Rattle.vl_design.specs.Width.{Scope}
use Rattle.vl_design.specs.State.{State}
use Rattle.vl_design.specs.Exec.{exec, goes_on, turns}
use Rattle.vl_design.specs.Syntax.{Exp, Stm}
use Rattle.vl_design.specs.Placed as p
use Rattle.vl_design.specs.Plainly.{exp}
use Rattle.vl_loops.specs.Fits.{IsHeader}

-- an assignment of a constant to the loop variable j
abbrev pub IsHead : Names → ℕ → p.Stm → Type 0
IsHead names j (p.Set at (p.Whole q k) x) = (k ≡ j) × IsHeader names.rows (exp x) × IsSoundExp names (exp x)
IsHead names j a = ⊥

-- the states before the turns of a loop, at most so many
unfoldable pub turn_states : {S : Type 0} → ℕ → (S → Bool) → (S → S) → S → List S
turn_states zero test step s = []
turn_states (suc n) test step s = elim (test s) [ true ↦ s ∷ turn_states n test step (step s) | false ↦ [] ]

-- from the state s on, a loop of this test and step makes turns from these states, at most n, and more where it is endless
unfoldable pub AreTurns : Scope → Exp → Stm → ℕ → State → List State → Bool → Type 0
AreTurns scope test step n s states endless =
    (turn_states n (goes_on scope test) (exec scope step) s ≡ states) × (endless ≡ goes_on scope test (turns n (goes_on scope test) (exec scope step) s))
