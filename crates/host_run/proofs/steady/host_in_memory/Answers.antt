use Rattle.std.proofs.Common.{◌≡◌, ℕ, List, inl, inr}
use Rattle.std.specs.Prelude.{◌⊎◌}
use Rattle.host_form.specs.fab_io.specs.Outside.{HasRisen}
use Rattle.fab_rounds.specs.fab_bay.specs.declared.noted.NotedCore.{NotedCore}
use Rattle.host_run.specs.Claims.{HasFailed}
use Rattle.host_run.specs.Due.{Outside}
use Rattle.host_run.proofs.Dues.{not-risen}
use Rattle.host_run.proofs.steady.host_in_memory.Goals as goal

-- neither of two that never fail has failed
none-failed : (words : List (List ℕ)) (a b : Outside) (bays : List NotedCore) → (HasRisen a.failures b.failures → ⊥)
    → (HasRisen a.counts.faults b.counts.faults → ⊥) → HasFailed words a b bays → ⊥
none-failed words a b bays sink store (inl cut) = sink cut.sink
none-failed words a b bays sink store (inr unsaved) = store unsaved.store

but-six : (n : ℕ) → (n ≡ 6 → ⊥) → (n ≡ 4) ⊎ ((n ≡ 6) ⊎ (n ≡ 7)) → (n ≡ 4) ⊎ (n ≡ 7)
but-six n never (inl four) = inl four
but-six n never (inr (inl six)) = absurd (never six)
but-six n never (inr (inr seven)) = inr seven

pub returns-clause-complete : goal.returns-clause-complete
returns-clause-complete g c = λ given. c.host.ensures.complete given not-risen not-risen not-risen

pub returns-clause-steady : goal.returns-clause-steady
returns-clause-steady g c = λ six. none-failed _ _ _ _ not-risen not-risen (c.host.ensures.failed six)

pub returns-clause-faulty : goal.returns-clause-faulty
returns-clause-faulty g c = λ given.
    but-six _ (λ six. none-failed _ _ _ _ not-risen not-risen (c.host.ensures.failed six)) (c.host.ensures.faulty given not-risen not-risen)
