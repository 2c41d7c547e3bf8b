-- Laws that several crates use.
use Rattle.std.proofs.Common.{true, ℕ, ◌≡◌}
use Rattle.std.specs.Prelude.{◌==◌}
use Rattle.vl_check.specs.Rules.{sets}
use Rattle.vl_check.specs.Writers.{assigns}
use Rattle.vl_sites.specs.Sites.{Calls, Delays, Heads, Reads, Sets, Tasks, What}

pub assigns_wide : (k : ℕ) (w : What) → sets (λ j. j == k) w ≡ true → assigns k w ≡ true
assigns_wide k (Sets j word later) h = h
assigns_wide k (Reads j) h = h
assigns_wide k (Heads j) h = let z : ⊥ = cc in absurd z
assigns_wide k (Calls f) h = h
assigns_wide k Delays h = h
assigns_wide k (Tasks name given) h = h
