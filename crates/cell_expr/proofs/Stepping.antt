-- Measures that fall at the calls of the cycle of statements.
use Rattle.std.proofs.Common.{◌≡◌, ℕ, ◌+◌, ◌*◌, ◌<◌, arith}

-- from an item of a case to its body
pub steps-body : (n t : ℕ) → 4 * n + 2 ≡ t → 4 * n + 1 < t
steps-body n t e = omega (arith, e)

pub steps-item : (n t : ℕ) → 4 * n + 3 ≡ t → 4 * n + 2 < t
steps-item n t e = omega (arith, e)

-- from a case to its items
pub steps-items : (n k t : ℕ) → 4 * (n + k) + 3 ≡ t → 4 * k + 2 < t
steps-items n k t e = omega (arith, e)

-- from a test to the statements that it chooses from
pub steps-first : (n k j t : ℕ) → 4 * (n + (k + j)) + 3 ≡ t → 4 * k + 1 < t
steps-first n k j t e = omega (arith, e)

pub steps-second : (n k j t : ℕ) → 4 * (n + (k + j)) + 3 ≡ t → 4 * j + 1 < t
steps-second n k j t e = omega (arith, e)
