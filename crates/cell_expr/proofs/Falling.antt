-- Measures that fall at the calls of the cycle of expressions, and contexts that are as wide as what is read in them.
use Rattle.std.proofs.Common.{◌≡◌, ℕ, ◌+◌, ◌*◌, ◌<◌, ◌≤◌, arith}

-- from an expression that is read for itself to it in its context
pub falls-one : (n t : ℕ) → 6 * n + 1 ≡ t → 6 * n < t
falls-one n t e = omega (arith, e)

-- from an expression that is extended to it read for itself
pub falls-two : (n t : ℕ) → 6 * n + 2 ≡ t → 6 * n + 1 < t
falls-two n t e = omega (arith, e)

-- from a node to its operand
pub falls-own : (n t : ℕ) → 6 * n + 3 ≡ t → 6 * n + 1 < t
falls-own n t e = omega (arith, e)

pub falls-in : (n t : ℕ) → 6 * n + 3 ≡ t → 6 * n < t
falls-in n t e = omega (arith, e)

-- from a node to the first or the second of its operands
pub falls-own-first : (n k t : ℕ) → 6 * (n + k) + 3 ≡ t → 6 * n + 1 < t
falls-own-first n k t e = omega (arith, e)

pub falls-own-second : (n k t : ℕ) → 6 * (n + k) + 3 ≡ t → 6 * k + 1 < t
falls-own-second n k t e = omega (arith, e)

pub falls-first : (n k t : ℕ) → 6 * (n + k) + 3 ≡ t → 6 * n < t
falls-first n k t e = omega (arith, e)

pub falls-second : (n k t : ℕ) → 6 * (n + k) + 3 ≡ t → 6 * k < t
falls-second n k t e = omega (arith, e)

-- from a choice to what it chooses from
pub falls-middle : (n k j t : ℕ) → 6 * (n + (k + j)) + 3 ≡ t → 6 * k < t
falls-middle n k j t e = omega (arith, e)

pub falls-last : (n k j t : ℕ) → 6 * (n + (k + j)) + 3 ≡ t → 6 * j < t
falls-last n k j t e = omega (arith, e)

-- from an expression in its context to its node
pub falls-node : (n t : ℕ) → 6 * (1 + n) ≡ t → 6 * n + 3 < t
falls-node n t e = omega (arith, e)

pub falls-parts : (n t : ℕ) → 6 * (1 + n) ≡ t → 6 * n + 5 < t
falls-parts n t e = omega (arith, e)

-- from a concatenation to its parts, and from a call to its arguments
pub falls-list : (n t : ℕ) → 6 * n + 5 ≡ t → 6 * n + 4 < t
falls-list n t e = omega (arith, e)

pub falls-arguments : (n t : ℕ) → 6 * n + 3 ≡ t → 6 * n + 2 < t
falls-arguments n t e = omega (arith, e)

-- what is at least as wide has a bit too
pub has-bit : (n m : ℕ) → 1 ≤ n → n ≤ m → 1 ≤ m
has-bit n m h k = omega (arith, h, k)

-- ---- widths of slots

pub as-wide : (n m k : ℕ) → n ≡ m → 1 ≤ k → k ≤ m → 1 ≤ n
as-wide n m k e h j = omega (arith, e, h, j)

pub one-wide : (n m : ℕ) → n ≡ m → 1 ≤ m → 1 ≤ n
one-wide n m e h = omega (arith, e, h)

pub as-narrow : (n m : ℕ) → n ≡ m → m ≤ 128 → n ≤ 128
as-narrow n m e h = omega (arith, e, h)

pub no-wider : (n m : ℕ) → n ≡ m → m ≤ n
no-wider n m e = omega (arith, e)

pub within : (n m : ℕ) → n ≤ m → m ≤ 128 → n + 0 ≤ 128
within n m h k = omega (arith, h, k)

pub same-sum : (n m k j : ℕ) → n ≡ k → m ≡ j → n + m ≡ k + j
same-sum n m k j e d = omega (arith, e, d)

-- a leaf has a cell
pub one-cell : 1 ≤ 1
one-cell = omega arith
