-- Whole numbers that are the same, or both far beyond any value.
use Rattle.std.specs.Prelude.{◌≡◌, ℕ, ℤ, pos, neg_ℤ, ◌≤ℤ◌, ◌⊎◌}

abbrev pub Near : ℕ → ℤ → ℤ → Type 0
Near far a b = (a ≡ b) ⊎ (((pos far ≤ℤ a) × (pos far ≤ℤ b)) ⊎ ((a ≤ℤ neg_ℤ (pos far)) × (b ≤ℤ neg_ℤ (pos far))))
