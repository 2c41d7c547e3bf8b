-- How many cells a node takes.
use Rattle.std.specs.Prelude.{ℕ, ◌==◌, nat_le, if◌then◌else◌}

-- one for a value that is read at another width than its own
abbrev pub resizes : ℕ → ℕ → ℕ
resizes own width = if own == width then 0 else 1

-- one where there is more than one copy
abbrev pub copied : ℕ → ℕ
copied n = if nat_le n 1 then 0 else 1
