use Rattle.std.proofs.Common.{◌≡◌, ℕ, true, false, drop}
use Rattle.vl_bits.specs.Masks.{has}
use Rattle.cell_level.specs.Tables.{in_users}
use Rattle.cell_level.specs.Walks.{on}
use Rattle.cell_level.proofs.tables.unmarked.Given as goal

abbrev pub invariant-loop-user : goal.invariant-loop-user
invariant-loop-user l = (p i : ℕ) → in_users l.users p i ≡ true → has l.bits i ≡ true → on l.flags.items p ≡ false → in_users (drop l.user-index l.users) p i ≡ true
