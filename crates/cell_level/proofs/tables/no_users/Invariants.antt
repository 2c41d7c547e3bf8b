use Rattle.std.proofs.Common.{◌≡◌, ℕ, [], length}
use Rattle.std.specs.Prelude.{slice_get}
use Rattle.cell_level.specs.Tables.{users_of}
use Rattle.cell_level.proofs.tables.no_users.Given as goal

abbrev pub invariant-loop-signal : goal.invariant-loop-signal
invariant-loop-signal l = record {
  long : length l.table.items ≡ l._signal;
  none : (k : ℕ) → users_of (slice_get l.table.items k) ≡ [];
}
