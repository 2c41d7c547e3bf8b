-- States of a run, and of one that is resumed from it (own).
use Rattle.std.specs.Prelude.{◌≡◌, ◌+◌, ◌++◌}
use Rattle.vl_design.specs.State.{State}

-- a whole run is in the state a, and one that is resumed from it, where the whole run was in the state first, is in the state b: both
-- have the same, but what was printed and counted before; and the answers of earlier calls
pub record IsBehind (first b a : State) : Type 0 where
  pub values : a.values ≡ b.values
  pub later : a.later ≡ b.later
  pub printed : a.printed ≡ first.printed ++ b.printed
  pub table : a.table ≡ b.table
  pub saves : a.saves ≡ b.saves
  pub ticks : a.ticks ≡ b.ticks
  pub finished : a.finished ≡ b.finished
  pub count : a.count ≡ first.count + b.count
