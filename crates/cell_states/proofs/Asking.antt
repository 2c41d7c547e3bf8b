-- The slots of what a call is given.
use Rattle.std.proofs.Common.{ℕ, List, [], ◌∷◌}
use Rattle.std.specs.List.{AllByRecursion}
use Rattle.cell_emit.specs.cell_form.specs.Data.{ListData}
use Rattle.cell_emit.specs.Slots.{IsIn}
use Rattle.cell_calls.specs.Calls.{AreSlots}

pub slots-there : (l : ListData) (rs ws : List ℕ) → AreSlots l rs ws → AllByRecursion (IsIn l) rs
slots-there l [] ws h = tt
slots-there l (r ∷ rs) [] h = absurd h
slots-there l (r ∷ rs) (w ∷ ws) h = (h.0.there, slots-there l rs ws h.1)
