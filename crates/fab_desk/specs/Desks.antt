-- What a call at a desk finds, and what its seat knows afterwards (own).
use Rattle.std.specs.Prelude.{◌≡◌, ℕ, ◌+◌, ◌<◌, ◌≤◌, false, List, [], ◌∷◌, ◌++◌, map, All, length, Option, Some, None}
use Rattle.std.specs.Bool.{Decides}
use Rattle.fab_bay.specs.fab_lock.specs.declared.entry.Entry.{Entry}
use Rattle.fab_bay.specs.fab_lock.specs.declared.view.View.{View}
use Rattle.fab_bay.specs.fab_lock.specs.Facts.{LockFacts, SeatFacts}
use Rattle.fab_bay.specs.fab_lock.specs.Histories.{StartsWith, notes_of, high}
use Rattle.fab_bay.specs.fab_model.specs.declared.note.Note.{Note}
use Rattle.fab_bay.specs.fab_model.specs.declared.transit.Transit.{Transit}
use Rattle.fab_bay.specs.fab_model.specs.Histories.{entry_of, AreLinesByFirst, IsLegal}
use Rattle.fab_bay.specs.fab_model.specs.Origins.{AreOwn}
use Rattle.fab_bay.specs.fab_model.specs.Tokens.{puts, token_of, AllBear}
use Rattle.fab_bay.specs.declared.leaving.Receipt.{Receipt}
use Rattle.fab_bay.specs.declared.leaving.Refused.{Refused}
use Rattle.fab_bay.specs.declared.leaving.Taken.{Taken}
use Rattle.fab_bay.specs.declared.leaving.Turn.{Turn}
use Rattle.fab_bay.specs.declared.noted.Label.{Label}
use Rattle.fab_bay.specs.declared.noted.NotedCore.{NotedCore}
use Rattle.fab_bay.specs.Refusals.{IsRefusal}
use Rattle.fab_bay.specs.Standing.{IsBay}
use Rattle.fab_bay.specs.Taking.{IsTaken}
use Rattle.fab_bay.specs.Ways.{AreBelow, IsEmpty, IsPut, Turned}

abbrev pub DeskView : Type 0
DeskView = View Label Note

abbrev pub itself : Entry → Entry
itself e = e

-- A seat that knows v may find this history: it is legal; whoever is put in line starts from what the label names; it begins with what the seat has seen; of the seat's own number it has just the
-- notes that the seat gave, and of the numbers of its range none other; of each seat that was joined into it just theirs; and for each
-- tenant it goes as far as the seat was told
pub record Finds (label : Label) (v : DeskView) (found : List Note) : Type 0 where
  pub legal : IsLegal label.fabric label.capacity found
  pub lines : label.any_puts ≡ false → AreLinesByFirst found
  pub starts : AreOwn label.origins (puts found)
  pub begins : StartsWith found v.seen
  pub own : notes_of entry_of v.low found ≡ v.own
  pub unused : (n : ℕ) → v.low < n → n ≤ v.low + v.others → notes_of entry_of n found ≡ []
  pub joined : All (λ seat. notes_of entry_of seat.0 found ≡ seat.1) v.joined
  pub known : All (λ word. word.1 ≤ high entry_of word.0 found) v.known

-- the seat has seen the history and then these notes, which are its own
abbrev pub serving : DeskView → (found added : List Note) → DeskView
serving v found added = record v { seen = found ++ added; own = v.own ++ added; holds = false; taken = []; words = [] }

-- a bay with this history, which the seat finds
pub record IsFound (label : Label) (v : DeskView) (x : NotedCore) : Type 0 where
  pub bay : IsBay x
  pub label_is : x.label ≡ label
  pub finds : Finds label v x.notes.items

-- behind the notes taken there are notes that bear this number, of tenants below that one, and these entries are what they tell
pub record Gives (tenants number : ℕ) (taken now : List Note) (entries : List Entry) : Type 0 where
  pub added : List Note
  pub notes : now ≡ taken ++ added
  pub told : entries ≡ map entry_of added
  pub bear : AllBear number added
  pub few : AreBelow tenants added

-- ---- calls

-- a tenant is put in line
pub record DidPut (label : Label) (t : Transit) (v v' : DeskView) (r : Receipt) : Type 0 where
  pub before : NotedCore
  pub after : NotedCore
  pub found : IsFound label v before
  pub put : IsPut v.low before after t r
  pub view : v' ≡ serving v before.notes.items (put.note ∷ [])

-- or else it is given back, and why
pub record DidRefuse (label : Label) (t : Transit) (v v' : DeskView) (r : Refused) : Type 0 where
  pub found : List Note
  pub finds : Finds label v found
  pub back : r.transit ≡ t
  pub why : IsRefusal label.capacity found (token_of t) r.why
  pub view : v' ≡ serving v found []

-- a turn of at most so many cycles
pub record DidTurn (label : Label) (most : ℕ) (v v' : DeskView) (t : Turn) : Type 0 where
  pub before : NotedCore
  pub after : NotedCore
  pub found : IsFound label v before
  pub turned : Turned v.low most before after t
  pub view : v' ≡ serving v before.notes.items turned.goes.added
  pub idle : Decides t.idle (IsEmpty before.notes.items)

-- a tenant is taken out, if it is there
pub record DidTake (label : Label) (tenant : ℕ) (v v' : DeskView) (t : Taken) : Type 0 where
  pub before : NotedCore
  pub after : NotedCore
  pub found : IsFound label v before
  pub taken : IsTaken v.low tenant before after t
  pub added : List Note
  pub notes : after.notes.items ≡ before.notes.items ++ added
  pub view : v' ≡ serving v before.notes.items added

-- there was no memory, and nothing was done
pub record DidNothing (label : Label) (v v' : DeskView) : Type 0 where
  pub found : List Note
  pub finds : Finds label v found
  pub view : v' ≡ serving v found []
