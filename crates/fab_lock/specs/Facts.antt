-- What contracts see of a lock and of a seat, and what a seat may find.
use Rattle.std.specs.Prelude.{◌≡◌, ℕ, ◌+◌, ◌<◌, ◌≤◌, List, [], Some, All}
use Rattle.atomic_table.specs.Seated.{TableId}
use Rattle.fab_lock.specs.declared.entry.Entry.{Entry}
use Rattle.fab_lock.specs.declared.view.View.{View}
use Rattle.fab_lock.specs.Histories.{StartsWith, notes_of, high, Reaches}

-- a lock: which one it is, its label, and how many progress words it has
pub record LockFacts (L : Type 0) : Type 0 where
  pub table : TableId
  pub label : L
  pub words : ℕ

-- a seat: the lock that it belongs to, and what it knows
pub record SeatFacts (L N : Type 0) : Type 0 where
  pub table : TableId
  pub view : View L N

-- a seat is a seat of a lock
abbrev pub IsSeatOf : {L N : Type 0} → LockFacts L → SeatFacts L N → Type 0
IsSeatOf lock seat = (seat.table ≡ lock.table) × (seat.view.label ≡ Some lock.label) × (seat.view.count ≡ lock.words)

-- A seat that knows v may find a value with this history, and these progress words.
pub record Finds {L N : Type 0} (entry : N → Entry) (history : List N) (words : List ℕ) (v : View L N) : Type 0 where
  -- the history begins with what the seat has seen
  pub begins : StartsWith history v.seen
  -- of the seat's own number it has just the notes that the seat gave
  pub own : notes_of entry v.low history ≡ v.own
  -- of the other numbers of its range it has no notes
  pub unused : (n : ℕ) → v.low < n → n ≤ v.low + v.others → notes_of entry n history ≡ []
  -- of each seat that was joined into it, it has just the notes that that seat gave
  pub joined : All (λ seat. notes_of entry seat.0 history ≡ seat.1) v.joined
  -- it goes as far as each tick that the seat found
  pub known : All (λ word. word.1 ≤ high entry word.0 history) v.known
  -- the words are how far it goes
  pub reach : Reaches entry v.count words history
