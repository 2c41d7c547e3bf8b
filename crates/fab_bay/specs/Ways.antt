-- What a call does with a core and its history (own).
use Rattle.std.specs.Prelude.{◌≡◌, ℕ, suc, ◌<◌, ◌≤◌, ◌⊎◌, Bool, true, false, List, [], ◌∷◌, ◌++◌, map, length, Some, None, All, ⊤}
use Rattle.fab_core.specs.fab_lock.specs.declared.entry.Entry.{Entry}
use Rattle.fab_core.specs.fab_lock.specs.declared.entry.Kind.TheVariants as kind
use Rattle.fab_core.specs.ten_shell.specs.declared.shell.Why.{Why}
use Rattle.fab_core.specs.ten_shell.specs.declared.shell.Why.TheVariants.{Move, Ended}
use Rattle.fab_core.specs.fab_model.specs.Points.{departed, due, Point}
use Rattle.fab_core.specs.fab_model.specs.Fabrics.{first_leaving, head_fits, may_cycle, Fabric}
use Rattle.fab_core.specs.fab_model.specs.Worlds.{happens, run, Event, World, Arrive, Cycle, Serve, Hold, Rebuild, Take, Leave}
use Rattle.fab_core.specs.Standing.{IsPointOf}
use Rattle.fab_core.specs.fab_model.specs.declared.note.Note.{Note}
use Rattle.fab_core.specs.fab_model.specs.declared.transit.Stay.{Stay}
use Rattle.fab_core.specs.fab_model.specs.declared.transit.Transit.{Transit}
use Rattle.fab_core.specs.fab_model.specs.Stays.{is_idle}
use Rattle.fab_core.specs.ten_parcel.specs.Parcels.{is_moved, number_of, ticks_of}
use Rattle.fab_core.specs.fab_model.specs.Deeds.{deed_in, deed_of}
use Rattle.fab_core.specs.fab_model.specs.Histories.{replay}
use Rattle.fab_core.specs.fab_model.specs.Tokens.{outs, puts, token_of, AllBear, Token}
use Rattle.fab_bay.specs.declared.leaving.Leaving.{Leaving}
use Rattle.fab_bay.specs.declared.leaving.Receipt.{Receipt}
use Rattle.fab_bay.specs.declared.leaving.Turn.{Turn}
use Rattle.fab_bay.specs.declared.noted.NotedCore.{NotedCore}
use Rattle.fab_bay.specs.Marks.{all_called_for, marks, AreClosed, AreWhole, Mark}
use Rattle.fab_bay.specs.Nearness.{AreNear}
use Rattle.fab_bay.specs.Standing.{IsNoted}

-- ---- tenants that came out

abbrev pub transits : List Leaving → List Transit
transits ls = map (λ l. l.transit) ls

-- they are at these points
abbrev pub AreOut : List Transit → List Point → Type 0
AreOut [] [] = ⊤
AreOut [] (p ∷ ps) = ⊥
AreOut (t ∷ ts) [] = ⊥
AreOut (t ∷ ts) (p ∷ ps) = IsPointOf t.parcel p × AreOut ts ps

abbrev pub tokens : List Transit → List Token
tokens ts = map token_of ts

abbrev pub is_move : Why → Bool
is_move (Move fabric) = true
is_move (Ended end) = false

-- it was a resident, and the stay with which it leaves is its last one; where it leaves for a move, it hadn't come by the one that stands there; and the move that stands
-- where it rests is done just where it leaves for that
pub record IsLast (l : Leaving) : Type 0 where
  pub before : List Stay
  pub stay : Stay
  pub stays : l.transit.stays.items ≡ before ++ stay ∷ []
  pub resident : l.transit.resident ≡ true
  pub busy : is_move l.why ≡ true → is_idle stay ≡ false
  pub flag : is_moved l.transit.parcel ≡ is_move l.why

-- why a tenant that came out was due to leave: it stands where one that was due so, and wasn't stopped, comes to stand
abbrev pub LeftFor : Leaving → Type 0
LeftFor l = (p : Point) × IsPointOf l.transit.parcel (departed l.why p) × (due p ≡ Some l.why) × (p.stopped ≡ false) × IsLast l

-- ---- events

-- how many cycles there are among events
abbrev pub cycles_in : List Event → ℕ
cycles_in [] = 0
cycles_in (Cycle ∷ es) = suc (cycles_in es)
cycles_in (Arrive t ∷ es) = cycles_in es
cycles_in (Serve t ∷ es) = cycles_in es
cycles_in (Hold ∷ es) = cycles_in es
cycles_in (Rebuild ∷ es) = cycles_in es
cycles_in (Take t ∷ es) = cycles_in es
cycles_in (Leave t ∷ es) = cycles_in es

-- a cycle comes only where some resident may do one; and where the fabric doesn't hold, no resident is due to leave and the head of the line doesn't fit
abbrev pub MayBe : Event → Fabric → Type 0
MayBe Cycle f = (may_cycle f ≡ true) × (f.holding ≡ false → (first_leaving f.residents ≡ None) × (head_fits f ≡ false))
MayBe e f = ⊤

abbrev pub AreInOrder : List Event → World → Type 0
AreInOrder [] w = ⊤
AreInOrder (e ∷ es) w = MayBe e w.fabric × AreInOrder es (happens w e)

-- ---- what is written

-- each is of a tenant of a number below this one
abbrev pub AreBelow : ℕ → List Note → Type 0
AreBelow n [] = ⊤
AreBelow n (m ∷ ms) = (m.entry.tenant < n) × AreBelow n ms

-- notes that bear a seat's number are added, none of a tenant that is put in line; they say that these came out, and tell these marks
pub record IsWritten (number : ℕ) (x y : NotedCore) (out : List Token) (told_marks : List Mark) : Type 0 where
  pub label : y.label ≡ x.label
  pub added : List Note
  pub notes : y.notes.items ≡ x.notes.items ++ added
  pub told : y.told.items ≡ x.told.items ++ map (λ n. n.entry) added
  pub bear : AllBear number added
  pub few : AreBelow x.label.tenants added
  pub puts : puts added ≡ []
  pub outs : outs added ≡ out
  pub marks_are : marks added ≡ told_marks

-- ---- ways

-- from x to y by the seat of this number, in so many cycles: notes are added that bear it, none of a tenant that is put in line, and they say who came out
-- behind those before; what they tell is behind what was told before; and events happen to every fabric for which x stands, and lead to one for which y stands;
-- but for runs, the notes are just those that the events call for
-- where it is closed, behind each run is a note of another kind
pub record Path (closed : Bool) (number cycles : ℕ) (x y : NotedCore) (said said' : List Entry) (out out' : List Transit) : Type 0 where
  pub label : y.label ≡ x.label
  pub added : List Note
  pub notes : y.notes.items ≡ x.notes.items ++ added
  pub told : said' ≡ said ++ map (λ n. n.entry) added
  pub bear : AllBear number added
  pub few : AreBelow x.label.tenants added
  pub puts : puts added ≡ []
  pub outs : tokens out' ≡ tokens out ++ outs added
  pub events : List Event
  pub count : cycles_in events ≡ cycles
  pub leads : (f : Fabric) (ps : List Point) → IsNoted x f → AreOut out ps →
      IsNoted y (run events (record { fabric = f; transit = ps })).fabric × AreOut out' (run events (record { fabric = f; transit = ps })).transit
  pub ordered : (f : Fabric) (ps : List Point) → IsNoted x f → AreOut out ps → AreInOrder events (record { fabric = f; transit = ps })
  pub marks_are : (f : Fabric) (ps : List Point) → IsNoted x f → AreOut out ps → marks added ≡ all_called_for events (record { fabric = f; transit = ps })
  pub runs : closed ≡ true → AreClosed added

-- a whole call: at its end, the residents' runs are noted
abbrev pub Way : (number cycles : ℕ) (x y : NotedCore) (said said' : List Entry) (out out' : List Transit) → Type 0
Way number cycles x y said said' out out' = Path false number cycles x y said said' out out'

-- runs are noted
abbrev pub Settles : (number : ℕ) (x y : NotedCore) (out : List Transit) → Type 0
Settles number x y out = Path false number 0 x y x.told.items y.told.items out out

-- in a call: what is told is kept beside the history
abbrev pub Goes : (number cycles : ℕ) (x y : NotedCore) (out out' : List Transit) → Type 0
Goes number cycles x y out out' = Path true number cycles x y x.told.items y.told.items out out'

-- nobody is there by the history
abbrev pub IsEmpty : List Note → Type 0
IsEmpty notes = replay [] notes ≡ []

-- a turn of at most so many cycles: it did just so many, or nobody is left, unless memory ended it; and whoever came out was due to leave for the reason that is told
pub record Turned (number most : ℕ) (x y : NotedCore) (t : Turn) : Type 0 where
  pub cycles : ℕ
  pub goes : Way number cycles x y [] t.entries.items [] (transits t.leaving.items)
  pub entries : t.entries.items ≡ map (λ n. n.entry) goes.added
  pub few : cycles ≤ most
  pub all : t.short ≡ false → (cycles ≡ most) ⊎ IsEmpty y.notes.items
  pub whys : All LeftFor t.leaving.items
  pub whole : AreWhole goes.added

-- a tenant was taken out, if it came out; nobody's tick rose by more than one over the whole call
pub record Took (number : ℕ) (x y : NotedCore) (entries : List Entry) (out : List Transit) : Type 0 where
  pub cycles : ℕ
  pub goes : Way number cycles x y [] entries [] out
  pub told : entries ≡ map (λ n. n.entry) goes.added
  pub near : AreNear x.notes.items y.notes.items out
  pub whole : AreWhole goes.added

-- a tenant was put in line by the seat of this number: one note is added, and the receipt says so
pub record IsPut (number : ℕ) (x y : NotedCore) (t : Transit) (r : Receipt) : Type 0 where
  pub note : Note
  pub notes : y.notes.items ≡ x.notes.items ++ note ∷ []
  pub entry : note.entry ≡ r.entry
  pub deed : deed_in note ≡ Some (deed_of t)
  pub tells : r.entry ≡ record { seat = number; kind = kind.Line; tenant = number_of t.parcel; from = ticks_of t.parcel; to = ticks_of t.parcel }
  pub position : r.position ≡ length x.notes.items
