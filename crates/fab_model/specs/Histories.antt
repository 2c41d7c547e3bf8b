-- A fabric's history, and who is where by it (own).
use Rattle.std.specs.Prelude.{◌≡◌, ℕ, ◌<◌, ◌≤◌, ◌==◌, ◌&&◌, Bool, true, false, List, [], ◌∷◌, ◌++◌, filter, if◌then◌else◌, is_some, Option, Some, None, ⊤}
use Rattle.ten_core.specs.vl_design.specs.declared.capacity.Cost.{Cost}
use Rattle.ten_core.specs.vl_design.specs.Alone.{Plan}
use Rattle.ten_core.specs.ten_plan.specs.Plans.{move_at}
use Rattle.fab_lock.specs.declared.entry.Entry.{Entry}
use Rattle.fab_lock.specs.declared.entry.Kind.{Kind}
use Rattle.fab_lock.specs.declared.entry.Kind.TheVariants.{Line, Came, Ran, Saved, Left}
use Rattle.fab_model.specs.Fabrics.{nothing, plus, within}
use Rattle.fab_model.specs.declared.transit.Stay.{Stay}
use Rattle.fab_model.specs.declared.note.Note.{Note}
use Rattle.fab_model.specs.Ends.{EndsNotBefore}
use Rattle.fab_model.specs.Deeds.{Deed, cost_of, deed_in, run_in}

-- the entry of a note
abbrev pub entry_of : Note → Entry
entry_of n = n.entry

-- ---- one tenant

-- it isn't on the fabric; or it was put in line at the first tick, with this deed, is by its notes at the second, and is a resident or still
-- in line
pub data Place : Type 0 where
  Away : Place
  Inside : (since now : ℕ) → (came : Bool) → (deed : Deed) → Place

abbrev pub put : Entry → Option Deed → Place
put e None = Away
put e (Some d) = Inside e.from e.from false d

abbrev pub came : Place → Place
came Away = Away
came (Inside since now c d) = Inside since now true d

abbrev pub ran_to : ℕ → Place → Place
ran_to k Away = Away
ran_to k (Inside since now c d) = Inside since k c d

-- its place behind a note of its own
abbrev pub next : Kind → Place → Note → Place
next Line p n = put n.entry (deed_in n)
next Came p n = came p
next Ran p n = ran_to n.entry.to p
next Saved p n = p
next Left p n = Away

-- the move that stands where it is by its notes is done: it came with it done
abbrev pub is_done : (since now : ℕ) → Deed → Bool
is_done since now d = (now == since) && d.moved

-- no move stands from tick a on and below tick b, but one at a that is done
abbrev pub HasNoMove : Plan → (a b : ℕ) → (done : Bool) → Type 0
HasNoMove plan a b done = (k : ℕ) → a ≤ k → k < b → is_some (move_at k plan.errands) ≡ true → (k ≡ a) × (done ≡ true)

-- it ran from where it was to a later tick, not behind the end of its run, and past no move
pub record MayRun (since now : ℕ) (d : Deed) (e : Entry) : Type 0 where
  pub from : e.from ≡ now
  pub later : now < e.to
  pub end : EndsNotBefore (run_in d) e.to
  pub moves : HasNoMove (run_in d).plan now e.to (is_done since now d)

-- the stay that ends where a resident leaves
abbrev pub stay_now : (fabric since now : ℕ) → (came : Bool) → Deed → List Stay
stay_now g since now true d = record { fabric = g; from = since; to = now; by_move = d.moved } ∷ []
stay_now g since now false d = []

-- it left from where it was, with the origin and the snapshots with which it was put in line, and its stays with this one; the move that
-- stands there is done if it was, or if the tenant left for it; and it says whether it was a resident: one that was in line is as it came
pub record MayLeave (g since now : ℕ) (came : Bool) (d : Deed) (e : Entry) (out : Option Deed) : Type 0 where
  pub from : e.from ≡ now
  pub deed : Deed
  pub known : out ≡ Some deed
  pub origin : deed.origin ≡ d.origin
  pub free : deed.free ≡ d.free
  pub stays : deed.stays ≡ d.stays ++ stay_now g since now came d
  pub resident : deed.resident ≡ came
  pub done : is_done since now d ≡ true → deed.moved ≡ true
  pub moves : deed.moved ≡ true → is_done since now d ≡ false → is_some (move_at now (run_in d).plan.errands) ≡ true
  pub kept : came ≡ false → deed.moved ≡ d.moved

-- a note of its own may follow, on the fabric g
abbrev pub May : (g : ℕ) → Kind → Place → Note → Type 0
May g Line Away n = (is_some (deed_in n) ≡ true) × (n.entry.to ≡ n.entry.from)
May g Line (Inside since now c d) n = ⊥
May g Came Away n = ⊥
May g Came (Inside since now c d) n = (c ≡ false) × (n.entry.from ≡ now) × (n.entry.to ≡ now)
May g Ran Away n = ⊥
May g Ran (Inside since now c d) n = (c ≡ true) × MayRun since now d n.entry
May g Saved Away n = ⊥
May g Saved (Inside since now c d) n = (c ≡ true) × (n.entry.from ≡ now) × (n.entry.to ≡ now)
May g Left Away n = ⊥
May g Left (Inside since now c d) n = MayLeave g since now c d n.entry (deed_in n) × (n.entry.to ≡ now)

-- each note of one tenant may follow those before it
abbrev pub IsLawful : (g : ℕ) → Place → List Note → Type 0
IsLawful g p [] = ⊤
IsLawful g p (n ∷ ns) = May g n.entry.kind p n × IsLawful g (next n.entry.kind p n) ns

abbrev pub of_tenant : ℕ → List Note → List Note
of_tenant t notes = filter (λ n. n.entry.tenant == t) notes

-- the stay that a note ends
abbrev pub stay_at : (g : ℕ) → Kind → Place → List Stay
stay_at g Left (Inside since now c d) = stay_now g since now c d
stay_at g k p = []

-- the stays of one tenant, by its notes
abbrev pub stays_from : (g : ℕ) → Place → List Note → List Stay
stays_from g p [] = []
stays_from g p (n ∷ ns) = stay_at g n.entry.kind p ++ stays_from g (next n.entry.kind p n) ns

-- the stays of a tenant on the fabric g, in order
abbrev pub stays_of : (g t : ℕ) → List Note → List Stay
stays_of g t notes = stays_from g Away (of_tenant t notes)

-- ---- all tenants

-- a tenant on the fabric, in its place
pub record Seat : Type 0 where
  pub tenant : ℕ
  pub since : ℕ
  pub now : ℕ
  pub came : Bool
  pub deed : Deed

abbrev pub place_of : ℕ → List Seat → Place
place_of t [] = Away
place_of t (s ∷ ss) = if s.tenant == t then Inside s.since s.now s.came s.deed else place_of t ss

abbrev pub changed : ℕ → (Seat → Seat) → List Seat → List Seat
changed t f [] = []
changed t f (s ∷ ss) = (if s.tenant == t then f s else s) ∷ changed t f ss

abbrev pub without : ℕ → List Seat → List Seat
without t [] = []
without t (s ∷ ss) = if s.tenant == t then without t ss else s ∷ without t ss

abbrev pub in_line : Entry → Option Deed → List Seat
in_line e None = []
in_line e (Some d) = record { tenant = e.tenant; since = e.from; now = e.from; came = false; deed = d } ∷ []

abbrev pub seated : Seat → Seat
seated s = record s { came = true }

abbrev pub moved_to : ℕ → Seat → Seat
moved_to k s = record s { now = k }

-- residents in order, and then those in line in order, behind a note
abbrev pub after : Kind → List Seat → Note → List Seat
after Line ss n = ss ++ in_line n.entry (deed_in n)
after Came ss n = changed n.entry.tenant seated ss
after Ran ss n = changed n.entry.tenant (moved_to n.entry.to) ss
after Saved ss n = ss
after Left ss n = without n.entry.tenant ss

-- the first that is still in line
abbrev pub is_head : ℕ → List Seat → Bool
is_head t [] = false
is_head t (s ∷ ss) = if s.came then is_head t ss else s.tenant == t

-- what the residents take together
abbrev pub used : List Seat → Cost
used [] = nothing
used (s ∷ ss) = if s.came then plus (cost_of s.deed) (used ss) else used ss

abbrev pub fits_alone : Cost → Option Deed → Bool
fits_alone c None = false
fits_alone c (Some d) = within (cost_of d) c

-- there is room: whoever is put in line fits alone, and whoever comes is the head of the line and fits beside the residents
abbrev pub HasRoom : Cost → Kind → List Seat → Note → Type 0
HasRoom c Line ss n = fits_alone c (deed_in n) ≡ true
HasRoom c Came ss n = (is_head n.entry.tenant ss ≡ true) × (within (used (after Came ss n)) c ≡ true)
HasRoom c Ran ss n = ⊤
HasRoom c Saved ss n = ⊤
HasRoom c Left ss n = ⊤

-- who is where behind notes
abbrev pub replay : List Seat → List Note → List Seat
replay ss [] = ss
replay ss (n ∷ ns) = replay (after n.entry.kind ss n) ns

-- each note may follow those before it, on the fabric g of this capacity
abbrev pub IsLegalFrom : (g : ℕ) → Cost → List Seat → List Note → Type 0
IsLegalFrom g c ss [] = ⊤
IsLegalFrom g c ss (n ∷ ns) = May g n.entry.kind (place_of n.entry.tenant ss) n × HasRoom c n.entry.kind ss n × IsLegalFrom g c (after n.entry.kind ss n) ns

abbrev pub IsLegal : (g : ℕ) → Cost → List Note → Type 0
IsLegal g c notes = IsLegalFrom g c [] notes

-- ---- who wrote it

abbrev pub is_line : Kind → Bool
is_line Line = true
is_line k = false

-- whoever is put in line is so by the seat of number 0
abbrev pub AreLinesByFirst : List Note → Type 0
AreLinesByFirst [] = ⊤
AreLinesByFirst (n ∷ ns) = (is_line n.entry.kind ≡ true → n.entry.seat ≡ 0) × AreLinesByFirst ns
