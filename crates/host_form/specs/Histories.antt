-- What the histories of fabrics tell of a tenant (own). Fabrics and tenants have numbers, from 0, in the order of the script.
use Rattle.std.specs.Prelude.{◌≡◌, ℕ, ◌<◌, Bool, true, false, ◌&&◌, ◌||◌, ◌==◌, nat_lt, if◌then◌else◌, List, [], ◌∷◌, ◌++◌, length, filter, max, slice_index_or, Option, Some, None, ⊤}
use Rattle.std.specs.List.{AllByRecursion}
use Rattle.fab_lock.specs.declared.entry.Entry.{Entry}
use Rattle.fab_lock.specs.declared.entry.Kind.{Kind}
use Rattle.fab_lock.specs.declared.entry.Kind.TheVariants as is
use Rattle.fab_lock.specs.Histories.{high}
use Rattle.host_text.specs.vl_design.specs.Alone.{Origin}

-- a note: its entry and, where a tenant is put in line by it, what that starts from
pub record Note : Type 0 where
  pub entry : Entry
  pub origin : Option Origin

-- the history of each fabric, in the order of the script
abbrev pub Histories : Type 0
Histories = List (List Note)

-- the history of the fabric of a number
abbrev pub history_of : Histories → ℕ → List Note
history_of histories g = slice_index_or histories g []

-- ---- notes of a tenant

abbrev pub is_line : Kind → Bool
is_line is.Line = true
is_line kind = false

abbrev pub is_came : Kind → Bool
is_came is.Came = true
is_came kind = false

abbrev pub is_left : Kind → Bool
is_left is.Left = true
is_left kind = false

abbrev pub notes_of : ℕ → List Note → List Note
notes_of tenant notes = filter (λ n. n.entry.tenant == tenant) notes

-- the notes by which a tenant is put in line
abbrev pub lines_of : ℕ → List Note → List Note
lines_of tenant notes = filter (λ n. is_line n.entry.kind) (notes_of tenant notes)

-- how often a tenant is put in line at a tick, and how often it leaves at one
abbrev pub lines_at : ℕ → ℕ → List Note → ℕ
lines_at tenant tick notes = length (filter (λ n. n.entry.from == tick) (lines_of tenant notes))

abbrev pub lefts_at : ℕ → ℕ → List Note → ℕ
lefts_at tenant tick notes = length (filter (λ n. is_left n.entry.kind && n.entry.from == tick) (notes_of tenant notes))

-- a tenant leaves some fabric at a tick
abbrev pub Leaves : Histories → ℕ → ℕ → Type 0
Leaves histories tenant tick = (g : ℕ) × (0 < lefts_at tenant tick (history_of histories g))

-- a tenant is put in line of some fabric
abbrev pub IsPlaced : Histories → ℕ → Type 0
IsPlaced histories tenant = (g : ℕ) × (0 < length (lines_of tenant (history_of histories g)))

-- the greatest tick to which notes of a tenant go, and 0 without any
abbrev pub reached : Histories → ℕ → ℕ
reached [] tenant = 0
reached (notes ∷ histories) tenant = max (high (λ n. n.entry) tenant notes) (reached histories tenant)

-- ---- stays

-- a stay on the fabric of a number, from the tick at which a tenant comes to that at which it leaves
pub record Visit : Type 0 where
  pub fabric : ℕ
  pub from : ℕ
  pub to : ℕ

-- the tick of the first note by which it leaves
abbrev pub next_left : List Note → Option ℕ
next_left [] = None
next_left (n ∷ ns) = if is_left n.entry.kind then Some n.entry.from else next_left ns

abbrev pub visit_to : ℕ → ℕ → Option ℕ → List Visit
visit_to g from None = []
visit_to g from (Some to) = record { fabric = g; from = from; to = to } ∷ []

-- each note by which it comes, with the next by which it leaves
abbrev pub visits_in : ℕ → List Note → List Visit
visits_in g [] = []
visits_in g (n ∷ ns) = (if is_came n.entry.kind then visit_to g n.entry.from (next_left ns) else []) ++ visits_in g ns

-- the stays of a tenant on the fabric of a number, in the order of its history
abbrev pub visits_on : Histories → ℕ → ℕ → List Visit
visits_on histories tenant g = visits_in g (notes_of tenant (history_of histories g))

-- the least first tick comes first, then the least last tick, then the least fabric
abbrev pub comes_before : Visit → Visit → Bool
comes_before a b =
    nat_lt a.from b.from || ((a.from == b.from) && (nat_lt a.to b.to || ((a.to == b.to) && nat_lt a.fabric b.fabric)))

-- none comes before one that stands before it
abbrev pub AreOrdered : List Visit → Type 0
AreOrdered [] = ⊤
AreOrdered (v ∷ vs) = AllByRecursion (λ w. comes_before w v ≡ false) vs × AreOrdered vs

-- the first begins at a tick, each next one where the one before it ends, and the last ends at a tick
abbrev pub Chain : ℕ → List Visit → ℕ → Type 0
Chain from [] to = from ≡ to
Chain from (v ∷ vs) to = (v.from ≡ from) × Chain v.to vs to

abbrev pub is_same : Visit → Visit → Bool
is_same v w = (v.fabric == w.fabric) && (v.from == w.from) && (v.to == w.to)

-- how often a stay is in a list
abbrev pub times : Visit → List Visit → ℕ
times v visits = length (filter (is_same v) visits)

-- the stays of a tenant from a tick to another: those on each fabric, each as often as there, all in order, and they chain
pub record AreVisits (histories : Histories) (tenant from to : ℕ) (visits : List Visit) : Type 0 where
  pub each : (v : Visit) → times v visits ≡ times v (visits_on histories tenant v.fabric)
  pub ordered : AreOrdered visits
  pub chain : Chain from visits to
