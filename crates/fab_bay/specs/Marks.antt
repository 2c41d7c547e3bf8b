-- What events call for in the history, runs left out (own).
use Rattle.std.specs.Prelude.{◌≡◌, ℕ, ◌==◌, not, ◌&&◌, Bool, true, false, ⊤, List, [], ◌∷◌, ◌++◌, map, take, if◌then◌else◌, is_some, Option, None, Some}
use Rattle.ten_core.specs.sub_nodes.specs.Code.{table_of}
use Rattle.ten_core.specs.sub_nodes.specs.Stands.{at_trap}
use Rattle.fab_core.specs.fab_lock.specs.declared.entry.Entry.{Entry}
use Rattle.fab_core.specs.fab_lock.specs.declared.entry.Kind.{Kind}
use Rattle.fab_core.specs.fab_lock.specs.declared.entry.Kind.TheVariants as kind
use Rattle.fab_core.specs.fab_model.specs.Points.{cost_of, due, ended, run_in, tick_of, waits, Point}
use Rattle.fab_core.specs.fab_model.specs.Fabrics.{first_of, found, has, joining, within, Fabric}
use Rattle.fab_core.specs.fab_model.specs.Worlds.{happens, is_at_rest, Event, World, Arrive, Cycle, Serve, Hold, Rebuild, Take, Leave}
use Rattle.fab_core.specs.fab_model.specs.declared.note.Note.{Note}

-- ---- what notes tell

-- what a note of one tick tells: of which kind it is, of which tenant, and at which tick
pub record Mark : Type 0 where
  pub kind : Kind
  pub tenant : ℕ
  pub tick : ℕ

abbrev pub mark_at : Kind → Entry → List Mark
mark_at kind.Ran e = []
mark_at k e = record { kind = k; tenant = e.tenant; tick = e.from } ∷ []

-- what notes tell in order, but of runs
abbrev pub marks : List Note → List Mark
marks [] = []
marks (n ∷ ns) = mark_at n.entry.kind n.entry ++ marks ns

-- ---- runs

abbrev pub is_run : Kind → Bool
is_run kind.Ran = true
is_run k = false

-- the next note of a tenant tells of a run
abbrev pub runs_next : ℕ → List Note → Bool
runs_next t [] = false
runs_next t (n ∷ ns) = if n.entry.tenant == t then is_run n.entry.kind else runs_next t ns

-- no two runs of a tenant follow one another without another note of that tenant between
abbrev pub AreWhole : List Note → Type 0
AreWhole [] = ⊤
AreWhole (n ∷ ns) = (is_run n.entry.kind ≡ true → runs_next n.entry.tenant ns ≡ false) × AreWhole ns

-- there is a next note of a tenant, and it tells of no run
abbrev pub stops_next : ℕ → List Note → Bool
stops_next t [] = false
stops_next t (n ∷ ns) = if n.entry.tenant == t then not (is_run n.entry.kind) else stops_next t ns

-- behind each run is a note of another kind of that tenant, before the next run
abbrev pub AreClosed : List Note → Type 0
AreClosed [] = ⊤
AreClosed (n ∷ ns) = (is_run n.entry.kind ≡ true → stops_next n.entry.tenant ns ≡ true) × AreClosed ns

-- a run of this tenant, or none
abbrev pub IsRunOf : ℕ → List Note → Type 0
IsRunOf t [] = ⊤
IsRunOf t (n ∷ []) = (is_run n.entry.kind ≡ true) × (n.entry.tenant ≡ t)
IsRunOf t (n ∷ m ∷ ns) = ⊥

-- ---- what events call for

-- that this happened to a tenant where it stands
abbrev pub mark_of : Kind → Point → Mark
mark_of k p = record { kind = k; tenant = p.number; tick = tick_of p }

-- it waits for a snapshot, and not at a call
abbrev pub awaits_save : Point → Bool
awaits_save p = waits p && not (at_trap (table_of (run_in p).flat) p.stage)

abbrev pub line_for : Fabric → ℕ → Option Point → List Mark
line_for f t None = []
line_for f t (Some p) = if not (is_some (ended p)) && (within (cost_of p) f.capacity && not (has t f)) then mark_of kind.Line p ∷ [] else []

abbrev pub save_for : Option Point → List Mark
save_for None = []
save_for (Some p) = if awaits_save p then mark_of kind.Saved p ∷ [] else []

abbrev pub take_for : Fabric → Option Point → List Mark
take_for f None = []
take_for f (Some p) = if is_at_rest f then mark_of kind.Left p ∷ [] else []

abbrev pub leave_for : Fabric → Option Point → List Mark
leave_for f None = []
leave_for f (Some p) = if is_some (due p) then take_for f (Some p) else []

-- the note of whoever is put in line, is saved, joins or comes out; nothing for a cycle, a call and a hold, nor where an event may not come
abbrev pub called_for : Event → World → List Mark
called_for (Arrive t) w = line_for w.fabric t (first_of t w.transit)
called_for Cycle w = []
called_for (Serve t) w = save_for (first_of t w.fabric.residents)
called_for Hold w = []
called_for Rebuild w = if is_at_rest w.fabric then map (mark_of kind.Came) (take (joining w.fabric) w.fabric.line) else []
called_for (Take t) w = take_for w.fabric (found t w.fabric)
called_for (Leave t) w = leave_for w.fabric (first_of t w.fabric.residents)

abbrev pub all_called_for : List Event → World → List Mark
all_called_for [] w = []
all_called_for (e ∷ es) w = called_for e w ++ all_called_for es (happens w e)
