-- What is still to come to residents (own).
use Rattle.std.specs.Prelude.{ℕ, ◌+◌, ◌-◌, ◌*◌, not, ◌&&◌, if◌then◌else◌, List, [], ◌∷◌, length, slice_get}
use Rattle.ten_core.specs.sub_nodes.specs.Code.{table_of}
use Rattle.ten_core.specs.sub_nodes.specs.Cycles.{rises}
use Rattle.ten_core.specs.sub_runs.specs.Left.{left, most_left}
use Rattle.fab_core.specs.ten_shell.specs.declared.shell.Shell.{Shell}
use Rattle.fab_core.specs.ten_shell.specs.Shells.{flat_in, left_in, run_of}
use Rattle.fab_core.specs.declared.resident.Resident.{Resident}
use Rattle.fab_bay.specs.declared.noted.NotedCore.{NotedCore}

-- so many acts are still to come to it at most
abbrev pub acts_of : Shell → ℕ
acts_of s = ((run_of s).plan.budget - s.engine.ticks) * most_left (table_of (flat_in s)) + left (table_of (flat_in s)) s.engine.next

-- so many snapshots it has still to make where it is
abbrev pub saves_of : Shell → ℕ
saves_of s = if not s.engine.finished && rises (slice_get (table_of (flat_in s)).nodes s.engine.next) then length (left_in s) else 0

abbrev pub acts_in : List Resident → ℕ
acts_in [] = 0
acts_in (r ∷ rs) = acts_of r.tenant.shell + acts_in rs

abbrev pub saves_in : List Resident → ℕ
saves_in [] = 0
saves_in (r ∷ rs) = saves_of r.tenant.shell + saves_in rs

-- to all residents together
abbrev pub acts_to_come : NotedCore → ℕ
acts_to_come x = acts_in x.core.residents.items

abbrev pub saves_to_come : NotedCore → ℕ
saves_to_come x = saves_in x.core.residents.items

-- ---- who may still come and go

-- so often may tenants still join or leave at most: a resident once, one in line twice
abbrev pub moves_to_come : NotedCore → ℕ
moves_to_come x = length x.berths.items + 2 * length x.waiting.items

-- before a cycle the fabric comes to rest so often at most: where it doesn't hold, it does so only for somebody who joins or leaves
abbrev pub rests_to_come : NotedCore → ℕ
rests_to_come x = 2 * moves_to_come x + (if x.core.holding then 1 else 0)
