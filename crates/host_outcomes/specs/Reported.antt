-- What the histories of a run tell a report (own).
use Rattle.std.specs.Prelude.{ℕ, ◌+◌, Bool, true, false, not, List, [], ◌∷◌, filter, length, map, slice_index_or}
use Rattle.std.specs.List.{AllByRecursion}
use Rattle.fab_orders.specs.fab_bay.specs.Ways.{AreBelow}
use Rattle.fab_orders.specs.fab_bay.specs.declared.noted.NotedCore.{NotedCore}
use Rattle.host_judge.specs.host_form.specs.Histories as report
use Rattle.host_judge.specs.host_form.specs.Histories.{Histories}
use Rattle.host_report.specs.Told.{told}

-- the history that each bay tells, in the order of the fabrics
abbrev pub histories_of : List NotedCore → Histories
histories_of bays = map (λ b. told b.notes.items) bays

-- ---- tenants have their numbers in the script

-- the numbers in the script of the tenants that aren't refused, which are from n on
abbrev pub numbers_from : ℕ → List Bool → List ℕ
numbers_from n [] = []
numbers_from n (true ∷ refused) = numbers_from (n + 1) refused
numbers_from n (false ∷ refused) = n ∷ numbers_from (n + 1) refused

-- the number in the script of the tenant that is number k of those that aren't refused; one that no tenant has where there are fewer
abbrev pub number_in : List Bool → ℕ → ℕ
number_in refused k = slice_index_or (numbers_from 0 refused) k (length refused)

-- how many tenants aren't refused, which are those that run
abbrev pub running : List Bool → ℕ
running refused = length (filter (λ r. not r) refused)

-- these bays' histories tell of those tenants alone that run
abbrev pub AreOfThoseThatRun : List Bool → List NotedCore → Type 0
AreOfThoseThatRun refused bays = AllByRecursion (λ b. AreBelow (running refused) b.notes.items) bays

-- a note in which the tenant has its number in the script
abbrev pub renumbered : List Bool → report.Note → report.Note
renumbered refused n = record { entry = record (n.entry) { tenant = number_in refused n.entry.tenant }; origin = n.origin }

-- the history that each bay tells, where tenants have their numbers in the script
abbrev pub histories_for : List Bool → List NotedCore → Histories
histories_for refused bays = map (λ b. map (renumbered refused) (told b.notes.items)) bays
