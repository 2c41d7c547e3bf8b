-- What a fabric's history tells a report (own).
use Rattle.std.specs.Prelude.{ℕ, ◌==◌, Bool, false, List, map, option_map, Option, Some, None}
use Rattle.fab_model.specs.fab_lock.specs.declared.entry.Kind.{Kind}
use Rattle.fab_model.specs.fab_lock.specs.declared.entry.Kind.TheVariants.{Line}
use Rattle.ten_files.specs.vl_design.specs.Alone.{Origin}
use Rattle.fab_model.specs.declared.note.Note.{Note}
use Rattle.fab_model.specs.declared.transit.Stay.{Stay}
use Rattle.fab_model.specs.Deeds.{Deed, deed_in, run_in}
use Rattle.host_files.specs.host_form.specs.Histories as report

-- the run of a tenant that is put in line
abbrev pub origin_told : Kind → Option Deed → Option Origin
origin_told Line deed = option_map run_in deed
origin_told kind deed = None

-- a note's entry and, where a tenant is put in line by it, the run that it names
abbrev pub told_note : Note → report.Note
told_note n = record { entry = n.entry; origin = origin_told n.entry.kind (deed_in n) }

abbrev pub told : List Note → List report.Note
told notes = map told_note notes

-- a stay, but for how the tenant came
abbrev pub visit_of : Stay → report.Visit
visit_of s = record { fabric = s.fabric; from = s.from; to = s.to }

-- a move goes to fabric g
abbrev pub goes_to : ℕ → Option ℕ → Bool
goes_to g None = false
goes_to g (Some h) = h == g
