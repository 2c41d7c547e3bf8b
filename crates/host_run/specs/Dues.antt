-- What is due, as the code has it (own).
use Rattle.std.specs.Prelude.{◌≡◌, ℕ, List, [], length, Option}
use Rattle.std.specs.List.{AllByRecursion}
use Rattle.host_form.specs.fab_io.specs.Outside.{Files, Miss}
use Rattle.host_text.specs.Laws.{IsSpeltTenant}
use Rattle.host_files.specs.Reading.{Counts}
use Rattle.host_files.specs.Kept.{CanBeKept}
use Rattle.host_files.specs.Writes.{writes_of, Write}
use Rattle.host_run.specs.declared.due.Due.{Due}
use Rattle.host_run.specs.Due.{IsDue}

-- the files that are to be written
abbrev pub writes_due : Due → List Write
writes_due d = writes_of d.tenants d.kept.items

abbrev pub IsDueBy : Option Files → Counts → Counts → List Miss → List Miss → List (List ℕ) → Due → Type 0
IsDueBy told old new before after words d = IsDue told old new before after words d.status d.text.items d.bays.items (writes_due d)

-- a text, and nothing was run
pub record IsOnly (status : ℕ) (text : List ℕ) (d : Due) : Type 0 where
  pub status_is : d.status ≡ status
  pub text_is : d.text.items ≡ text
  pub tenants : d.tenants ≡ []
  pub kept : d.kept.items ≡ []
  pub bays : d.bays.items ≡ []

-- the status is 0, and nothing is to be written
pub record KeepsNothing (d : Due) : Type 0 where
  pub status_is : d.status ≡ 0
  pub tenants : d.tenants ≡ []
  pub kept : d.kept.items ≡ []

-- what each tenant keeps can be written under its name
pub record CanBeWritten (d : Due) : Type 0 where
  pub count : length d.kept.items ≡ length d.tenants
  pub names : AllByRecursion IsSpeltTenant d.tenants
  pub kept : AllByRecursion CanBeKept d.kept.items
