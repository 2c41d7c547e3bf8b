-- What is said of a source that is checked (own).
use Rattle.std.specs.Prelude.{◌≡◌, ℕ, List, ◌++◌, codes}
use Rattle.vl_front.specs.vl_base.specs.declared.place.Place.{Place}
use Rattle.vl_front.specs.vl_design.specs.Cost.{Cost, cost}
use Rattle.host_judge.specs.host_text.specs.Report.{number}
use Rattle.host_judge.specs.host_form.specs.Origins.{Source, Accepted, Faulty}
use Rattle.host_judge.specs.Judged.{judged}
use Rattle.host_check.specs.declared.check.Checked.{Checked}

-- `cost` with the three numbers of a cost: register bits, cells, memory bits
abbrev pub cost_line : Cost → List ℕ
cost_line c = codes "cost" ++ number c.regs ++ number c.cells ++ number c.mem ++ codes "\n"

-- `refused LINE COLUMN KIND`
abbrev pub refused_line : Place → List ℕ → List ℕ
refused_line place kind = codes "refused" ++ number place.line ++ number place.column ++ codes " " ++ kind ++ codes "\n"

-- what is said of a source that is judged so, and with which status
abbrev pub check_text : Source → List ℕ
check_text (Accepted d) = cost_line (cost d)
check_text (Faulty place kind) = refused_line place kind

abbrev pub check_status : Source → ℕ
check_status (Accepted d) = 0
check_status (Faulty place kind) = 3

-- this is said of the bytes of a source, with this status, as they are judged
pub record IsCheck (bytes : List ℕ) (status : ℕ) (text : List ℕ) : Type 0 where
  pub source : Source
  pub is : judged bytes source
  pub text_is : text ≡ check_text source
  pub status_is : status ≡ check_status source

-- a check says it
abbrev pub HasChecked : List ℕ → Checked → Type 0
HasChecked bytes c = IsCheck bytes c.status c.text.items
