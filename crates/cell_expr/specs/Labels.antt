-- The bits that a label of a case compares (IEEE 1364-2005, clause 9.5.1).
use Rattle.std.specs.Prelude.{ℕ, Option, Some, None}
use Rattle.vl_design.specs.declared.design.Form.{Form}
use Rattle.vl_design.specs.Syntax.{Exp, Label}
use Rattle.vl_design.specs.Exec.{compared}

-- of a number with bits of care these; else all
abbrev pub care_in : Form → Exp → Option ℕ
care_in c (Label v care w signed) = Some (compared c w care)
care_in c e = None
