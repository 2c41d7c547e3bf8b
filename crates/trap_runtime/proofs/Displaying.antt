-- The parts of a display one after another.
use Rattle.std.proofs.Common.{◌≡◌, ℕ, ◌+◌, ◌<◌, Bool, true, false, List, [], ◌∷◌, ◌++◌, length, drop, get_or, map, refl, sym, ap, ◌∙◌, arith, subst}
use Rattle.std.proofs.lemmas.List.{append_assoc, drop_more, drop_all}
use Rattle.std.proofs.lemmas.Bool.{ltb-true, ltb-false}
use Rattle.std.specs.Prelude.{nat_lt, slice_index}
use Rattle.cell_form.specs.vl_base.specs.Display.{letter_text}
use Rattle.cell_form.specs.Data.{BankData}
use Rattle.cell_form.specs.declared.table.FormatPart.{FormatPart}
use Rattle.cell_form.specs.declared.table.FormatPart.TheVariants as part
use Rattle.trap_runtime.specs.Served.{held, parts_text}
use Rattle.trap_runtime.specs.Traps.{HaveValues, Holds}

-- where the rest of the parts is added, all are
pub record Printing (b : BankData) (parts : List FormatPart) (slots before printed : List ℕ) (whole : List FormatPart) (all : List ℕ) : Type 0 where
  pub values : HaveValues b parts slots
  pub text : printed ++ parts_text parts (held b slots) ≡ before ++ parts_text whole (held b all)

-- the next slot of an item
pub record Next (b : BankData) (w : ℕ) (slots : List ℕ) (n : ℕ) : Type 0 where
  pub below : n < length slots
  pub holds : Holds b w (get_or slots n 0)
  pub rest : drop n slots ≡ get_or slots n 0 ∷ drop (n + 1) slots
