use Rattle.cell_form.proofs.Cycling.{slot-held, slot-before, slot-behind}
use Rattle.cell_form.proofs.laws.slots_are_held.Goals as goal

pub returns-clause-held : goal.returns-clause-held
returns-clause-held c = λ l b k h. slot-held l b h k

pub returns-clause-before : goal.returns-clause-before
returns-clause-before c = λ l b k h. slot-before l b h k

pub returns-clause-behind : goal.returns-clause-behind
returns-clause-behind c = λ l b k h. slot-behind l b h k
