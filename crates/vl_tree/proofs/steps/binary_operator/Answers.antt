use Rattle.std.proofs.Common.{◌≡◌, ℕ, List, sym, ◌∙◌, ap}
use Rattle.vl_tree.specs.declared.token.TokenKind.{TokenKind}
use Rattle.vl_tree.specs.declared.token.TokenKind.TheVariants as k
use Rattle.vl_tree.specs.MarksOfGrammar.{found_in, mark_in, binary_operators, binary_operator}
use Rattle.vl_tree.proofs.steps.binary_operator.Goals as goal

at_mark : {X : Type 0} (rows : List (List ℕ × X)) (m : List ℕ) (kind : TokenKind) → kind ≡ k.Mark m → found_in rows m ≡ mark_in rows kind
at_mark rows m kind e = ap (mark_in rows) (sym e)

pub returns-in-Mark : goal.returns-in-Mark
unfolding binary_operator
returns-in-Mark c = c.found_in.ensures ∙ (ap (found_in binary_operators) c.as_slice.ensures ∙ at_mark binary_operators _ _ c.in-Mark.is)
