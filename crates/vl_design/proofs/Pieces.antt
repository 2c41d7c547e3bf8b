-- How many arguments the pieces of a format take.
use Rattle.std.proofs.Common.{◌≡◌, refl, arith, ℕ, ◌+◌, List, [], ◌∷◌}
use Rattle.std.specs.Prelude.{Option, Some, None, is_some}
use Rattle.std.proofs.lemmas.Grind.{common_steps}
use Rattle.vl_base.specs.Display.{Format}
use Rattle.vl_design.specs.Syntax.{Exp, Piece, Literal, Shown}
use Rattle.vl_design.specs.Formats.{with_text, behind_item, with_item, taken}
use Rattle.vl_design.specs.FormatReading.{one_if}

pub taken-text : (t : List ℕ) (ps : List Piece) → taken (with_text t ps) ≡ taken ps
taken-text t [] = refl
taken-text t (Literal u ∷ ps) = refl
taken-text t (Shown f e ∷ ps) = refl

pub taken-item : (o : Option Format) (e : Exp) (ps : List Piece) → taken (with_item o e ps) ≡ one_if (is_some o) + taken ps
taken-item None e ps = omega arith
taken-item (Some f) e ps = refl

pub behind-none : (o : Option Format) → behind_item o [] ≡ []
behind-none None = refl
behind-none (Some f) = refl

pub ruleset pieces = (common_steps, taken-text, taken-item, behind-none)
