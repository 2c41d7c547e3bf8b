-- What a byte of a format shows alone.
use Rattle.std.proofs.Common.{◌≡◌, refl, arith, ℕ, true, false, List, [], ◌∷◌}
use Rattle.std.specs.Prelude.{◌==◌}
use Rattle.std.proofs.lemmas.Bool.Decides.{nat_tests}
use Rattle.vl_base.specs.Display.{format_of, lower_case}
use Rattle.vl_design.specs.Syntax.{Literal}
use Rattle.vl_design.specs.Formats.{Arg, InText, Percent, format_pieces, with_item, operand}
use Rattle.vl_base.proofs.Numbers.{equal_true as equal, unequal_false as not-equal}

module _ (path : List ℕ) (args : List Arg) (c : ℕ) where
  pub percent-is : c ≡ 37 → format_pieces path InText (c ∷ []) args ≡ []
  percent-is h = let a = equal c 37 h in rw a refl

  pub plain-is : ¬ (c ≡ 37) → format_pieces path InText (c ∷ []) args ≡ Literal (c ∷ []) ∷ []
  plain-is h = let a = not-equal c 37 h in rw a refl

  pub zero-is : c ≡ 48 → format_pieces path Percent (c ∷ []) args ≡ []
  zero-is h = let a = equal c 48 h in rw a refl

  pub twice-is : ¬ (c ≡ 48) → c ≡ 37 → format_pieces path Percent (c ∷ []) args ≡ Literal (37 ∷ []) ∷ []
  twice-is h i = let a = not-equal c 48 h in let b = equal c 37 i in rw (a, b) refl

  pub path-is : ¬ (c ≡ 48) → ¬ (c ≡ 37) → true ≡ (lower_case c == 109) → format_pieces path Percent (c ∷ []) args ≡ Literal path ∷ []
  path-is h i j = let a = not-equal c 48 h in let b = not-equal c 37 i in rw (a, b, ← j) refl

  pub letter-is : ¬ (c ≡ 48) → ¬ (c ≡ 37) → false ≡ (lower_case c == 109) → format_pieces path Percent (c ∷ []) args ≡ with_item (format_of c false) (operand args) []
  letter-is h i j = let a = not-equal c 48 h in let b = not-equal c 37 i in rw (a, b, ← j) refl
