-- Kinds among two lists of signals.
use Rattle.std.proofs.Common.{◌≡◌, refl, ap, ◌∙◌, ℕ, zero, suc, ◌-◌, ◌<◌, ◌≤◌, Bool, List, [], ◌∷◌, length, arith, le_of_suc-le-suc}
use Rattle.std.specs.Prelude.{◌++◌}
use Rattle.vl_design.specs.declared.design.Signal.{Signal}
use Rattle.vl_design.specs.declared.design.SigKind.{SigKind}
use Rattle.vl_check.specs.Bodies.{kind_is}

pub kind-left : (test : SigKind → Bool) (xs ys : List Signal) (k : ℕ) → k < length xs → kind_is test (xs ++ ys) k ≡ kind_is test xs k
kind-left test [] ys k h = absurd (omega arith)
kind-left test (x ∷ xs) ys zero h = refl
kind-left test (x ∷ xs) ys (suc k) h = kind-left test xs ys k (le_of_suc-le-suc h)

pub kind-right : (test : SigKind → Bool) (xs ys : List Signal) (k : ℕ) → length xs ≤ k → kind_is test (xs ++ ys) k ≡ kind_is test ys (k - length xs)
kind-right test [] ys k h = let e : k ≡ k - 0 = omega arith in ap (kind_is test ys) e
kind-right test (x ∷ xs) ys zero h = absurd (omega arith)
kind-right test (x ∷ xs) ys (suc k) h = let e : k - length xs ≡ suc k - suc (length xs) = omega arith in kind-right test xs ys k (le_of_suc-le-suc h) ∙ ap (kind_is test ys) e

pub ruleset joined = (kind-left, kind-right)
