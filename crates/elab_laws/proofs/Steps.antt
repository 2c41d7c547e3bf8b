-- The selects of a name as steps in a design: what holds of each index, and of the memory of which a word is chosen.
use Rattle.std.proofs.Common.{◌≡◌, ℕ, ℤ, Bool, true, false, if◌then◌else◌, List, [], ◌∷◌, Option, Some, None, refl, subst}
use Rattle.std.specs.Prelude.{⊤}
use Rattle.vl_sound.specs.vl_tree.specs.declared.tree.SelectMark.{SelectMark}
use Rattle.vl_sound.specs.vl_tree.specs.declared.tree.SelectMark.TheVariants as m
use Rattle.ten_plan.specs.vl_design.specs.Placed as p
use Rattle.vl_sound.specs.vl_flat.specs.declared.binding.Binding.{Binding}
use Rattle.vl_sound.specs.vl_flat.specs.Surface as x
use Rattle.vl_sound.specs.vl_flat.specs.Scopes.{Scope, number_of, range_of}
use Rattle.vl_sound.specs.vl_flat.specs.Expressions as e

-- the place that a memory's name tells
memory-is : (o : Option Binding) (j : ℕ) → e.memory_of o ≡ Some j → number_of o ≡ j
memory-is o j h = by (e.is_memory o) h
  where
    some-is : ◌≡◌ {A = Option ℕ} (Some (number_of o)) (Some j) → number_of o ≡ j
    some-is q = cc

    by : (c : Bool) → (if c then Some (number_of o) else None) ≡ Some j → number_of o ≡ j
    by true h = some-is h
    by false h = absurd cc

abbrev pub steps-of : Scope → List ℕ → x.Selects → List e.Step
steps-of scope n ss = e.steps scope (e.memory_of (scope.names n)) (range_of (scope.names n)) ss

-- each index, and each left bound, is so
abbrev pub SelectsSo : Scope → (p.Exp → Type 0) → x.Selects → Type 0
SelectsSo scope P x.NoSelects = ⊤
SelectsSo scope P (x.Index q a others) = P (e.exp scope a) × SelectsSo scope P others
SelectsSo scope P (x.Range q mark l r others) = P (e.exp scope l) × SelectsSo scope P others

-- a property of memories, and one of indices
module _ (K : ℕ → Type 0) (P : p.Exp → Type 0) where
  abbrev pub StepSo : e.Step → Type 0
  StepSo (e.Chosen j a) = K j × P a
  StepSo (e.Picked i from w) = P i
  StepSo (e.Sliced r l o w) = ⊤

  abbrev pub StepsSo : List e.Step → Type 0
  StepsSo [] = ⊤
  StepsSo (s ∷ ss) = StepSo s × StepsSo ss

  part-so : (r : ℤ × ℤ) (mark : SelectMark) (i l o : p.Exp) (w : ℕ) → P i → StepSo (e.part r mark i l o w)
  part-so r m.Range i l o w h = tt
  part-so r m.Up i l o w h = h
  part-so r m.Down i l o w h = h

  module _ (scope : Scope) where
    steps-so : (o : Option ℕ) → ((j : ℕ) → o ≡ Some j → K j) → (r : ℤ × ℤ) (ss : x.Selects) → SelectsSo scope P ss → StepsSo (e.steps scope o r ss)
    steps-so None g r x.NoSelects h = tt
    steps-so (Some j) g r x.NoSelects h = tt
    steps-so (Some j) g r (x.Index q i others) h = ((g j refl, h.0), steps-so None (λ j q. absurd cc) r others h.1)
    steps-so None g r (x.Index q i others) h = (h.0, steps-so None g (e.bits_of 1) others h.1)
    steps-so (Some j) g r (x.Range q mark l o others) h =
        let w = e.part_width mark (e.kept scope l (e.exp scope l)) (e.kept scope o (e.exp scope o)) in
        (part-so r mark (e.exp scope l) (e.kept scope l (e.exp scope l)) (e.kept scope o (e.exp scope o)) w h.0, steps-so None (λ j q. absurd cc) (e.bits_of w) others h.1)
    steps-so None g r (x.Range q mark l o others) h =
        let w = e.part_width mark (e.kept scope l (e.exp scope l)) (e.kept scope o (e.exp scope o)) in
        (part-so r mark (e.exp scope l) (e.kept scope l (e.exp scope l)) (e.kept scope o (e.exp scope o)) w h.0, steps-so None g (e.bits_of w) others h.1)

    -- those of a name
    pub name-steps : (n : List ℕ) (ss : x.Selects) → K (number_of (scope.names n)) → SelectsSo scope P ss → StepsSo (steps-of scope n ss)
    name-steps n ss k h = steps-so (e.memory_of (scope.names n)) (λ j q. subst K (memory-is (scope.names n) j q) k) (range_of (scope.names n)) ss h
