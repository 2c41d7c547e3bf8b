-- The first of the faults of a list, element by element.
use Rattle.std.proofs.Common.{◌≡◌, ℕ, ◌+◌, ◌<◌, ◌≤◌, List, length, get_or, sym, subst}
use Rattle.std.specs.Prelude.{◌⊎◌, Any, Option, None}
use Rattle.vl_base.specs.declared.place.Place.{Place}
use Rattle.vl_design.specs.declared.stop.Stop.{Stop}
use Rattle.vl_design.specs.First.{IsFirst}
use Rattle.vl_latch.specs.Faults.{stop_at, first_of}
use Rattle.vl_latch.proofs.Firsts.{Before, before-none, before-more, before-all, first-same, first-both}

pub first-none : {X : Type 0} (P : X → Stop → Type 0) (ys : List X) → IsFirst (λ s. Before (λ y. P y s) ys 0) (stop_at None)
first-none P ys = λ s w. before-none (λ y. P y s) ys w

pub first-next : {X : Type 0} (P : X → Stop → Type 0) (ys xs : List X) (i : ℕ) (x : X) (best at r : Option Place) → xs ≡ ys → i < length xs → x ≡ get_or xs i x
    → IsFirst (λ s. Before (λ y. P y s) ys i) (stop_at best) → IsFirst (P x) (stop_at at) → r ≡ first_of best at → IsFirst (λ s. Before (λ y. P y s) ys (i + 1)) (stop_at r)
first-next {X} P ys xs i x best at r same l e h k joined =
    let before = subst (λ (zs : List X). IsFirst (λ s. Before (λ y. P y s) zs i) (stop_at best)) (sym same) h in
    let all = first-same (λ s. Before (λ y. P y s) xs i ⊎ P x s) (λ s. Before (λ y. P y s) xs (i + 1)) (λ s. before-more (λ y. P y s) xs i x l e) (stop_at (first_of best at))
    (first-both (λ s. Before (λ y. P y s) xs i) (P x) best at before k) in
    subst (λ (zs : List X). IsFirst (λ s. Before (λ y. P y s) zs (i + 1)) (stop_at r)) same (subst (λ (o : Option Place). IsFirst (λ s. Before (λ y. P y s) xs (i + 1)) (stop_at o)) (sym joined) all)

pub first-all : {X : Type 0} (P : X → Stop → Type 0) (ys xs : List X) (i : ℕ) (best : Option Place) → xs ≡ ys → length xs ≤ i → IsFirst (λ s. Before (λ y. P y s) ys i) (stop_at best) → IsFirst (λ s. Any (λ y. P y s) ys) (stop_at best)
first-all {X} P ys xs i best same l h =
    let m : length ys ≤ i = subst (λ (zs : List X). length zs ≤ i) same l in
    first-same (λ s. Before (λ y. P y s) ys i) (λ s. Any (λ y. P y s) ys) (λ s. before-all (λ y. P y s) ys i m) (stop_at best) h
