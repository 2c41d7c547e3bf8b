-- Tenants loaded one by one, from the last to the first.
use Rattle.std.proofs.Common.{◌≡◌, ℕ, zero, suc, ◌<◌, List, [], ◌∷◌, ◌++◌, length, get_or, drop, refl, sym, ap, ◌∙◌, subst, arith, length-append, drop-cons}
use Rattle.std.specs.Prelude.{All}
use Rattle.std.proofs.lemmas.List.{get_or_append_left, get_or_push}
use Rattle.host_judge.specs.ten_core.specs.declared.origin.Origin.{Origin}
use Rattle.fab_rounds.specs.fab_orders.specs.declared.outcomes.Start.{Start}
use Rattle.host_run.specs.Made.{AreLoadedOn, IsLoadedOn}

-- what holds of each holds of the last and of the others
pub all_pop : {X : Type 0} (P : X → Type 0) (xs ys : List X) (x : X) → xs ≡ ys ++ x ∷ [] → All P xs → P x × All P ys
all_pop P xs ys x e a =
    let b : All P (ys ++ x ∷ []) = subst (All P) e a in
    let n = length-append ys (x ∷ []) in (
      subst P (get_or_push ys x x (length ys) refl) (b (length ys) x (omega (arith, n))),
      λ k d l. subst P (get_or_append_left ys (x ∷ []) d k l) (b k d (omega (arith, n, l))),
    )

drop_all : (fs : List ℕ) (n : ℕ) → length fs ≡ n → drop n fs ≡ []
drop_all [] zero e = refl
drop_all [] (suc n) e = refl
drop_all (f ∷ fs) zero e = absurd (omega (arith, e))
drop_all (f ∷ fs) (suc n) e = drop_all fs n (omega (arith, e))

-- the fabric of the last tenant that isn't loaded is there
pub is_beside : (fs : List ℕ) (all os qs rest : List Origin) (o : Origin) → length fs ≡ length all → all ≡ os ++ rest → os ≡ qs ++ o ∷ [] → length qs < length fs
is_beside fs all os qs rest o n a p = omega (arith, n, ap length a, ap length p, length-append os rest, length-append qs (o ∷ []))

pub all_more : (all os qs rest : List Origin) (o : Origin) → all ≡ os ++ rest → os ≡ qs ++ o ∷ [] → all ≡ qs ++ o ∷ rest
all_more all os qs rest o a p = a ∙ ap (λ (x : List Origin). x ++ rest) p ∙ push_front qs rest o
  where
    push_front : (qs rest : List Origin) (o : Origin) → (qs ++ o ∷ []) ++ rest ≡ qs ++ o ∷ rest
    push_front [] rest o = refl
    push_front (q ∷ qs) rest o = ap (λ (x : List Origin). q ∷ x) (push_front qs rest o)

pub loaded_more : (fs : List ℕ) (os qs rest : List Origin) (o : Origin) (s : Start) (ss ts : List Start) → os ≡ qs ++ o ∷ [] → length qs < length fs → ts ≡ s ∷ ss
    → IsLoadedOn (length qs) (get_or fs (length qs) 0) o s → AreLoadedOn (length os) (drop (length os) fs) rest ss → AreLoadedOn (length qs) (drop (length qs) fs) (o ∷ rest) ts
loaded_more fs os qs rest o s ss ts p l t h a =
    let n = length qs in
    let m : length os ≡ suc n = omega (arith, ap length p, length-append qs (o ∷ [])) in
    let b : AreLoadedOn (suc n) (drop (suc n) fs) rest ss = subst (λ (k : ℕ). AreLoadedOn k (drop k fs) rest ss) m a in
    let g : drop n fs ≡ get_or fs n 0 ∷ drop (suc n) fs = drop-cons fs n 0 l in
    subst (AreLoadedOn n (drop n fs) (o ∷ rest)) (sym t) (subst (λ (gs : List ℕ). AreLoadedOn n gs (o ∷ rest) (s ∷ ss)) (sym g) (h, b))
