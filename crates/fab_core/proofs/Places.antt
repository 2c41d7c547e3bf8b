-- The first tenant of a number.
use Rattle.std.proofs.Common.{◌≡◌, ◌≢◌, ℕ, ◌<◌, ◌≤◌, List, [], ◌∷◌, length, get_or, arith, refl, ap, sym, ◌∙◌, suc, zero, false, inl, inr, Some, None}
use Rattle.std.specs.Prelude.{◌==◌, nat_lt}
use Rattle.std.specs.List.{position, position_or_len, remove}
use Rattle.std.proofs.lemmas.List.Sums.{fails_before_first, passes_at_first}
use Rattle.std.proofs.lemmas.Bool.{cases_Bool, cond-true, cond-false, eqb-true, eqb-false, eq-eqb, ne_eqb, ltb-true, ltb-false}
use Rattle.std.proofs.lemmas.Option.{cond_some, none-some}
use Rattle.fab_join.specs.Parts.{PartData}
use Rattle.fab_model.specs.ten_parcel.specs.declared.tenant.Tenant.{Tenant}
use Rattle.fab_model.specs.Points.{Point}
use Rattle.fab_model.specs.Fabrics.{first_of, is_of, without}
use Rattle.fab_core.specs.declared.resident.Resident.{Resident}
use Rattle.fab_core.specs.Standing.{AreStanding, AreWaiting}
use Rattle.fab_core.proofs.Lists.{standing_at, standing_many, waiting_at, waiting_many}

-- the first point of a number stands at this place
pub record IsFirst (t : ℕ) (ps : List Point) (k : ℕ) : Type 0 where
  pub there : k < length ps
  pub is : (d : Point) → (get_or ps k d).number ≡ t
  pub none : (i : ℕ) (d : Point) → i < k → (get_or ps i d).number ≢ t

abbrev pub HasNone : ℕ → List Point → Type 0
HasNone t ps = (i : ℕ) (d : Point) → i < length ps → (get_or ps i d).number ≢ t

rest_first : (t : ℕ) (p : Point) (ps : List Point) (k : ℕ) → IsFirst t (p ∷ ps) (suc k) → IsFirst t ps k
rest_first t p ps k h = record { there = let there = h.there in omega arith; is = λ d. h.is d; none = λ i d lt. h.none (suc i) d (omega arith) }

pub first_found : (t : ℕ) (ps : List Point) (k : ℕ) (d : Point) → IsFirst t ps k → first_of t ps ≡ Some (get_or ps k d)
first_found t [] k d h = let there = h.there in absurd (omega arith)
first_found t (p ∷ ps) zero d h = cond-true (is_of t p) (Some p) (first_of t ps) (eq-eqb p.number t (h.is p))
first_found t (p ∷ ps) (suc k) d h = cond-false (is_of t p) (Some p) (first_of t ps) (ne_eqb p.number t (h.none 0 p (omega arith))) ∙ first_found t ps k d (rest_first t p ps k h)

pub without_found : (t : ℕ) (ps : List Point) (k : ℕ) → IsFirst t ps k → without t ps ≡ remove ps k
without_found t [] k h = let there = h.there in absurd (omega arith)
without_found t (p ∷ ps) zero h = cond-true (is_of t p) ps (p ∷ without t ps) (eq-eqb p.number t (h.is p))
without_found t (p ∷ ps) (suc k) h = cond-false (is_of t p) ps (p ∷ without t ps) (ne_eqb p.number t (h.none 0 p (omega arith))) ∙ ap (λ (qs : List Point). p ∷ qs) (without_found t ps k (rest_first t p ps k h))

pub none_found : (t : ℕ) (ps : List Point) → HasNone t ps → first_of t ps ≡ None
none_found t [] h = refl
none_found t (p ∷ ps) h = cond-false (is_of t p) (Some p) (first_of t ps) (ne_eqb p.number t (h 0 p (omega arith))) ∙ none_found t ps (λ i d lt. h (suc i) d (omega arith))

pub none_without : (t : ℕ) (ps : List Point) → HasNone t ps → without t ps ≡ ps
none_without t [] h = refl
none_without t (p ∷ ps) h = cond-false (is_of t p) ps (p ∷ without t ps) (ne_eqb p.number t (h 0 p (omega arith))) ∙ ap (λ (qs : List Point). p ∷ qs) (none_without t ps (λ i d lt. h (suc i) d (omega arith)))

-- ---- what looking for the place gives

module _ {X : Type 0} (number : X → ℕ) (t : ℕ) where
  first_from : (xs : List X) (ps : List Point) (k : ℕ) → length xs ≡ length ps → ((i : ℕ) (x : X) (p : Point) → i < length xs → number (get_or xs i x) ≡ (get_or ps i p).number) →
      position (λ x. number x == t) xs ≡ Some k → IsFirst t ps k
  first_from [] ps k many same e = absurd (none-some k (sym (cond-false (nat_lt 0 0) (Some 0) None refl) ∙ e))
  first_from (y ∷ ys) ps k many same e =
      let xs : List X = y ∷ ys in
      let found = cond_some (nat_lt (position_or_len (λ x. number x == t) xs) (length xs)) (position_or_len (λ x. number x == t) xs) k e in
      let lt : position_or_len (λ x. number x == t) xs < length xs = ltb-true (position_or_len (λ x. number x == t) xs) (length xs) found.0 in
      let at : position_or_len (λ x. number x == t) xs ≡ k = found.1 in
      let within : k < length xs = omega (arith, lt, at) in
      record {
        there = omega (arith, within, many);
        is = λ d. sym (same k y d within) ∙ eqb-true (number (get_or xs k y)) t (ap (λ i. number (get_or xs i y) == t) (sym at) ∙ passes_at_first (λ x. number x == t) xs y lt);
        none = λ i d below eq.
            let less : i < length xs = omega (arith, below, within) in
            eqb-false (number (get_or xs i y)) t (fails_before_first (λ x. number x == t) xs i y (omega (arith, below, at))) (same i y d less ∙ eq);
      }

  none_from : (xs : List X) (ps : List Point) → length xs ≡ length ps → ((i : ℕ) (x : X) (p : Point) → i < length xs → number (get_or xs i x) ≡ (get_or ps i p).number) →
      position (λ x. number x == t) xs ≡ None → HasNone t ps
  none_from [] ps many same e i d lt eq = omega (arith, many, lt)
  none_from (y ∷ ys) ps many same e i d lt eq =
      let xs : List X = y ∷ ys in
      let n = position_or_len (λ x. number x == t) xs in
      let no : nat_lt n (length xs) ≡ false = elim (cases_Bool (nat_lt n (length xs))) [
        | inl b ↦ absurd (none-some n (sym e ∙ cond-true (nat_lt n (length xs)) (Some n) None b))
        | inr b ↦ b
      ] in
      let past : length xs ≤ n = ltb-false n (length xs) no in
      let within : i < length xs = omega (arith, lt, many) in
      eqb-false (number (get_or xs i y)) t (fails_before_first (λ x. number x == t) xs i y (omega (arith, past, within))) (same i y d within ∙ eq)

pub resident_first : (j : List PartData) (rs : List Resident) (ps : List Point) (t k : ℕ) → AreStanding j rs ps → position (λ r. r.tenant.shell.number == t) rs ≡ Some k → IsFirst t ps k
resident_first j rs ps t k h e = first_from (λ (r : Resident). r.tenant.shell.number) t rs ps k (standing_many j rs ps h) (λ i r p lt. (standing_at j rs ps i r p h lt).point.number) e

pub resident_none : (j : List PartData) (rs : List Resident) (ps : List Point) (t : ℕ) → AreStanding j rs ps → position (λ r. r.tenant.shell.number == t) rs ≡ None → HasNone t ps
resident_none j rs ps t h e = none_from (λ (r : Resident). r.tenant.shell.number) t rs ps (standing_many j rs ps h) (λ i r p lt. (standing_at j rs ps i r p h lt).point.number) e

pub waiter_first : (ts : List Tenant) (ps : List Point) (t k : ℕ) → AreWaiting ts ps → position (λ x. x.shell.number == t) ts ≡ Some k → IsFirst t ps k
waiter_first ts ps t k h e = first_from (λ (x : Tenant). x.shell.number) t ts ps k (waiting_many ts ps h) (λ i r p lt. (waiting_at ts ps i r p h lt).point.number) e

pub waiter_none : (ts : List Tenant) (ps : List Point) (t : ℕ) → AreWaiting ts ps → position (λ x. x.shell.number == t) ts ≡ None → HasNone t ps
waiter_none ts ps t h e = none_from (λ (x : Tenant). x.shell.number) t ts ps (waiting_many ts ps h) (λ i r p lt. (waiting_at ts ps i r p h lt).point.number) e
