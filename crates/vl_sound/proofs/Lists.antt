-- What holds of each element of a list.
use Rattle.std.proofs.Common.{◌≡◌, ℕ, ◌+◌, Bool, true, false, if◌then◌else◌, List, [], ◌∷◌, ◌++◌, length, Option, Some, None, sym, ap, ◌∙◌, subst, arith}
use Rattle.std.specs.Prelude.{find, slice_get, All}
use Rattle.std.proofs.lemmas.List.{append_assoc, length-append, get_or_append_left, get_or-append-add}
use Rattle.std.proofs.lemmas.Option.{slice_get-get_or, slice_get_within}
use Rattle.std.proofs.Math.Seq.{get_or-append_seam}
use Rattle.std.proofs.lemmas.List.Elements.{All-head, All-tail, All-get_or}
use Rattle.std.specs.Option.{option_and_then}
pub use Rattle.vl_flat.specs.vl_base.proofs.Lists.{get_pushed as seam-part, all_get as at-holds, get_append_left as left-part}

unfoldable pub Each : {A : Type 0} → (A → Type 0) → List A → Type 0
Each P [] = Unit {0}
Each P (y ∷ ys) = P y × Each P ys

pub each-from : {A : Type 0} (P : A → Type 0) (xs : List A) → All P xs → Each P xs
unfolding Each
each-from P [] h = tt
each-from P (y ∷ ys) h = (All-head P y ys h, each-from P ys (All-tail P y ys h))

pub each-left : {A : Type 0} (P : A → Type 0) (xs ys : List A) → Each P (xs ++ ys) → Each P xs
unfolding Each
each-left P [] ys h = tt
each-left P (y ∷ xs) ys h = (h.0, each-left P xs ys h.1)

pub each-right : {A : Type 0} (P : A → Type 0) (xs ys : List A) → Each P (xs ++ ys) → Each P ys
unfolding Each
each-right P [] ys h = h
each-right P (y ∷ xs) ys h = each-right P xs ys h.1

-- what is found is one of them
pub found-holds : {A : Type 0} (P : A → Type 0) (test : A → Bool) (ys : List A) (y : A) → All P ys → find test ys ≡ Some y → P y
found-holds P test [] y h e = absurd cc
found-holds P test (z ∷ ys) y h e = by (test z) (λ q. found-holds P test ys y (All-tail P z ys h) q) e
  where
    some_is : ◌≡◌ {A = Option _} (Some z) (Some y) → z ≡ y
    some_is q = cc

    by : (c : Bool) → (find test ys ≡ Some y → P y) → (if c then Some z else find test ys) ≡ Some y → P y
    by true rest q = subst P (some_is q) (All-head P z ys h)
    by false rest q = rest q

-- what is at the place that an option tells
pub told-at : {A : Type 0} (P : A → Type 0) (ys : List A) (o : Option ℕ) (y : A) → All P ys → option_and_then (slice_get ys) o ≡ Some y → P y
told-at P ys None y h e = absurd cc
told-at P ys (Some i) y h e = at-holds P ys i y h e

-- ---- elements by their places

pub right-part : {A : Type 0} (pre more : List A) (i : ℕ) (r : A) → slice_get more i ≡ Some r → slice_get (pre ++ more) (length pre + i) ≡ Some r
right-part {A} pre more i r h =
    let lt = slice_get_within more i r h in
    slice_get-get_or (pre ++ more) (length pre + i) r (omega (arith, lt, length-append pre more))
    ∙ (ap (λ (z : A). Some z) (get_or-append-add pre more i r) ∙ (sym (slice_get-get_or more i r lt) ∙ h))

-- these stand in the whole from a place on
abbrev pub Stands-at : {A : Type 0} → List A → ℕ → List A → Type 0
Stands-at {A} whole o xs = (i : ℕ) (r : A) → slice_get xs i ≡ Some r → slice_get whole (o + i) ≡ Some r

pub stands-part : {A : Type 0} (whole pre xs more : List A) (o q : ℕ) → Stands-at whole o (pre ++ (xs ++ more)) → q ≡ o + length pre → Stands-at whole q xs
stands-part whole pre xs more o q h is i r e =
    let there = h (length pre + i) r (right-part pre (xs ++ more) i r (left-part xs more i r e)) in
    let same : o + (length pre + i) ≡ q + i = omega (arith, is) in
    ap (slice_get whole) (sym same) ∙ there

-- an inner part between others
pub pieces : {A : Type 0} (a b c d e : List A) → a ++ ((b ++ (c ++ d)) ++ e) ≡ (a ++ b) ++ (c ++ (d ++ e))
pieces a b c d e =
    ap (λ z. a ++ z) (append_assoc b (c ++ d) e ∙ ap (λ z. b ++ z) (append_assoc c d e))
    ∙ sym (append_assoc a b (c ++ (d ++ e)))
