-- What is in a list.
use Rattle.std.proofs.Common.{◌≡◌, ℕ, Bool, true, false, ◌||◌, List, [], ◌∷◌, ◌++◌, map, ◌⊎◌, inl, inr, ⊎_elim, ◌↔◌, Option, None, refl, sym, ap, ◌∙◌, subst, append-nil, append_assoc}
use Rattle.std.specs.List.{flat_map, list_any}
use Rattle.vl_base.specs.declared.place.Place.{Place}
use Rattle.vl_scope.specs.declared.fault.Fault.{Fault}
use Rattle.vl_scope.specs.Faults.{at, earliest, fault_if, each_after, In, IsFirst}
use Rattle.vl_scope.proofs.Orders.{earliest-append, earliest-of}

-- ---- joined lists

pub In-append_left : {X : Type 0} (y : X) (xs ys : List X) → In y xs → In y (xs ++ ys)
In-append_left y [] ys h = absurd h
In-append_left y (x ∷ xs) ys (inl h) = inl h
In-append_left y (x ∷ xs) ys (inr h) = inr (In-append_left y xs ys h)

pub In-append_right : {X : Type 0} (y : X) (xs ys : List X) → In y ys → In y (xs ++ ys)
In-append_right y [] ys h = h
In-append_right y (x ∷ xs) ys h = inr (In-append_right y xs ys h)

pub In-append_cases : {X : Type 0} (y : X) (xs ys : List X) → In y (xs ++ ys) → In y xs ⊎ In y ys
In-append_cases y [] ys h = inr h
In-append_cases y (x ∷ xs) ys (inl h) = inl (inl h)
In-append_cases y (x ∷ xs) ys (inr h) = ⊎_elim (λ a. inl (inr a)) (λ b. inr b) (In-append_cases y xs ys h)

-- a member stands behind some and before others
pub In-split : {X : Type 0} (y : X) (xs : List X) → In y xs → (before : List X) × (after : List X) × (xs ≡ before ++ y ∷ after)
In-split y [] h = absurd h
In-split y (x ∷ xs) (inl h) = ([], xs, ap (λ z. z ∷ xs) h)
In-split y (x ∷ xs) (inr h) = let r = In-split y xs h in (x ∷ r.0, r.1, ap (λ l. x ∷ l) r.2)

pub In-middle : {X : Type 0} (y : X) (before after : List X) → In y (before ++ y ∷ after)
In-middle y before after = In-append_right y before (y ∷ after) (inl refl)

-- ---- mapped lists

pub In-map : {X Y : Type 0} (f : X → Y) (x : X) (xs : List X) → In x xs → In (f x) (map f xs)
In-map f x [] h = absurd h
In-map f x (z ∷ xs) (inl h) = inl (ap f h)
In-map f x (z ∷ xs) (inr h) = inr (In-map f x xs h)

pub In-map_cases : {X Y : Type 0} (f : X → Y) (y : Y) (xs : List X) → In y (map f xs) → (x : X) × In x xs × (f x ≡ y)
In-map_cases f y [] h = absurd h
In-map_cases f y (z ∷ xs) (inl h) = (z, inl refl, h)
In-map_cases f y (z ∷ xs) (inr h) = let r = In-map_cases f y xs h in (r.0, inr r.1, r.2)

pub In-flat_map : {X Y : Type 0} (f : X → List Y) (x : X) (y : Y) (xs : List X) → In x xs → In y (f x) → In y (flat_map f xs)
In-flat_map f x y [] h k = absurd h
In-flat_map f x y (z ∷ xs) (inl h) k = In-append_left y (f z) (flat_map f xs) (subst (λ x. In y (f x)) (sym h) k)
In-flat_map f x y (z ∷ xs) (inr h) k = In-append_right y (f z) (flat_map f xs) (In-flat_map f x y xs h k)

pub In-flat_map_cases : {X Y : Type 0} (f : X → List Y) (y : Y) (xs : List X) → In y (flat_map f xs) → (x : X) × In x xs × In y (f x)
In-flat_map_cases f y [] h = absurd h
In-flat_map_cases f y (z ∷ xs) h = ⊎_elim (λ a. (z, inl refl, a)) (λ b. let r = In-flat_map_cases f y xs b in (r.0, inr r.1, r.2)) (In-append_cases y (f z) (flat_map f xs) h)

-- ---- lists of faults

pub In-fault_if : (b : Bool) (p : Place) (n : ℕ) → b ≡ true → In (at p n) (fault_if b p n)
In-fault_if true p n h = inl refl
In-fault_if false p n h = absurd cc

pub In-fault_if_cases : (b : Bool) (p : Place) (n : ℕ) (f : Fault) → In f (fault_if b p n) → (b ≡ true) × (f ≡ at p n)
In-fault_if_cases true p n f (inl h) = (refl, sym h)
In-fault_if_cases true p n f (inr h) = absurd h
In-fault_if_cases false p n f h = absurd h

-- what an element gives where those before it are known
pub In-each_after : {X Y : Type 0} (f : List X → X → List Y) (y : Y) (known before : List X) (x : X) (after : List X) → In y (f (known ++ before) x) → In y (each_after f known (before ++ x ∷ after))
In-each_after f y known [] x after h = In-append_left y (f known x) (each_after f (known ++ x ∷ []) after) (subst (λ l. In y (f l x)) (append-nil known) h)
In-each_after f y known (z ∷ before) x after h =
    In-append_right y (f known z) (each_after f (known ++ z ∷ []) (before ++ x ∷ after))
    (In-each_after f y (known ++ z ∷ []) before x after (subst (λ l. In y (f l x)) (sym (append_assoc known (z ∷ []) before)) h))

pub In-each_after_cases : {X Y : Type 0} (f : List X → X → List Y) (y : Y) (known xs : List X) → In y (each_after f known xs)
    → (before : List X) × (x : X) × (after : List X) × (xs ≡ before ++ x ∷ after) × In y (f (known ++ before) x)
In-each_after_cases f y known [] h = absurd h
In-each_after_cases f y known (z ∷ xs) h =
    ⊎_elim
    (λ here. ([], z, xs, refl, subst (λ l. In y (f l z)) (sym (append-nil known)) here))
    (λ later. let r = In-each_after_cases f y (known ++ z ∷ []) xs later in
    (z ∷ r.0, r.1, r.2, ap (λ l. z ∷ l) r.3, subst (λ l. In y (f l r.1)) (append_assoc known (z ∷ []) r.0) r.4))
    (In-append_cases y (f known z) (each_after f (known ++ z ∷ []) xs) h)

-- one more element
pub each_after-push : {X Y : Type 0} (f : List X → X → List Y) (known xs : List X) (x : X) → each_after f known (xs ++ x ∷ []) ≡ each_after f known xs ++ f (known ++ xs) x
each_after-push f known [] x = append-nil (f known x) ∙ ap (λ l. f l x) (sym (append-nil known))
each_after-push f known (z ∷ xs) x =
    ap (λ l. f known z ++ l) (each_after-push f (known ++ z ∷ []) xs x)
    ∙ ap (λ l. f known z ++ (each_after f (known ++ z ∷ []) xs ++ f l x)) (append_assoc known (z ∷ []) xs)
    ∙ sym (append_assoc (f known z) (each_after f (known ++ z ∷ []) xs) (f (known ++ z ∷ xs) x))

-- ---- tests of lists

pub list_any-In : {X : Type 0} (p : X → Bool) (x : X) (xs : List X) → In x xs → p x ≡ true → list_any p xs ≡ true
list_any-In p x [] h k = absurd h
list_any-In p x (z ∷ xs) (inl h) k = rw (ap p h ∙ k) refl
list_any-In p x (z ∷ xs) (inr h) k = rw (list_any-In p x xs h k) (or_true (p z))
  where
    or_true : (b : Bool) → (b || true) ≡ true
    or_true true = refl
    or_true false = refl

pub list_any-In_cases : {X : Type 0} (p : X → Bool) (xs : List X) → list_any p xs ≡ true → (x : X) × In x xs × (p x ≡ true)
list_any-In_cases p [] h = absurd cc
list_any-In_cases {X} p (z ∷ xs) h = by (p z) refl (λ k. list_any-In_cases p xs k) h
  where
    by : (b : Bool) → p z ≡ b → (list_any p xs ≡ true → (x : X) × In x xs × (p x ≡ true)) → (b || list_any p xs) ≡ true → (x : X) × In x (z ∷ xs) × (p x ≡ true)
    by true e later h = (z, inl refl, e)
    by false e later h = let r = later h in (r.0, inr r.1, r.2)

pub list_any-none : {X : Type 0} (p : X → Bool) (xs : List X) → list_any p xs ≡ false → (x : X) → In x xs → p x ≡ false
list_any-none p xs h x k = by (p x) refl
  where
    by : (b : Bool) → p x ≡ b → b ≡ false
    by true e = let t : list_any p xs ≡ true = list_any-In p x xs k e in cc
    by false e = refl

pub none-list_any : {X : Type 0} (p : X → Bool) (xs : List X) → ((x : X) → In x xs → p x ≡ false) → list_any p xs ≡ false
none-list_any p [] h = refl
none-list_any p (z ∷ xs) h = rw (h z (inl refl)) (none-list_any p xs (λ x k. h x (inr k)))

-- ---- the first of several lists

-- the earliest of three lists, one after the other, is the first of what is just their members
pub earliest-of_three : (P Q R : Fault → Type 0) (xs ys zs : List Fault) → ((f : Fault) → P f ↔ In f xs) → ((f : Fault) → Q f ↔ In f ys) → ((f : Fault) → R f ↔ In f zs)
    → (b : Option Fault) → b ≡ earliest (earliest (earliest None xs) ys) zs → IsFirst (λ f. P f ⊎ (Q f ⊎ R f)) b
earliest-of_three P Q R xs ys zs p q r b e = subst (IsFirst (λ f. P f ⊎ (Q f ⊎ R f))) (joined ∙ sym e) (earliest-of (λ f. P f ⊎ (Q f ⊎ R f)) (xs ++ (ys ++ zs)) law)
  where
    joined : earliest None (xs ++ (ys ++ zs)) ≡ earliest (earliest (earliest None xs) ys) zs
    joined = earliest-append None xs (ys ++ zs) ∙ earliest-append (earliest None xs) ys zs

    law : (f : Fault) → (P f ⊎ (Q f ⊎ R f)) ↔ In f (xs ++ (ys ++ zs))
    law f = (
      λ h. ⊎_elim (λ a. In-append_left f xs (ys ++ zs) ((p f).0 a)) (λ h. In-append_right f xs (ys ++ zs) (⊎_elim (λ b. In-append_left f ys zs ((q f).0 b)) (λ c. In-append_right f ys zs ((r f).0 c)) h)) h,
      λ h. ⊎_elim (λ a. inl ((p f).1 a)) (λ h. inr (⊎_elim (λ b. inl ((q f).1 b)) (λ c. inr ((r f).1 c)) (In-append_cases f ys zs h))) (In-append_cases f xs (ys ++ zs) h),
    )
