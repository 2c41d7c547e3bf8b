-- Lists that go together, element by element.
use Rattle.std.proofs.Common.{◌≡◌, List, [], ◌∷◌, ◌++◌, map, inl, inr, refl, sym, ap, ◌∙◌, subst}
use Rattle.std.specs.Prelude.{flat_map}
use Rattle.vl_names.specs.vl_scope.specs.Faults.{In}
use Rattle.vl_sound.proofs.DeclaredOfLaws.{Ordered}

unfoldable pub Pairs : {A B : Type 0} → (A → B → Type 0) → List A → List B → Type 0
Pairs R [] [] = Unit {0}
Pairs R (x ∷ xs) (y ∷ ys) = R x y × Pairs R xs ys
Pairs R xs ys = ⊥

module _ {A B : Type 0} (R : A → B → Type 0) where
  pub pairs-append : (xs : List A) (ys : List B) (as' : List A) (es : List B) → Pairs R xs ys → Pairs R as' es → Pairs R (xs ++ as') (ys ++ es)
  unfolding Pairs
  pairs-append [] [] as' es h k = k
  pairs-append [] (y ∷ ys) as' es h k = absurd h
  pairs-append (x ∷ xs) [] as' es h k = absurd h
  pairs-append (x ∷ xs) (y ∷ ys) as' es h k = (h.0, pairs-append xs ys as' es h.1 k)

  pub pairs-map : {C : Type 0} (f : C → A) (g : C → B) (zs : List C) → ((z : C) → R (f z) (g z)) → Pairs R (map f zs) (map g zs)
  unfolding Pairs
  pairs-map f g [] h = tt
  pairs-map f g (z ∷ zs) h = (h z, pairs-map f g zs h)

  -- where the left one is made in two steps
  pub pairs-twice : {C D : Type 0} (h : D → A) (f : C → D) (g : C → B) (zs : List C) → ((z : C) → R (h (f z)) (g z)) → Pairs R (map h (map f zs)) (map g zs)
  unfolding Pairs
  pairs-twice h f g [] k = tt
  pairs-twice h f g (z ∷ zs) k = (k z, pairs-twice h f g zs k)

  -- elements of which each gives several, the left ones in two steps
  pub pairs-items : {C D : Type 0} (h : D → List A) (f : C → D) (g : C → List B) (zs : List C) → ((z : C) → Pairs R (h (f z)) (g z)) → Pairs R (flat_map h (map f zs)) (flat_map g zs)
  unfolding Pairs
  pairs-items h f g [] k = tt
  pairs-items h f g (z ∷ zs) k = pairs-append (h (f z)) (g z) (flat_map h (map f zs)) (flat_map g zs) (k z) (pairs-items h f g zs k)

  pub pairs-flat : {C : Type 0} (f : C → List A) (g : C → List B) (zs : List C) → ((z : C) → Pairs R (f z) (g z)) → Pairs R (flat_map f zs) (flat_map g zs)
  unfolding Pairs
  pairs-flat f g [] h = tt
  pairs-flat f g (z ∷ zs) h = pairs-append (f z) (g z) (flat_map f zs) (flat_map g zs) (h z) (pairs-flat f g zs h)

  pub pairs-there : (xs : List A) (ys : List B) (x : A) → Pairs R xs ys → In x xs → (y : B) × In y ys × R x y
  unfolding Pairs
  pairs-there [] ys x h k = absurd k
  pairs-there (z ∷ xs) [] x h k = absurd h
  pairs-there (z ∷ xs) (y ∷ ys) x h (inl k) = (y, inl refl, subst (λ w. R w y) k h.0)
  pairs-there (z ∷ xs) (y ∷ ys) x h (inr k) = let r = pairs-there xs ys x h.1 k in (r.0, inr r.1, r.2)

  pub pairs-back : (xs : List A) (ys : List B) (y : B) → Pairs R xs ys → In y ys → (x : A) × In x xs × R x y
  unfolding Pairs
  pairs-back xs [] y h k = absurd k
  pairs-back [] (z ∷ ys) y h k = absurd h
  pairs-back (x ∷ xs) (z ∷ ys) y h (inl k) = (x, inl refl, subst (λ w. R x w) k h.0)
  pairs-back (x ∷ xs) (z ∷ ys) y h (inr k) = let r = pairs-back xs ys y h.1 k in (r.0, inr r.1, r.2)

  -- two of which one stands before the other
  pub record TwoOrdered (ys : List B) (x z : A) : Type 0 where
    pub first : B
    pub second : B
    pub first-is : R x first
    pub second-is : R z second
    pub ordered : Ordered ys first second

  split-ordered : (before after : List A) (ys : List B) (x z : A) → Pairs R (before ++ z ∷ after) ys → In x before → TwoOrdered ys x z
  unfolding Pairs
  split-ordered [] after ys x z h k = absurd k
  split-ordered (w ∷ before) after [] x z h k = absurd h
  split-ordered (w ∷ before) after (y ∷ ys) x z h (inl k) =
      let r = split before after ys h.1 in
      record {
        first = y;
        second = r.0;
        first-is = subst (λ v. R v y) k h.0;
        second-is = r.1;
        ordered = record { before = y ∷ r.2; after = r.3; is = ap (λ v. y ∷ v) r.4; earlier = inl refl };
      }
    where
      split : (before after : List A) (ys : List B) → Pairs R (before ++ z ∷ after) ys → (e : B) × R z e × (as' : List B) × (es : List B) × (ys ≡ as' ++ e ∷ es)
      split [] after [] h = absurd h
      split [] after (y ∷ ys) h = (y, h.0, [], ys, refl)
      split (w ∷ before) after [] h = absurd h
      split (w ∷ before) after (y ∷ ys) h = let r = split before after ys h.1 in (r.0, r.1, y ∷ r.2, r.3, ap (λ v. y ∷ v) r.4)
  split-ordered (w ∷ before) after (y ∷ ys) x z h (inr k) =
      let r = split-ordered before after ys x z h.1 k in
      record {
        first = r.first;
        second = r.second;
        first-is = r.first-is;
        second-is = r.second-is;
        ordered = record { before = y ∷ r.ordered.before; after = r.ordered.after; is = ap (λ v. y ∷ v) r.ordered.is; earlier = inr r.ordered.earlier };
      }

  pub pairs-ordered : (xs : List A) (ys : List B) (x z : A) → Pairs R xs ys → Ordered xs x z → TwoOrdered ys x z
  pairs-ordered xs ys x z h o = split-ordered o.before o.after ys x z (subst (λ v. Pairs R v ys) o.is h) o.earlier
