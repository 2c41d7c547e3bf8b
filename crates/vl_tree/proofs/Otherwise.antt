-- An `else`, which belongs to the nearest `if`: where there is none, what follows is no `else`.
use Rattle.std.proofs.Common.{◌≡◌, ◌⊎◌, inl, inr, List, [], ◌∷◌, ◌++◌, Ok, Option, Some, None, refl, sym, ap, ◌∙◌}
use Rattle.std.specs.Prelude.{codes}
use Rattle.vl_base.specs.declared.place.Place.{Place}
use Rattle.vl_tree.specs.declared.token.Token.{Token}
use Rattle.vl_tree.specs.Reading.{Parser, pure, if_next, next_or, next_by, keyword, keyword_by}
use Rattle.vl_tree.proofs.Follows.{Follows, Took, After, Either, Nothing, Free, Fits, next, next_by_some, next_by_here, next_by_next, follows_if, follows_pure, ok_parts}

-- behind an `else` R, or a and no `else`
abbrev pub IfElse : {A : Type 0} → (A → List Token → List Token → Type 0) → A → A → List Token → List Token → Type 0
IfElse R a b ts rest = After (keyword (codes "else")) (λ _ _. R) b ts rest ⊎ ((b ≡ a) × (ts ≡ rest) × Free (next rest))

free_here : (u : Token) → keyword (codes "else") u ≡ None → Free (Some u)
unfolding keyword
free_here u h e = let w : keyword_by (codes "else") u.place u.kind ≡ Some u.place = ap (keyword_by (codes "else") u.place) e in cc (h, w)

pub not_next : (ts : List Token) → next_by (keyword (codes "else")) ts ≡ None → Free (next ts)
not_next [] h = tt
not_next (u ∷ us) h = free_here u (go (keyword (codes "else") u) refl)
  where
    go : (o : Option Place) → keyword (codes "else") u ≡ o → o ≡ None
    go None e = refl
    go (Some p) e = let w = next_by_here (keyword (codes "else")) u us p e in cc (h, w)

pub free_along : (x y : Option Token) → x ≡ y → Free x → Free y
free_along x y e f = rw (← e) f

-- another token takes the place of what is no `else`
none_fits : (ts other : List Token) → next_by (keyword (codes "else")) ts ≡ None → Fits ts other → Free (next other)
none_fits ts other k (inl n) = free_along (next ts) (next other) n (not_next ts k)
none_fits ts other k (inr f) = f

module _ {A : Type 0} (R : A → List Token → List Token → Type 0) (p : Parser A) (l : Follows R p) (a : A) where
  plain : Follows (Either (keyword (codes "else")) (λ _ _. R) (Nothing a)) (if_next (keyword (codes "else")) (λ _. p) (pure a))
  plain = follows_if (keyword (codes "else")) (λ _ _. R) (Nothing a) (λ _. p) (pure a) (λ u x h. l) (follows_pure a)

  else_took : (ts : List Token) (b : A) (rest : List Token) (o : Option (Place × List Token)) → next_by (keyword (codes "else")) ts ≡ o → next_or o (λ _. p) (Ok (a, ts)) ≡ Ok (b, rest) → Took (IfElse R a) (if_next (keyword (codes "else")) (λ _. p) (pure a)) ts b rest
  else_took ts b rest (Some y) k e = let s = next_by_some (keyword (codes "else")) ts y.1 y.0 k in let g = l.took y.1 b rest e in record {
    front = s.0 ∷ g.front;
    split = s.1 ∙ ap (λ z. s.0 ∷ z) g.split;
    reads = λ o w. inl (s.0, g.front ++ o, y.0, refl, s.2, g.reads o w);
    same = λ o n. rw (next_by_here (keyword (codes "else")) s.0 (g.front ++ o) y.0 s.2) (g.same o n);
  }
  else_took ts b rest None k e = let w : a ≡ b = ap (λ x. x.0) (ok_parts e) in let v : ts ≡ rest = ap (λ x. x.1) (ok_parts e) in record {
    front = [];
    split = v;
    reads = λ o y. inr (sym w, refl, none_fits ts o k (rw v y));
    same = λ o n. rw (next_by_next (keyword (codes "else")) ts o (ap next v ∙ n) k) (ap (λ z. Ok (z, o)) w);
  }

  pub follows_else : Follows (IfElse R a) (if_next (keyword (codes "else")) (λ _. p) (pure a))
  follows_else = record {
    took = λ ts b rest e. else_took ts b rest (next_by (keyword (codes "else")) ts) refl e;
    stuck = λ ts rest e. let g = plain.stuck ts rest e in record {
      front = g.front;
      split = g.split;
      more = g.more;
      found = g.found;
      free = g.free;
      same = g.same;
      begins = λ o y. elim (g.begins o y) [ inl w ↦ inl w | inr (i, j) ↦ inr (i, j, y) ];
    };
    whole = plain.whole;
    word = [];
    value = a;
    some = λ o y. inr (refl, refl, y);
    word_free = λ o y. y;
  }
