-- What the iterators of the loops give.
use Rattle.std.proofs.Common.{◌≡◌, ℕ, suc, ◌+◌, List, ◌∷◌, length, ap, subst, arith}
use Rattle.std.specs.Prelude.{Option, Some}
use Rattle.std.specs.Iterator.Adapters.{zip_first, zip_second}
use Rattle.std.specs.Slice.Iter.{iter_rest}
use Rattle.std.specs.Vec.Iter.{into_iter_items, into_iter_len, into_iter_steps}
use Rattle.std.specs.declared.iter.Zip.{Zip}
use Rattle.std.specs.declared.slice.Iter.{Iter}
use Rattle.std.specs.declared.vec.IntoIter.{IntoIter}
use Rattle.std.proofs.iter.Yields.{fronts}
use Rattle.std.proofs.lemmas.Iterator.{zips}
use denote.Ref.{Bor}

pub next-item : {X Z : Type 0} (s u : IntoIter X Z) (r : Option X) (x : X) → r ≡ Some x → into_iter_steps s r u
    → (into_iter_items s ≡ x ∷ into_iter_items u) × (into_iter_len u + 1 ≡ into_iter_len s)
next-item s u r x e h = subst (λ o. into_iter_steps s o u) e h

pub still-long : {X : Type 0} (xs ys : List X) (x : X) (n m : ℕ) → xs ≡ x ∷ ys → m + 1 ≡ n → n ≡ length xs → m ≡ length ys
still-long xs ys x n m e f l = let long : length xs ≡ suc (length ys) = ap length e in omega (arith, long, f, l)

module _ {X Y Z : Type 0} where
  abbrev pub pair_steps : Zip (Iter X) (IntoIter Y Z) → Option (Bor X × Y) → Zip (Iter X) (IntoIter Y Z) → Type 0
  pair_steps = zips fronts into_iter_steps

  pub next-pair : (s u : Zip (Iter X) (IntoIter Y Z)) (r : Option (Bor X × Y)) (p : Bor X × Y) → r ≡ Some p → pair_steps s r u
      → (iter_rest (zip_first s) ≡ p.0.now ∷ iter_rest (zip_first u)) × (into_iter_items (zip_second s) ≡ p.1 ∷ into_iter_items (zip_second u))
      × (into_iter_len (zip_second u) + 1 ≡ into_iter_len (zip_second s))
  next-pair s u r p e h = let both = subst (λ o. pair_steps s o u) e h in (both.0, both.1.0, both.1.1)
