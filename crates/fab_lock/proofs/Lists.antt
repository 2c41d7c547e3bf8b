-- Lists of words and of views.
use Rattle.std.proofs.Common.{◌≡◌, ℕ, ◌+◌, ◌-◌, ◌<◌, ◌≤◌, ◌≢◌, List, [], ◌∷◌, ◌++◌, length, get_or, drop, set, replicate, sym, refl, ap, ◌∙◌, subst, ⊎_elim, arith, get_or-set_same, get_or-set_other, add-one, zero, suc, inl, inr, ◌⊎◌}
use mathlib.Core.Option.{some, some-injective, some-ne-none}
use mathlib.Core.Logic.{dite}
use native.Mathlib.Decide.{ℕ_discrete}
use lib.ListN.{get_elem?}
use Rattle.fab_lock.specs.declared.view.View.{View}
use Rattle.fab_lock.specs.Rule.{Holder, no_seat, the_seat, IsHeldBy}
use Rattle.atomic_table.proofs.Lists.{at_set, set_here, set_else, at_longer}

-- what a list of one has
pub only_one : {A : Type 0} (a b : A) (j : ℕ) → get_elem? (a ∷ []) j ≡ some b → (j ≡ 0) × (a ≡ b)
only_one a b zero e = (refl, some-injective a b e)
only_one a b (suc j) e = absurd (some-ne-none b (sym e))

-- a list of zeros has nothing else
pub zeros : (n i : ℕ) → ◌≡◌ {A = ℕ} (get_or (replicate n 0) i 0) 0
zeros zero i = refl
zeros (suc n) zero = refl
zeros (suc n) (suc i) = zeros n i

-- words behind the first
pub next_word : (ws : List ℕ) (i : ℕ) → get_or (drop 1 ws) i 0 ≡ get_or ws (i + 1) 0
next_word [] i = refl
next_word (w ∷ ws) i = rw (add-one i) refl

-- the first word, set, before the others
pub split_words : (ws : List ℕ) (n : ℕ) → length ws ≡ n + 1 → (x : ℕ) → set ws 0 x ≡ x ∷ drop 1 ws
split_words [] n e x = absurd (omega arith)
split_words (w ∷ ws) n e x = refl

-- setting the first word leaves the others
pub past_first : (ws : List ℕ) (x i : ℕ) → get_or (set ws 0 x) (i + 1) 0 ≡ get_or ws (i + 1) 0
past_first ws x i = get_or-set_other ws 0 (i + 1) x 0 (λ e. omega arith)

-- setting a word behind the first
pub set_next : (a k x : ℕ) (l : List ℕ) → set (a ∷ l) (k + 1) x ≡ a ∷ set l (k + 1 - 1) x
set_next a k x l = let e : k + 1 - 1 ≡ k = omega arith in rw (e, add-one k) refl

-- setting a word to no less lets no word fall
pub rises : (ws : List ℕ) (k x i : ℕ) → k < length ws → get_or ws k 0 ≤ x → get_or ws i 0 ≤ get_or (set ws k x) i 0
rises ws k x i l up = dite (ℕ_discrete i k) (λ e. subst (λ (z : ℕ). get_or ws z 0 ≤ get_or (set ws k x) z 0) (sym e) (let s = get_or-set_same ws k x 0 l in omega arith))
    (λ ne. let s = get_or-set_other ws k i x 0 ne in omega arith)

-- what a list has lies within it
pub within : {A : Type 0} (l : List A) (i : ℕ) (a : A) → get_elem? l i ≡ some a → i < length l
within [] i a e = absurd (some-ne-none a (sym e))
within (x ∷ xs) zero a e = omega arith
within (x ∷ xs) (suc i) a e = let h = within xs i a e in omega arith

-- what a list with one more has
at_end : {A : Type 0} (l : List A) (a b : A) (j : ℕ) → get_elem? (l ++ a ∷ []) j ≡ some b → (get_elem? l j ≡ some b) ⊎ ((j ≡ length l) × (a ≡ b))
at_end [] a b zero e = inr (refl, some-injective a b e)
at_end [] a b (suc j) e = absurd (some-ne-none b (sym e))
at_end (x ∷ xs) a b zero e = inl e
at_end (x ∷ xs) a b (suc j) e = ⊎_elim (λ t. inl t) (λ (t : (j ≡ length xs) × (a ≡ b)). inr (ap suc t.0, t.1)) (at_end xs a b j e)

-- what holds of each member still does where the one at a place changes
pub all_set : {A : Type 0} (Q : ℕ → A → Type 0) (l : List A) (i : ℕ) (a : A) → Q i a → ((j : ℕ) (b : A) → j ≢ i → get_elem? l j ≡ some b → Q j b) → (j : ℕ) (b : A) → get_elem? (set l i a) j ≡ some b → Q j b
all_set {A} Q l i a one rest j b e = ⊎_elim
    (λ (t : (j ≡ i) × (a ≡ b)). subst (λ (z : ℕ × A). Q z.0 z.1) (λ k. (sym t.0 k, t.1 k)) one)
    (λ (t : (j ≢ i) × (get_elem? l j ≡ some b)). rest j b t.0 t.1)
    (at_set l i j a b e)

-- and where there is one more at the end
pub all_more : {A : Type 0} (Q : ℕ → A → Type 0) (l : List A) (a : A) → ((j : ℕ) (b : A) → get_elem? l j ≡ some b → Q j b) → Q (length l) a → (j : ℕ) (b : A) → get_elem? (l ++ a ∷ []) j ≡ some b → Q j b
all_more {A} Q l a all one j b e = ⊎_elim
    (λ (t : get_elem? l j ≡ some b). all j b t)
    (λ (t : (j ≡ length l) × (a ≡ b)). subst (λ (z : ℕ × A). Q z.0 z.1) (λ k. (sym t.0 k, t.1 k)) one)
    (at_end l a b j e)

-- a seat's view changes, and it holds the value where it did
pub still_held : {L N : Type 0} (views : List (View L N)) (holder : Holder) (id : ℕ) (v w : View L N) → get_elem? views id ≡ some v → w.holds ≡ v.holds → IsHeldBy views holder → IsHeldBy (set views id w) holder
still_held views no_seat id v w at same h = tt
still_held {L} {N} views (the_seat j) id v w at same h = dite (ℕ_discrete j id)
    (λ e. let is : h.0 ≡ v = some-injective h.0 v (sym h.1 ∙ ap (λ (k : ℕ). get_elem? views k) e ∙ at) in
    (w, ap (λ (k : ℕ). get_elem? (set views id w) k) e ∙ set_here views id w (within views id v at), same ∙ ap (λ (u : View L N). u.holds) (sym is) ∙ h.2))
    (λ ne. (h.0, set_else views id j w ne ∙ h.1, h.2))

-- there is a view more
pub held_more : {L N : Type 0} (views more : List (View L N)) (holder : Holder) → IsHeldBy views holder → IsHeldBy (views ++ more) holder
held_more views more no_seat h = tt
held_more views more (the_seat j) h = (h.0, at_longer views more j h.0 h.1, h.2)

-- a where both tests hold, else b
abbrev pub choose : {P Q : Type 0} → Dec P → Dec Q → ℕ → ℕ → ℕ
choose (yes p) (yes q) a b = a
choose (yes p) (no q) a b = b
choose (no p) e a b = b

pub chosen : {P Q : Type 0} (d : Dec P) (e : Dec Q) (a b : ℕ) → P → Q → choose d e a b ≡ a
chosen (yes p) (yes q) a b x y = refl
chosen (yes p) (no q) a b x y = absurd (q y)
chosen (no p) e a b x y = absurd (p x)

pub not_chosen : {P Q : Type 0} (d : Dec P) (e : Dec Q) (a b : ℕ) → (P → Q → ⊥) → choose d e a b ≡ b
not_chosen (yes p) (yes q) a b n = absurd (n p q)
not_chosen (yes p) (no q) a b n = refl
not_chosen (no p) e a b n = refl
