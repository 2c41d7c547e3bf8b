-- Progress words where a history goes on by a note.
use Rattle.std.proofs.Common.{◌≡◌, ℕ, ◌<◌, eqb, Bool, true, false, List, [], ◌∷◌, ◌++◌, length, set, get_or, sym, refl, ap, ◌∙◌, arith, length-set, cond, max, eq-eqb, ne_eqb, get_or-set_same, get_or-set_other}
use mathlib.Core.Logic.{dite}
use native.Mathlib.Decide.{ℕ_discrete}
use Rattle.fab_bay.specs.fab_lock.specs.declared.entry.Entry.{Entry}
use Rattle.fab_bay.specs.fab_lock.specs.Histories.{high, Reaches}

ends : (b : Bool) (k : ℕ) → cond b (max k 0) 0 ≡ cond b (max 0 k) 0
ends true k = omega arith
ends false k = refl

swaps : (a b : Bool) (x e h : ℕ) → cond a (max x (cond b (max h e) h)) (cond b (max h e) h) ≡ cond b (max (cond a (max x h) h) e) (cond a (max x h) h)
swaps true true x e h = omega arith
swaps true false x e h = refl
swaps false b x e h = refl

module _ {N : Type 0} (entry : N → Entry) where
  -- how far a history goes with a note more
  high_more : (t : ℕ) (xs : List N) (e : N) → high entry t (xs ++ e ∷ []) ≡ cond (eqb (entry e).tenant t) (max (high entry t xs) (entry e).to) (high entry t xs)
  high_more t [] e = ends (eqb (entry e).tenant t) (entry e).to
  high_more t (x ∷ xs) e = ap (λ (h : ℕ). cond (eqb (entry x).tenant t) (max (entry x).to h) h) (high_more t xs e)
      ∙ swaps (eqb (entry x).tenant t) (eqb (entry e).tenant t) (entry x).to (entry e).to (high entry t xs)

  -- the word of the note's tenant rises to its tick
  pub raised : (count : ℕ) (words : List ℕ) (now : List N) (e : N) → Reaches entry count words now → (entry e).tenant < count
      → Reaches entry count (set words (entry e).tenant (max (get_or words (entry e).tenant 0) (entry e).to)) (now ++ e ∷ [])
  raised count words now e r in' = let t : ℕ = (entry e).tenant in let to : ℕ = (entry e).to in let wide : length words ≡ count = r.0 in let x : ℕ = max (get_or words t 0) to in (
    length-set words t x ∙ wide,
    λ i l. dite (ℕ_discrete t i)
        (λ same. ap (λ (k : ℕ). get_or (set words t x) k 0) (sym same) ∙ get_or-set_same words t x 0 (omega arith) ∙ ap (λ (h : ℕ). max h to) (ap (λ (k : ℕ). get_or words k 0) same ∙ r.1 i l)
        ∙ sym (high_more i now e ∙ ap (λ b. cond b (max (high entry i now) to) (high entry i now)) (eq-eqb t i same)))
        (λ other. get_or-set_other words t i x 0 (λ e'. other (sym e')) ∙ r.1 i l
        ∙ sym (high_more i now e ∙ ap (λ b. cond b (max (high entry i now) to) (high entry i now)) (ne_eqb t i other))),
  )
