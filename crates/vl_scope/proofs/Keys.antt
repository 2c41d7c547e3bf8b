-- What maps and sets have after a change.
use Rattle.std.proofs.Common.{◌≡◌, ℕ, Bool, true, false, cond, ◌||◌, if◌then◌else◌, List, Option, Some, Bor, refl, sym, ap, ◌∙◌, unwrap_or}
use Rattle.std.specs.Str.{bytes_eq}
use Rattle.std.proofs.lemmas.Cmp.{nat_list_eq_equiv}
use Rattle.std.proofs.lemmas.Map.Text.{hash_map_updates_str}
use Rattle.std.proofs.lemmas.Slice.Eq.{bytes_eq-Decides}
use Rattle.indexmap.specs.IndexMap.{IndexMap, UpdatesBy}
use Rattle.indexmap.specs.IndexSet.{IndexSet, contains}
use Rattle.vl_scope.specs.Keys.{value_at, has}

-- what a map has after a value is put in
pub value_at-insert : {X S : Type 0} (m n : IndexMap (Bor (List ℕ)) X S) (bs : List ℕ) (w : X) → UpdatesBy (λ x y. bytes_eq x.now y.now) (λ k. bytes_eq bs k.now) m n (Some w)
    → (t : List ℕ) → value_at n t ≡ (if bytes_eq t bs then Some w else value_at m t)
value_at-insert m n bs w u t = hash_map_updates_str bs m n (Some w) u t ∙ ap (λ b. if b then Some w else value_at m t) (nat_list_eq_equiv.symm bs t)

-- where the value put in is made of the value before
pub value_at-change : {X S : Type 0} (m n : IndexMap (Bor (List ℕ)) X S) (bs : List ℕ) (w : X) (change : Option X → Option X) → UpdatesBy (λ x y. bytes_eq x.now y.now) (λ k. bytes_eq bs k.now) m n (Some w)
    → Some w ≡ change (value_at m bs) → (t : List ℕ) → value_at n t ≡ (if bytes_eq t bs then change (value_at m t) else value_at m t)
value_at-change {X} m n bs w change u made t = value_at-insert m n bs w u t ∙ by (bytes_eq t bs) refl
  where
    by : (b : Bool) → bytes_eq t bs ≡ b → (if b then Some w else value_at m t) ≡ (if b then change (value_at m t) else value_at m t)
    by true e = made ∙ ap (λ l. change (value_at m l)) (sym ((bytes_eq-Decides t bs).0 e))
    by false e = refl

-- the same of a map that has a value at each spelling, which is `none` where nothing was put in
pub value_or-change : {X S : Type 0} (m n : IndexMap (Bor (List ℕ)) X S) (bs : List ℕ) (w none : X) (change : X → X) → UpdatesBy (λ x y. bytes_eq x.now y.now) (λ k. bytes_eq bs k.now) m n (Some w)
    → w ≡ change (unwrap_or (value_at m bs) none) → (t : List ℕ) → unwrap_or (value_at n t) none ≡ (if bytes_eq t bs then change (unwrap_or (value_at m t) none) else unwrap_or (value_at m t) none)
value_or-change {X} m n bs w none change u made t =
    ap (λ o. unwrap_or o none) (value_at-change m n bs w (λ o. Some (change (unwrap_or o none))) u (ap Some made) t) ∙ by (bytes_eq t bs)
  where
    by : (b : Bool) → unwrap_or (if b then Some (change (unwrap_or (value_at m t) none)) else value_at m t) none ≡ (if b then change (unwrap_or (value_at m t) none) else unwrap_or (value_at m t) none)
    by true = refl
    by false = refl

-- what a set has after a key is put in
pub has-insert : {S : Type 0} (m n : IndexSet (Bor (List ℕ)) S) (k : Bor (List ℕ)) → ((q : Bor (List ℕ)) → contains (λ x y. bytes_eq x.now y.now) n q ≡ cond (bytes_eq k.now q.now) true (contains (λ x y. bytes_eq x.now y.now) m q))
    → (t : List ℕ) → has n t ≡ (has m t || bytes_eq t k.now)
has-insert m n k u t = u q ∙ either (bytes_eq k.now t) (has m t) ∙ ap (λ b. has m t || b) (nat_list_eq_equiv.symm k.now t)
  where
    q : Bor (List ℕ)
    q = record { ref_ptr = (0, 0); now = t }

    either : (a b : Bool) → cond a true b ≡ (b || a)
    either true true = refl
    either true false = refl
    either false true = refl
    either false false = refl
