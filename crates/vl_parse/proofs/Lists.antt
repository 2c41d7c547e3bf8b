-- Lists, step by step.
use Rattle.std.specs.Prelude.{IfOk, IfSome, MatchOption}
use Rattle.std.specs.Borrow.{Bor}
use Rattle.std.proofs.Common.{◌≡◌, ℕ, zero, suc, ◌<◌, ◌≤◌, length, List, [], ◌∷◌, ◌++◌, Result, Ok, Err, Option, Some, None, Bool, true, false, cond, ◌||◌, codes, refl, sym, ap, arith, ◌∙◌}
use Rattle.vl_tree.specs.vl_base.specs.declared.place.Place.{Place}
use Rattle.vl_tree.specs.declared.token.Token.{Token}
use Rattle.vl_tree.specs.Reading.{next_by, is_next, mark}
use Rattle.vl_tree.specs.declared.source_fault.Fault.{Fault}
use Rattle.vl_tree.specs.declared.source_fault.Fault.TheVariants as fault
use Rattle.vl_tree.specs.Parsers.{Outcome, Parser, and_then, ◌>>=◌, pure, with_front, next_or, if_ahead, optional, list, groups, Fails}
use Rattle.vl_pstmt.proofs.Passing.{fails_on, with_front_more, GoesOn, many_turn, many_end, many_fails}
use Rattle.vl_tree.specs.vl_base.proofs.Options.{some_parts}
pub use Rattle.vl_tree.proofs.Shared.{with_front_none as groups_open}

-- a list goes on behind its first item
pub list_opens : {A : Type 0} (p : Parser A) (n : ℕ) (ts us : List Token) (a : A) → p ts ≡ Ok (a, us) → length us < n → GoesOn (mark (codes ",")) (λ _. p) (a ∷ []) us (list p n ts)
unfolding list
list_opens p n ts us a h l = (n, l, rw h refl)

-- a fault in its first item is one of the list
pub list_fails : {A : Type 0} (p : Parser A) (n : ℕ) (ts : List Token) (e : Fault) → Fails e (p ts) → Fails e (list p n ts)
unfolding list
list_fails p n ts e h = fails_on e _ _ h

-- ---- groups

-- what groups are from here on, with these in front and this one unfinished, is the whole
abbrev pub GroupsGoOn : {G : Type 0} → (Token → Bool) → Parser G → (G → Parser G) → List G → G → List Token → Outcome (List G) → Type 0
GroupsGoOn opens head grow front last ts whole = (k : ℕ) × (length ts < k) × (with_front front (groups opens head grow k last ts) ≡ whole)

module _ {G : Type 0} (opens : Token → Bool) (head : Parser G) (grow : G → Parser G) (front : List G) (last : G) (ts : List Token) (whole : Outcome (List G)) where
  -- another group opens
  pub groups_turn : (us vs : List Token) (x : Place) (h : G) → Some (x, us) ≡ next_by (mark (codes ",")) ts → true ≡ is_next opens us → head us ≡ Ok (h, vs) → length vs < length ts
      → GroupsGoOn opens head grow front last ts whole → GroupsGoOn opens head grow (front ++ last ∷ []) h vs whole
  unfolding groups
  groups_turn us vs x h a b c l (zero, m, q) = absurd (omega arith)
  groups_turn us vs x h a b c l (suc k, m, q) = (k, omega arith, with_front_more front last (groups opens head grow k h vs) ∙ (rw (← a, ← b, c) at q))

  -- this group gets another member
  pub groups_grow : (us vs : List Token) (x : Place) (h : G) → Some (x, us) ≡ next_by (mark (codes ",")) ts → false ≡ is_next opens us → grow last us ≡ Ok (h, vs) → length vs < length ts
      → GroupsGoOn opens head grow front last ts whole → GroupsGoOn opens head grow front h vs whole
  unfolding groups
  groups_grow us vs x h a b c l (zero, m, q) = absurd (omega arith)
  groups_grow us vs x h a b c l (suc k, m, q) = (k, omega arith, rw (← a, ← b, c) at q)

  -- the groups end before another token
  pub groups_end : None ≡ next_by (mark (codes ",")) ts → GroupsGoOn opens head grow front last ts whole → whole ≡ Ok (front ++ last ∷ [], ts)
  unfolding groups
  groups_end a (zero, m, q) = absurd (omega arith)
  groups_end a (suc k, m, q) = sym (rw (← a) at q)

  -- a fault in another group's first member is one of the groups
  pub groups_fail : (us : List Token) (x : Place) (e : Fault) → Some (x, us) ≡ next_by (mark (codes ",")) ts → true ≡ is_next opens us → Fails e (head us) → GroupsGoOn opens head grow front last ts whole → Fails e whole
  unfolding groups
  groups_fail us x e a b c (zero, m, q) = absurd (omega arith)
  groups_fail us x e a b c (suc k, m, q) =
      let g : Fails e (with_front front (groups opens head grow (suc k) last ts)) = rw (← a, ← b) (fails_on e _ _ (fails_on e _ _ c)) in
      rw q at g

  -- a fault in this group's further member is one of the groups
  pub growth_fails : (us : List Token) (x : Place) (e : Fault) → Some (x, us) ≡ next_by (mark (codes ",")) ts → false ≡ is_next opens us → Fails e (grow last us) → GroupsGoOn opens head grow front last ts whole → Fails e whole
  unfolding groups
  growth_fails us x e a b c (zero, m, q) = absurd (omega arith)
  growth_fails us x e a b c (suc k, m, q) =
      let g : Fails e (with_front front (groups opens head grow (suc k) last ts)) = rw (← a, ← b) (fails_on e _ _ (fails_on e _ _ c)) in
      rw q at g

-- ---- parts of equal results

ok_parts : {A E : Type 0} (x y : A) → let l : Result A E = Ok x in l ≡ Ok y → x ≡ y
ok_parts x y h = cc

-- what is read beside something is read
beside_ok : {A B : Type 0} (o : Outcome A) (k b : B) (a : A) (vs : List Token) → and_then {B = B × A} o (λ x. pure (k, x)) ≡ Ok ((b, a), vs) → (o ≡ Ok (a, vs)) × (k ≡ b)
beside_ok (Ok (g, us)) k b a vs h =
    let q = ok_parts ((k, g), us) ((b, a), vs) h in
    let r : us ≡ vs = ap (λ z. z.1) q in
    let e : g ≡ a = ap (λ z. z.0.1) q in
    let f : k ≡ b = ap (λ z. z.0.0) q in
    (rw (e, r) refl, f)
beside_ok (Err e) k b a vs h = let z : ⊥ = cc in absurd z

beside_fails : {A B : Type 0} (o : Outcome A) (k : B) (e : Fault) → Fails {A = B × A} e (and_then o (λ x. pure (k, x))) → Fails e o
beside_fails (Ok x) k (fault.At cause us) h = let z : ⊥ = cc in absurd z
beside_fails (Err r) k (fault.At cause us) h = let z : r ≡ (cause, us.now) = cc in rw z refl
beside_fails o k fault.Memory h = tt

module _ {G : Type 0} (opens : Token → Bool) (head : Parser G) (grow : G → Parser G) (front : List G) (last : G) (ts : List Token) (whole : Outcome (List G)) where
  -- the groups and the last one behind a comma
  abbrev pub Step : List Token → Outcome (List G × G)
  Step us = if_ahead {A = List G × G} opens (λ vs. and_then {B = List G × G} (head vs) (λ g. pure (front ++ last ∷ [], g))) (λ vs. and_then {B = List G × G} (grow last vs) (λ g. pure (front, g))) us

module _ {G : Type 0} (opens : Token → Bool) (head : Parser G) (grow : G → Parser G) (front : List G) (last : G) (ts : List Token) (whole : Outcome (List G)) where
  step_by : (us vs : List Token) (x : Place) (b : Bool) (f : List G) (h : G) → b ≡ is_next opens us → Some (x, us) ≡ next_by (mark (codes ",")) ts → cond b (and_then {B = List G × G} (head us) (λ g. pure (front ++ last ∷ [], g))) (and_then {B = List G × G} (grow last us) (λ g. pure (front, g))) ≡ Ok ((f, h), vs) → length vs < length ts
      → GroupsGoOn opens head grow front last ts whole → GroupsGoOn opens head grow f h vs whole
  step_by us vs x true f h q a c l g = let p = beside_ok (head us) (front ++ last ∷ []) f h vs c in rw (← p.1) (groups_turn opens head grow front last ts whole us vs x h a q p.0 l g)
  step_by us vs x false f h q a c l g = let p = beside_ok (grow last us) front f h vs c in rw (← p.1) (groups_grow opens head grow front last ts whole us vs x h a q p.0 l g)

  -- what is left of them behind a comma and what it separates
  pub groups_step : (us vs : List Token) (x : Place) (f : List G) (h : G) → Some (x, us) ≡ next_by (mark (codes ",")) ts → Step opens head grow front last ts whole us ≡ Ok ((f, h), vs) → length vs < length ts
      → GroupsGoOn opens head grow front last ts whole → GroupsGoOn opens head grow f h vs whole
  groups_step us vs x f h a c l g = step_by us vs x (is_next opens us) f h refl a c l g

  step_fails_by : (us : List Token) (x : Place) (b : Bool) (e : Fault) → b ≡ is_next opens us → Some (x, us) ≡ next_by (mark (codes ",")) ts → Fails {A = List G × G} e (cond b (and_then {B = List G × G} (head us) (λ g. pure (front ++ last ∷ [], g))) (and_then {B = List G × G} (grow last us) (λ g. pure (front, g))))
      → GroupsGoOn opens head grow front last ts whole → Fails e whole
  step_fails_by us x true e q a c g = groups_fail opens head grow front last ts whole us x e a q (beside_fails (head us) (front ++ last ∷ []) e c) g
  step_fails_by us x false e q a c g = growth_fails opens head grow front last ts whole us x e a q (beside_fails (grow last us) front e c) g

  -- a fault there is one of the groups
  pub groups_step_fails : (us : List Token) (x : Place) (e : Fault) → Some (x, us) ≡ next_by (mark (codes ",")) ts → Fails e (Step opens head grow front last ts whole us)
      → GroupsGoOn opens head grow front last ts whole → Fails e whole
  groups_step_fails us x e a c g = step_fails_by us x (is_next opens us) e refl a c g

-- ---- lists that grow by what is read

pub added_ok : {A : Type 0} (o : Outcome A) (xs ys : List A) (vs : List Token) → and_then o (λ a. pure (xs ++ a ∷ [])) ≡ Ok (ys, vs) → (a : A) × (o ≡ Ok (a, vs)) × (xs ++ a ∷ [] ≡ ys)
added_ok (Ok (a, us)) xs ys vs h =
    let q = ok_parts (xs ++ a ∷ [], us) (ys, vs) h in
    let r : us ≡ vs = ap (λ z. z.1) q in
    let e : xs ++ a ∷ [] ≡ ys = ap (λ z. z.0) q in
    (a, rw r refl, e)
added_ok (Err e) xs ys vs h = let z : ⊥ = cc in absurd z

pub added_fails : {A : Type 0} (o : Outcome A) (xs : List A) (e : Fault) → Fails e (and_then o (λ a. pure (xs ++ a ∷ []))) → Fails e o
added_fails (Ok x) xs (fault.At cause us) h = let z : ⊥ = cc in absurd z
added_fails (Err r) xs (fault.At cause us) h = let z : r ≡ (cause, us.now) = cc in rw z refl
added_fails o xs fault.Memory h = tt

-- a list goes on behind the first item that it has
pub list_opened : {A : Type 0} (p : Parser A) (n : ℕ) (ts us : List Token) (none front : List A) → none ≡ [] → and_then (p ts) (λ a. pure (none ++ a ∷ [])) ≡ Ok (front, us) → length us < n → GoesOn (mark (codes ",")) (λ _. p) front us (list p n ts)
list_opened p n ts us none front z h l =
    let k : and_then (p ts) (λ a. pure ([] ++ a ∷ [])) ≡ Ok (front, us) = rw z at h in
    let q = added_ok (p ts) [] front us k in
    rw (← q.2) (list_opens p n ts us q.0 q.1 l)

-- what is left of a list after a turn that made it longer
pub list_turned : {X A : Type 0} (f : Token → Option X) (p : X → Parser A) (front longer : List A) (ts us vs : List Token) (x : X) (whole : Outcome (List A)) → Some (x, us) ≡ next_by f ts → and_then (p x us) (λ a. pure (front ++ a ∷ [])) ≡ Ok (longer, vs) → length vs < length ts
    → GoesOn f p front ts whole → GoesOn f p longer vs whole
list_turned f p front longer ts us vs x whole a b l g = let q = added_ok (p x us) front longer vs b in rw (← q.2) (many_turn f p front ts us vs x q.0 whole a q.1 l g)

-- ---- first tokens

pub first_next : (f g : Token → Bool) (ts : List Token) → true ≡ is_next f ts → true ≡ is_next (λ u. f u || g u) ts
first_next f g [] h = h
first_next f g (t ∷ ts) h = rw (← h) refl

pub second_next : (f g : Token → Bool) (ts : List Token) (b : Bool) → false ≡ is_next f ts → b ≡ is_next g ts → b ≡ is_next (λ u. f u || g u) ts
second_next f g [] b h k = k
second_next f g (t ∷ ts) b h k = rw (← h) k

-- ---- lists whose items are read one by one, where there is another

-- what is read, as something that is there
abbrev there : {A : Type 0} → Outcome A → Outcome (Option A)
there o = and_then o (λ a. pure (Some a))

there_ok : {A : Type 0} (o : Outcome A) (a : A) (vs : List Token) → there o ≡ Ok (Some a, vs) → o ≡ Ok (a, vs)
there_ok (Ok x) a vs h =
    let q = ok_parts (Some x.0, x.1) (Some a, vs) h in
    let e : x.0 ≡ a = some_parts x.0 a (ap (λ z. z.0) q) in
    let r : x.1 ≡ vs = ap (λ z. z.1) q in
    rw (e, r) refl
there_ok (Err e) a vs h = let z : ⊥ = cc in absurd z

there_never : {A : Type 0} (o : Outcome A) (vs : List Token) → there o ≡ Ok (None, vs) → ⊥
there_never (Ok x) vs h = let q = ap (λ z. z.0) (ok_parts (Some x.0, x.1) (None, vs) h) in let z : ⊥ = cc in z
there_never (Err e) vs h = let z : ⊥ = cc in z

there_fails : {A : Type 0} (o : Outcome A) (e : Fault) → Fails e (there o) → Fails e o
there_fails (Ok x) (fault.At cause us) h = let z : ⊥ = cc in absurd z
there_fails (Err r) (fault.At cause us) h = let z : r ≡ (cause, us.now) = cc in rw z refl
there_fails o fault.Memory h = tt

module _ {X A : Type 0} (f : Token → Option X) (p : X → Parser A) (front : List A) (ts : List Token) (whole : Outcome (List A)) where
  turn_by : (found : Option (X × List Token)) → found ≡ next_by f ts → (vs : List Token) (a : A) → next_or found (λ x. p x >>= λ b. pure (Some b)) (Ok (None, ts)) ≡ Ok (Some a, vs) → length vs < length ts
      → GoesOn f p front ts whole → GoesOn f p (front ++ a ∷ []) vs whole
  turn_by None q vs a h l g = let z = ap (λ z. z.0) (ok_parts (None, ts) (Some a, vs) h) in let y : ⊥ = cc in absurd y
  turn_by (Some x) q vs a h l g = many_turn f p front ts x.1 vs x.0 a whole q (there_ok (p x.0 x.1) a vs h) l g

  -- what is left after another item
  pub turn : (vs : List Token) (a : A) → optional f p ts ≡ Ok (Some a, vs) → length vs < length ts → GoesOn f p front ts whole → GoesOn f p (front ++ a ∷ []) vs whole
  turn vs a h l g = turn_by (next_by f ts) refl vs a h l g

  end_by : (found : Option (X × List Token)) → found ≡ next_by f ts → (vs : List Token) → next_or found (λ x. p x >>= λ b. pure (Some b)) (Ok (None, ts)) ≡ Ok (None, vs) → GoesOn f p front ts whole → whole ≡ Ok (front, vs)
  end_by None q vs h g = let e : ts ≡ vs = ap (λ z. z.1) (ok_parts (None, ts) (None, vs) h) in rw (← e) (many_end f p front ts whole q g)
  end_by (Some x) q vs h g = absurd (there_never (p x.0 x.1) vs h)

  -- the list ends where there is no other item
  pub end : (vs : List Token) → optional f p ts ≡ Ok (None, vs) → GoesOn f p front ts whole → whole ≡ Ok (front, vs)
  end vs h g = end_by (next_by f ts) refl vs h g

  fail_by : (found : Option (X × List Token)) → found ≡ next_by f ts → (e : Fault) → Fails e (next_or found (λ x. p x >>= λ b. pure (Some b)) (Ok (None, ts))) → GoesOn f p front ts whole → Fails e whole
  fail_by None q (fault.At cause us) h g = let y : ⊥ = cc in absurd y
  fail_by (Some x) q (fault.At cause us) h g = many_fails f p front ts x.1 x.0 (fault.At cause us) whole q (there_fails (p x.0 x.1) (fault.At cause us) h) g
  fail_by found q fault.Memory h g = tt

  -- a fault in another item is one of the list
  pub fail : (e : Fault) → Fails e (optional f p ts) → GoesOn f p front ts whole → Fails e whole
  fail e h g = fail_by (next_by f ts) refl e h g

-- ---- lengths

-- no more is left than there was
pub kept : {A : Type 0} (r : Result (Option A × Bor (List Token)) Fault) (rest ts : List Token) → length rest < length ts → IfOk r (λ x. MatchOption x.0 (length x.1.now ≤ length ts) (λ _. length x.1.now < length rest)) → IfOk r (λ x. length x.1.now ≤ length ts)
kept (Ok (None, us)) rest ts l h = h
kept (Ok (Some a, us)) rest ts l h = omega (arith, h)
kept (Err e) rest ts l h = tt

-- nor where nothing stands before the item
pub kept_here : {A : Type 0} (r : Result (Option A × Bor (List Token)) Fault) (ts : List Token) → IfOk r (λ x. MatchOption x.0 (length x.1.now ≤ length ts) (λ _. length x.1.now < length ts)) → IfOk r (λ x. length x.1.now ≤ length ts)
kept_here (Ok (None, us)) ts h = h
kept_here (Ok (Some a, us)) ts h = omega (arith, h)
kept_here (Err e) ts h = tt

-- and less behind another item
pub another : {A : Type 0} (r : Result (Option A × Bor (List Token)) Fault) (rest ts : List Token) → length rest < length ts → IfOk r (λ x. MatchOption x.0 (length x.1.now ≤ length ts) (λ _. length x.1.now < length rest)) → IfOk r (λ x. IfSome x.0 (λ _. length x.1.now < length ts))
another (Ok (None, us)) rest ts l h = tt
another (Ok (Some a, us)) rest ts l h = omega (arith, h)
another (Err e) rest ts l h = tt

-- less is left than there was, where less is left than some of it
pub sooner : {A : Type 0} (r : Result (A × Bor (List Token)) Fault) (rest ts : List Token) → length rest ≤ length ts → IfOk r (λ x. length x.1.now < length rest) → IfOk r (λ x. length x.1.now < length ts)
sooner (Ok (a, us)) rest ts l h = omega (arith, l, h)
sooner (Err e) rest ts l h = tt
