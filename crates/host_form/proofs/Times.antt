-- Stays by how often each is there.
use Rattle.std.proofs.Common.{◌≡◌, ℕ, ◌<◌, ◌≤◌, Bool, true, false, cond, ◌&&◌, ◌||◌, ◌==◌, nat_lt, if◌then◌else◌, List, [], ◌∷◌, ◌++◌, length, filter, Option, Some, None, refl, sym, subst, ap, ap₂, ◌∙◌, arith}
use Rattle.std.specs.List.{AllByRecursion}
use Rattle.std.proofs.lemmas.Bool.{eqb-true, eq-eqb}
use Rattle.std.proofs.lemmas.Bool.Decides.{nat_tests}
use Rattle.host_form.specs.Histories.{Note, Histories, Visit, history_of, notes_of, is_came, next_left, visit_to, visits_in, visits_on, comes_before, is_same, times, AreOrdered, Chain, AreVisits}
use Rattle.host_text.specs.vl_base.proofs.Numbers.{back_ranks, over_ranks}

-- ---- the same

fields : (v w : Visit) → v.fabric ≡ w.fabric → v.from ≡ w.from → v.to ≡ w.to → v ≡ w
fields v w g a b = λ i. record { fabric = g i; from = a i; to = b i }

three_true : (a b c d e f : ℕ) → ((a == b) && (c == d) && (e == f)) ≡ true → (a ≡ b) × (c ≡ d) × (e ≡ f)
three_true a b c d e f h = (grind (arith, nat_tests), grind (arith, nat_tests), grind (arith, nat_tests))

same-is : (v w : Visit) → is_same v w ≡ true → v ≡ w
same-is v w h = let all = three_true v.fabric w.fabric v.from w.from v.to w.to h in fields v w all.0 all.1 all.2

pub same-self : (v : Visit) → is_same v v ≡ true
same-self v =
    let g = eq-eqb v.fabric v.fabric refl in
    let a = eq-eqb v.from v.from refl in
    let b = eq-eqb v.to v.to refl in
    ap (λ x. x && (v.from == v.from) && (v.to == v.to)) g ∙ ap (λ x. x && (v.to == v.to)) a ∙ b

-- ---- how often

times-self : (v : Visit) (vs : List Visit) → 0 < times v (v ∷ vs)
times-self v vs =
    let e : times v (v ∷ vs) ≡ length (v ∷ filter (is_same v) vs) = ap (λ b. length (cond b (v ∷ filter (is_same v) vs) (filter (is_same v) vs))) (same-self v) in
    omega (arith, e)

times-past : (v w : Visit) (ws : List Visit) → is_same v w ≡ false → times v (w ∷ ws) ≡ times v ws
times-past v w ws h = ap (λ b. length (cond b (w ∷ filter (is_same v) ws) (filter (is_same v) ws))) h

-- what all have, one that is there has
has : (P : Visit → Type 0) (v : Visit) (ws : List Visit) → 0 < times v ws → AllByRecursion P ws → P v
has P v [] l h = absurd (omega (arith, l))
has P v (w ∷ ws) l h = by (is_same v w) refl (λ m. has P v ws m h.1)
  where
    by : (b : Bool) → is_same v w ≡ b → (0 < times v ws → P v) → P v
    by true e rest = subst P (sym (same-is v w e)) h.0
    by false e rest = rest (subst (λ n. 0 < n) (times-past v w ws e) l)

-- one more before both
less_one : (b : Bool) (x y : Visit) (vs ws : List Visit) → length (cond b (x ∷ vs) vs) ≡ length (cond b (y ∷ ws) ws) → length vs ≡ length ws
less_one true x y vs ws e = omega (arith, e)
less_one false x y vs ws e = e

more_one : (b : Bool) (x : Visit) (vs ws : List Visit) → length vs ≡ length ws → length (cond b (x ∷ vs) vs) ≡ length (cond b (x ∷ ws) ws)
more_one true x vs ws e = omega (arith, e)
more_one false x vs ws e = e

-- ---- lists in order

lower : (a b c d e f : ℕ) → (nat_lt a b || ((a == b) && (nat_lt c d || ((c == d) && nat_lt e f)))) ≡ false
    → (nat_lt b a || ((b == a) && (nat_lt d c || ((d == c) && nat_lt f e)))) ≡ false → (e ≡ f) × (a ≡ b) × (c ≡ d)
lower a b c d e f h k = (grind (arith, nat_tests), grind (arith, nat_tests), grind (arith, nat_tests))

neither : (v w : Visit) → comes_before v w ≡ false → comes_before w v ≡ false → v ≡ w
neither v w h k = let all = lower v.from w.from v.to w.to v.fabric w.fabric h k in fields v w all.0 all.1 all.2

three_flip : (a b c d e f : ℕ) → ((a == b) && (c == d) && (e == f)) ≡ false → ((b == a) && (d == c) && (f == e)) ≡ false
three_flip a b c d e f h = grind (arith, nat_tests)

heads : (v w : Visit) (vs ws : List Visit) → ((x : Visit) → times x (v ∷ vs) ≡ times x (w ∷ ws)) → AreOrdered (v ∷ vs) → AreOrdered (w ∷ ws) → v ≡ w
heads v w vs ws h a b = by (is_same v w) refl
  where
    by : (t : Bool) → is_same v w ≡ t → v ≡ w
    by true e = same-is v w e
    by false e =
        let other : is_same w v ≡ false = three_flip v.fabric w.fabric v.from w.from v.to w.to e in
        let there : 0 < times v ws = subst (λ n. 0 < n) (h v ∙ times-past v w ws e) (times-self v vs) in
        let here : 0 < times w vs = subst (λ n. 0 < n) (sym (h w) ∙ times-past w v vs other) (times-self w ws) in
        neither v w (has (λ x. comes_before x w ≡ false) v ws there b.0) (has (λ x. comes_before x v ≡ false) w vs here a.0)

ordered-by-times : (vs ws : List Visit) → ((x : Visit) → times x vs ≡ times x ws) → AreOrdered vs → AreOrdered ws → vs ≡ ws
ordered-by-times [] [] h a b = refl
ordered-by-times [] (w ∷ ws) h a b = absurd (omega (arith, h w, times-self w ws))
ordered-by-times (v ∷ vs) [] h a b = absurd (omega (arith, h v, times-self v vs))
ordered-by-times (v ∷ vs) (w ∷ ws) h a b =
    let same : v ≡ w = heads v w vs ws h a b in
    let both : ((x : Visit) → times x (v ∷ vs) ≡ times x (v ∷ ws)) = λ x. h x ∙ ap (λ y. times x (y ∷ ws)) (sym same) in
    let rest = ordered-by-times vs ws (λ x. less_one (is_same x v) v v (filter (is_same x) vs) (filter (is_same x) ws) (both x)) a.1 b.1 in
    ap₂ (λ x xs. x ∷ xs) same rest

-- ---- a chain that is put in order

put : Visit → List Visit → List Visit
put v [] = v ∷ []
put v (w ∷ ws) = if comes_before w v then w ∷ put v ws else v ∷ w ∷ ws

sorted : List Visit → List Visit
sorted [] = []
sorted (v ∷ vs) = put v (sorted vs)

all-put : (P : Visit → Type 0) (v : Visit) (ws : List Visit) → P v → AllByRecursion P ws → AllByRecursion P (put v ws)
unfolding put
all-put P v [] p h = (p, tt)
all-put P v (w ∷ ws) p h = by (comes_before w v) (all-put P v ws p h.1)
  where
    by : (b : Bool) → AllByRecursion P (put v ws) → AllByRecursion P (if b then w ∷ put v ws else v ∷ w ∷ ws)
    by true rest = (h.0, rest)
    by false rest = (p, h)

all-sorted : (P : Visit → Type 0) (vs : List Visit) → AllByRecursion P vs → AllByRecursion P (sorted vs)
unfolding sorted
all-sorted P [] h = tt
all-sorted P (v ∷ vs) h = all-put P v (sorted vs) h.0 (all-sorted P vs h.1)

-- what comes before another doesn't come behind it
back : (w v : Visit) → comes_before w v ≡ true → comes_before v w ≡ false
back w v h = back_ranks w.from v.from w.to v.to w.fabric v.fabric h

-- what doesn't come before w doesn't come before v, which w doesn't come before
over : (w v x : Visit) → comes_before w v ≡ false → comes_before x w ≡ false → comes_before x v ≡ false
over w v x p q = over_ranks w.from v.from x.from w.to v.to x.to w.fabric v.fabric x.fabric p q

all-over : (w v : Visit) (ws : List Visit) → comes_before w v ≡ false → AllByRecursion (λ x. comes_before x w ≡ false) ws → AllByRecursion (λ x. comes_before x v ≡ false) ws
all-over w v [] p h = tt
all-over w v (x ∷ ws) p h = (over w v x p h.0, all-over w v ws p h.1)

ordered-put : (v : Visit) (ws : List Visit) → AreOrdered ws → AreOrdered (put v ws)
unfolding put
ordered-put v [] h = (tt, tt)
ordered-put v (w ∷ ws) h = by (comes_before w v) refl (ordered-put v ws h.1)
  where
    by : (b : Bool) → comes_before w v ≡ b → AreOrdered (put v ws) → AreOrdered (if b then w ∷ put v ws else v ∷ w ∷ ws)
    by true e rest = (all-put (λ x. comes_before x w ≡ false) v ws (back w v e) h.0, rest)
    by false e rest = ((e, all-over w v ws e h.0), h)

ordered-sorted : (vs : List Visit) → AreOrdered (sorted vs)
unfolding sorted
ordered-sorted [] = tt
ordered-sorted (v ∷ vs) = ordered-put v (sorted vs) (ordered-sorted vs)

swap_two : (a b : Bool) (x y : Visit) (zs : List Visit) → length (cond a (x ∷ cond b (y ∷ zs) zs) (cond b (y ∷ zs) zs)) ≡ length (cond b (y ∷ cond a (x ∷ zs) zs) (cond a (x ∷ zs) zs))
swap_two true true x y zs = refl
swap_two true false x y zs = refl
swap_two false true x y zs = refl
swap_two false false x y zs = refl

times-put : (x v : Visit) (ws : List Visit) → times x (put v ws) ≡ times x (v ∷ ws)
unfolding put
times-put x v [] = refl
times-put x v (w ∷ ws) = by (comes_before w v) (times-put x v ws)
  where
    by : (b : Bool) → times x (put v ws) ≡ times x (v ∷ ws) → times x (if b then w ∷ put v ws else v ∷ w ∷ ws) ≡ times x (v ∷ w ∷ ws)
    by true same =
        more_one (is_same x w) w (filter (is_same x) (put v ws)) (filter (is_same x) (v ∷ ws)) same
        ∙ swap_two (is_same x w) (is_same x v) w v (filter (is_same x) ws)
    by false same = refl

times-sorted : (x : Visit) (vs : List Visit) → times x (sorted vs) ≡ times x vs
unfolding sorted
times-sorted x [] = refl
times-sorted x (v ∷ vs) =
    times-put x v (sorted vs) ∙ more_one (is_same x v) v (filter (is_same x) (sorted vs)) (filter (is_same x) vs) (times-sorted x vs)

-- of two stays in a chain the second comes first only where neither takes time
idle_ranks : (a b c d e f : ℕ) → (nat_lt a b || ((a == b) && (nat_lt c d || ((c == d) && nat_lt e f)))) ≡ true → a ≡ d → b ≤ d → a ≤ c → (a ≡ b) × (c ≡ b) × (d ≡ b)
idle_ranks a b c d e f h k l m = (grind (arith, nat_tests), grind (arith, nat_tests), grind (arith, nat_tests))

Goes : Visit → Type 0
Goes v = v.from ≤ v.to

chain-put : (from to : ℕ) (v : Visit) (ws : List Visit) → Chain from (v ∷ ws) to → Goes v → AllByRecursion Goes ws → Chain from (put v ws) to
unfolding put Goes
chain-put from to v [] h p k = h
chain-put from to v (w ∷ ws) h p k = by (comes_before w v) refl (λ c. chain-put w.to to v ws c p k.1)
  where
    by : (b : Bool) → comes_before w v ≡ b → (Chain w.to (v ∷ ws) to → Chain w.to (put v ws) to) → Chain from (if b then w ∷ put v ws else v ∷ w ∷ ws) to
    by false e rest = h
    by true e rest =
        let idle = idle_ranks w.from v.from w.to v.to w.fabric v.fabric e h.1.0 p k.0 in
        let on : Chain v.to ws to = subst (λ j. Chain j ws to) (idle.1 ∙ sym idle.2) h.1.1 in
        (idle.0 ∙ h.0, rest (sym idle.1, on))

chain-sorted : (from to : ℕ) (vs : List Visit) → Chain from vs to → AllByRecursion Goes vs → Chain from (sorted vs) to
unfolding sorted
chain-sorted from to [] h k = h
chain-sorted from to (v ∷ vs) h k = chain-put from to v (sorted vs) (h.0, chain-sorted v.to to vs h.1 k.1) k.0 (all-sorted Goes vs k.1)

-- ---- fabric by fabric

abbrev on : ℕ → Visit → Bool
on g v = v.fabric == g

-- one of the fabric is there as often as among all
times-there : (g : ℕ) (x : Visit) (vs : List Visit) → on g x ≡ true → times x (filter (on g) vs) ≡ times x vs
times-there g x [] e = refl
times-there g x (v ∷ vs) e = by (on g v) refl (times-there g x vs e)
  where
    other_ranks : (a b c d e f g : ℕ) → (a == g) ≡ true → (b == g) ≡ false → ((a == b) && (c == d) && (e == f)) ≡ false
    other_ranks a b c d e f g h k = grind (arith, nat_tests)

    by : (b : Bool) → on g v ≡ b → times x (filter (on g) vs) ≡ times x vs → times x (cond b (v ∷ filter (on g) vs) (filter (on g) vs)) ≡ times x (v ∷ vs)
    by true s same = more_one (is_same x v) v (filter (is_same x) (filter (on g) vs)) (filter (is_same x) vs) same
    by false s same = same ∙ sym (times-past x v vs (other_ranks x.fabric v.fabric x.from v.from x.to v.to g e s))

-- stays that are, fabric by fabric, just those of the histories
pub each-by-lists : (histories : Histories) (tenant : ℕ) (visits : List Visit) → ((g : ℕ) → filter (λ v. v.fabric == g) visits ≡ visits_on histories tenant g)
    → (v : Visit) → times v visits ≡ times v (visits_on histories tenant v.fabric)
each-by-lists histories tenant visits h v = sym (times-there v.fabric v visits (eq-eqb v.fabric v.fabric refl)) ∙ ap (λ vs. times v vs) (h v.fabric)

pub visits-by-times : (histories : Histories) (tenant from to : ℕ) (trail visits : List Visit)
    → Chain from trail to → AllByRecursion (λ v. v.from ≤ v.to) trail → ((v : Visit) → times v trail ≡ times v (visits_on histories tenant v.fabric))
    → AreOrdered visits → ((v : Visit) → times v visits ≡ times v trail) → AreVisits histories tenant from to visits
unfolding Goes
visits-by-times histories tenant from to trail visits chain goes all ordered same =
    let put_in_order : sorted trail ≡ visits =
    ordered-by-times (sorted trail) visits (λ x. times-sorted x trail ∙ sym (same x)) (ordered-sorted trail) ordered in
    record {
      each = λ v. same v ∙ all v;
      ordered = ordered;
      chain = subst (λ vs. Chain from vs to) put_in_order (chain-sorted from to trail chain goes);
    }

-- ---- one list

pub visits-once : (histories : Histories) (tenant from to start end : ℕ) (vs ws : List Visit) → AreVisits histories tenant from to vs → AreVisits histories tenant start end ws → vs ≡ ws
visits-once histories tenant from to start end vs ws a b =
    ordered-by-times vs ws (λ x. a.each x ∙ sym (b.each x)) a.ordered b.ordered
