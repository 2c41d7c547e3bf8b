-- Each tenant is in one place, and its acts never become fewer.
use Rattle.std.proofs.Common.{◌≡◌, ℕ, suc, ◌+◌, ◌≤◌, List, [], ◌∷◌, ◌++◌, map, arith, refl, ap, sym, ◌∙◌, subst, Bool, true, false, cond, Some, None}
use Rattle.std.specs.Prelude.{if◌then◌else◌, ◌||◌, is_some, nat_lt, ◌==◌}
use Rattle.std.proofs.lemmas.Bool.Decides.{nat_tests}
use Rattle.ten_core.specs.vl_design.specs.declared.capacity.Cost.{Cost}
use Rattle.ten_core.specs.declared.origin.Origin.{Origin}
use Rattle.ten_core.specs.sub_nodes.specs.Code.{table_of}
use Rattle.ten_core.specs.sub_nodes.specs.Stands.{at_trap}
use Rattle.ten_core.specs.Runs.{after_cycle}
use Rattle.ten_parcel.specs.ten_shell.specs.declared.shell.Why.{Why}
use Rattle.ten_parcel.specs.ten_shell.specs.declared.shell.Why.TheVariants.{Ended, Move}
use Rattle.fab_model.specs.Points.{Point, called, cycled, departed, saved, run_in, order_in}
use Rattle.fab_model.specs.Fabrics.{first_of, is_of}
use Rattle.fab_model.specs.Worlds.{weight}
use Rattle.fab_model.specs.Several.{Several, Step, Load, acts_of, among, empty, empty_of, everyone_in, loaded, loaded_after, loads, places_of, run, step}
use Rattle.fab_model.proofs.Weights.{Steps, at_most, equal, is_load, weight-append, weight-loaded, weight_step}

-- ---- the acts

acts_cycled : (p : Point) → p.acts ≤ (cycled p).acts
acts_cycled p = elim (at_trap (table_of (run_in p).flat) (after_cycle (run_in p) (order_in p) p.stage)) as (λ b. p.acts ≤ cond b p.acts (suc p.acts)) [ true ↦ omega arith | false ↦ omega arith ]

acts_departed : (t : ℕ) (why : Why) (p : Point) → (if is_of t p then p.acts else 0) ≤ (if is_of t (departed why p) then (departed why p).acts else 0)
acts_departed t (Move fabric) p = omega arith
acts_departed t (Ended end) p = omega arith

acts_grow : (t : ℕ) → Steps (λ a b. a ≤ b) (λ p. if is_of t p then p.acts else 0)
acts_grow t = record {
  cycles = λ p. let i = acts_cycled p in elim (is_of t p) as (λ b. cond b p.acts 0 ≤ cond b (cycled p).acts 0) [ true ↦ i | false ↦ omega arith ];
  serves = λ p. elim (at_trap (table_of (run_in p).flat) p.stage) as (λ k. cond (is_of t p) p.acts 0 ≤ cond (is_of t (cond k (called p) (saved p))) (cond k (called p) (saved p)).acts 0) [
    | true ↦ elim (is_of t p) as (λ b. cond b p.acts 0 ≤ cond b (suc p.acts) 0) [ true ↦ omega arith | false ↦ omega arith ]
    | false ↦ omega arith
  ];
  departs = acts_departed t;
  keeps = λ name p. omega arith;
  stops = λ p. omega arith;
}

grows : (t : ℕ) (w : Several) (x : Step) → acts_of t w ≤ acts_of t (step w x)
grows t w (Load p) =
    let new : Several = record w { transit = w.transit ++ p ∷ [] } in
    let l = weight-loaded (λ q. if is_of t q then q.acts else 0) w p in
    elim (is_some (first_of p.number (everyone_in w))) as (λ k. acts_of t w ≤ acts_of t (cond k w new)) [ true ↦ omega arith | false ↦ omega (arith, l) ]
grows t w x = weight_step (λ a b. a ≤ b) at_most (λ p. if is_of t p then p.acts else 0) (acts_grow t) w x refl

grows_on : (t : ℕ) (xs : List Step) (w : Several) → acts_of t w ≤ acts_of t (run xs w)
grows_on t [] w = omega arith
grows_on t (x ∷ xs) w = let a = grows t w x in let b = grows_on t xs (step w x) in omega (arith, a, b)

run-append : (xs ys : List Step) (w : Several) → run (xs ++ ys) w ≡ run ys (run xs w)
run-append [] ys w = refl
run-append (x ∷ xs) ys w = run-append xs ys (step w x)

pub never_fewer : (cs : List Cost) (t : ℕ) (early late : List Step) → acts_of t (run early (empty cs)) ≤ acts_of t (run (early ++ late) (empty cs))
never_fewer cs t early late =
    let a = grows_on t late (run early (empty cs)) in
    let b = ap (acts_of t) (run-append early late (empty cs)) in
    omega (arith, a, b)

-- ---- the same numbers and runs

-- of a weight that depends on number and run alone, both weigh the same
pub record Alike (ps qs : List Point) : Type 0 where
  pub weights : (m : ℕ → Origin → ℕ) → weight (λ p. m p.number p.origin) ps ≡ weight (λ p. m p.number p.origin) qs

keeps_departed : (m : ℕ → Origin → ℕ) (why : Why) (p : Point) → m p.number p.origin ≡ m (departed why p).number (departed why p).origin
keeps_departed m (Move fabric) p = refl
keeps_departed m (Ended end) p = refl

pub keeps : (m : ℕ → Origin → ℕ) → Steps (λ a b. a ≡ b) (λ p. m p.number p.origin)
keeps m = record {
  cycles = λ p. refl;
  serves = λ p. elim (at_trap (table_of (run_in p).flat) p.stage) as (λ k. m p.number p.origin ≡ m (cond k (called p) (saved p)).number (cond k (called p) (saved p)).origin) [ true ↦ refl | false ↦ refl ];
  departs = keeps_departed m;
  keeps = λ name p. refl;
  stops = λ p. refl;
}

-- one is there where it has a place
some_there : (t : ℕ) (ps : List Point) → is_some (first_of t ps) ≡ nat_lt 0 (places_of t ps)
some_there t [] = refl
some_there t (p ∷ ps) =
    let i = some_there t ps in
    let n = places_of t ps in
    let more : nat_lt 0 (1 + n) ≡ true = grind (arith, nat_tests) in
    let same : n ≡ 0 + n = omega arith in
    elim (is_of t p) as (λ b. is_some (cond b (Some p) (first_of t ps)) ≡ nat_lt 0 (cond b 1 0 + n)) [ true ↦ sym more | false ↦ i ∙ ap (nat_lt 0) same ]

places_alike : (t : ℕ) (ps qs : List Point) → Alike ps qs → places_of t ps ≡ places_of t qs
places_alike t ps qs h = h.weights (λ n o. if n == t then 1 else 0)

pub there_alike : (t : ℕ) (ps qs : List Point) → Alike ps qs → is_some (first_of t ps) ≡ is_some (first_of t qs)
there_alike t ps qs h = some_there t ps ∙ ap (nat_lt 0) (places_alike t ps qs h) ∙ sym (some_there t qs)

pub alike_loaded : (w : Several) (p : Point) (ps : List Point) → Alike (everyone_in w) ps → Alike (everyone_in (loads w p)) (if is_some (first_of p.number ps) then ps else ps ++ p ∷ [])
alike_loaded w p ps h =
    let new : Several = record w { transit = w.transit ++ p ∷ [] } in
    let there = is_some (first_of p.number (everyone_in w)) in
    subst (λ b. Alike (everyone_in (cond there w new)) (cond b ps (ps ++ p ∷ []))) (there_alike p.number (everyone_in w) ps h)
    (elim there as (λ b. Alike (everyone_in (cond b w new)) (cond b ps (ps ++ p ∷ []))) [
      | true ↦ h
      | false ↦ record {
        weights = λ m.
            let a = weight-loaded (λ q. m q.number q.origin) w p in
            let b = weight-append (λ q. m q.number q.origin) ps (p ∷ []) in
            let i = h.weights m in
            omega (arith, a, b, i);
      }
    ])

pub alike_behind : (w : Several) (x : Step) (ps : List Point) → is_load x ≡ false → Alike (everyone_in w) ps → Alike (everyone_in (step w x)) ps
alike_behind w x ps no_load h = record { weights = λ m. sym (weight_step (λ a b. a ≡ b) equal (λ p. m p.number p.origin) (keeps m) w x no_load) ∙ h.weights m }

alike_on : (xs : List Step) (w : Several) (ps : List Point) → Alike (everyone_in w) ps → Alike (everyone_in (run xs w)) (loaded_after ps xs)
alike_on [] w ps h = h
alike_on (Load p ∷ xs) w ps h = alike_on xs (loads w p) (if is_some (first_of p.number ps) then ps else ps ++ p ∷ []) (alike_loaded w p ps h)
alike_on (x ∷ xs) w ps h = alike_on xs (step w x) ps (alike_behind w x ps refl h)

nobody : (m : Point → ℕ) (cs : List Cost) → weight m (among (map empty_of cs)) ≡ 0
nobody m [] = refl
nobody m (c ∷ cs) = nobody m cs

pub alike_first : (cs : List Cost) → Alike (everyone_in (empty cs)) []
alike_first cs = record { weights = λ m. nobody (λ p. m p.number p.origin) cs }

pub same_loaded : (cs : List Cost) (m : ℕ → Origin → ℕ) (steps : List Step) → weight (λ p. m p.number p.origin) (everyone_in (run steps (empty cs))) ≡ weight (λ p. m p.number p.origin) (loaded steps)
same_loaded cs m steps = (alike_on steps (empty cs) [] (alike_first cs)).weights m

-- ---- one place

-- no number stands twice
record Distinct (ps : List Point) : Type 0 where
  once : (t : ℕ) → places_of t ps ≡ (if is_some (first_of t ps) then 1 else 0)

there-append : (t : ℕ) (ps : List Point) (p : Point) → is_some (first_of t (ps ++ p ∷ [])) ≡ (is_some (first_of t ps) || is_of t p)
there-append t [] p = elim (is_of t p) as (λ b. is_some (cond b (Some p) None) ≡ b) [ true ↦ refl | false ↦ refl ]
there-append t (q ∷ ps) p =
    elim (is_of t q) as (λ b. is_some (cond b (Some q) (first_of t (ps ++ p ∷ []))) ≡ (is_some (cond b (Some q) (first_of t ps)) || is_of t p)) [ true ↦ refl | false ↦ there-append t ps p ]

one_or_none : (x y : Bool) → (y ≡ true → x ≡ false) → cond x 1 0 + (cond y 1 0 + 0) ≡ cond (x || y) 1 0
one_or_none true true h = let e = h refl in cc
one_or_none true false h = refl
one_or_none false y h = omega arith

distinct_more : (p : Point) (ps : List Point) → Distinct ps → is_some (first_of p.number ps) ≡ false → Distinct (ps ++ p ∷ [])
distinct_more p ps d new = record {
  once = λ t.
      let apart : is_of t p ≡ true → is_some (first_of t ps) ≡ false = λ e. (let same : p.number ≡ t = grind (arith, nat_tests, e) in subst (λ k. is_some (first_of k ps) ≡ false) same new) in
      let a = weight-append (λ q. if is_of t q then 1 else 0) ps (p ∷ []) in
      let b = ap (λ n. n + (cond (is_of t p) 1 0 + 0)) (d.once t) in
      a ∙ b ∙ one_or_none (is_some (first_of t ps)) (is_of t p) apart ∙ ap (λ k. cond k 1 0) (sym (there-append t ps p));
}

distinct_loaded : (p : Point) (ps : List Point) (b : Bool) → is_some (first_of p.number ps) ≡ b → Distinct ps → Distinct (cond b ps (ps ++ p ∷ []))
distinct_loaded p ps true e d = d
distinct_loaded p ps false e d = distinct_more p ps d e

distinct_after : (es : List Step) (ps : List Point) → Distinct ps → Distinct (loaded_after ps es)
distinct_after [] ps d = d
distinct_after (Load p ∷ es) ps d = distinct_after es (if is_some (first_of p.number ps) then ps else ps ++ p ∷ []) (distinct_loaded p ps (is_some (first_of p.number ps)) refl d)
distinct_after (e ∷ es) ps d = distinct_after es ps d

pub one_place : (cs : List Cost) (t : ℕ) (steps : List Step) → places_of t (everyone_in (run steps (empty cs))) ≡ (if is_some (first_of t (loaded steps)) then 1 else 0)
one_place cs t steps =
    places_alike t (everyone_in (run steps (empty cs))) (loaded steps) (alike_on steps (empty cs) [] (alike_first cs))
    ∙ (distinct_after steps [] (record { once = λ k. refl })).once t
