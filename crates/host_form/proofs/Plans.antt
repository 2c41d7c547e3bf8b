-- Plans and the errands of the script.
use Rattle.std.proofs.Common.{◌≡◌, ℕ, ◌≤◌, Bool, true, false, cond, ◌&&◌, ◌||◌, ◌==◌, nat_lt, not, List, [], ◌∷◌, ◌++◌, map, filter, refl, sym, ap, ◌∙◌}
use Rattle.std.specs.List.{AllByRecursion}
use Rattle.std.proofs.lemmas.Bool.{ltb-false}
use Rattle.host_text.specs.vl_design.specs.Cost.{Cost}
use Rattle.host_text.specs.vl_design.specs.Alone.{stops, stop_at, save_name, save_names}
use Rattle.host_text.specs.ten_plan.specs.declared.plan.Due.{Due}
use Rattle.host_text.specs.ten_plan.specs.declared.plan.Due.TheVariants as due
use Rattle.host_text.specs.ten_plan.specs.declared.plan.Errand.{Errand}
use Rattle.host_text.specs.declared.script.FabricLine.{FabricLine}
use Rattle.host_text.specs.declared.script.TenantLine.{TenantLine}
use Rattle.host_text.specs.Scripts.{comes_before, is_save}
use Rattle.host_text.specs.Laws.{AreOrdered}
use Rattle.host_text.specs.ten_plan.specs.Plans.{due_of, errand_of}
use Rattle.host_form.specs.Origins.{is_planned, plan_of}
use Rattle.host_form.specs.Laws.{AreAscending}

-- ---- order

no_earlier : (y x : Errand) → comes_before y x ≡ false → x.tick ≤ y.tick
no_earlier y x h = by (nat_lt y.tick x.tick) refl h
  where
    by : (b : Bool) → nat_lt y.tick x.tick ≡ b → (b || (y.tick == x.tick && is_save y.due && not (is_save x.due))) ≡ false → x.tick ≤ y.tick
    by true e h = let z : ⊥ = cc in absurd z
    by false e h = ltb-false y.tick x.tick e

later : (p : Errand → Bool) (x : Errand) (es : List Errand) → AllByRecursion (λ y. comes_before y x ≡ false) es → AllByRecursion (λ f. x.tick ≤ f.tick) (map errand_of (filter p es))
later p x [] h = tt
later p x (e ∷ es) h = by (p e) (later p x es h.1)
  where
    by : (b : Bool) → AllByRecursion (λ f. x.tick ≤ f.tick) (map errand_of (filter p es)) → AllByRecursion (λ f. x.tick ≤ f.tick) (map errand_of (cond b (e ∷ filter p es) (filter p es)))
    by true rest = (no_earlier e x h.0, rest)
    by false rest = rest

ascending : (p : Errand → Bool) (es : List Errand) → AreOrdered es → AreAscending (map errand_of (filter p es))
ascending p [] h = tt
ascending p (e ∷ es) h = by (p e) (ascending p es h.1)
  where
    by : (b : Bool) → AreAscending (map errand_of (filter p es)) → AreAscending (map errand_of (cond b (e ∷ filter p es) (filter p es)))
    by true rest = (later p e es h.0, rest)
    by false rest = rest

pub plan-ascends : (fabrics : List FabricLine) (c : Cost) (t : TenantLine) → AreOrdered t.errands → AreAscending (plan_of fabrics c t).errands
plan-ascends fabrics c t h = ascending (λ e. is_planned fabrics c e.due) t.errands h

-- ---- all, and none

filter_all : {X : Type 0} (p : X → Bool) (xs : List X) → AllByRecursion (λ x. p x ≡ true) xs → filter p xs ≡ xs
filter_all p [] h = refl
filter_all p (x ∷ xs) h = ap (λ b. cond b (x ∷ filter p xs) (filter p xs)) h.0 ∙ ap (λ ys. x ∷ ys) (filter_all p xs h.1)

pub plan-all : (fabrics : List FabricLine) (c : Cost) (t : TenantLine) → AllByRecursion (λ e. is_planned fabrics c e.due ≡ true) t.errands → (plan_of fabrics c t).errands ≡ map errand_of t.errands
plan-all fabrics c t h = ap (λ es. map errand_of es) (filter_all (λ e. is_planned fabrics c e.due) t.errands h)

pub plan-none : (fabrics : List FabricLine) (c : Cost) (t : TenantLine) → t.errands ≡ [] → (plan_of fabrics c t).errands ≡ []
plan-none fabrics c t h = ap (λ es. map errand_of (filter (λ e. is_planned fabrics c e.due) es)) h

-- ---- stops and saves

module _ (fabrics : List FabricLine) (c : Cost) (k : ℕ) where
  abbrev planned : Errand → Bool
  planned e = is_planned fabrics c e.due

  no_stop : (t : Bool) (d : Due) → is_planned fabrics c d ≡ false → (t && stops (due_of d)) ≡ false
  no_stop false d h = refl
  no_stop true (due.Save name) h = let z : ⊥ = cc in absurd z
  no_stop true due.Stop h = let z : ⊥ = cc in absurd z
  no_stop true (due.Move g) h = refl

  stops_kept : (es : List Errand) → stop_at k (map errand_of (filter planned es)) ≡ stop_at k (map errand_of es)
  stops_kept [] = refl
  stops_kept (e ∷ es) = by (planned e) refl (stops_kept es)
    where
      by : (b : Bool) → planned e ≡ b → stop_at k (map errand_of (filter planned es)) ≡ stop_at k (map errand_of es)
          → stop_at k (map errand_of (cond b (e ∷ filter planned es) (filter planned es))) ≡ stop_at k (map errand_of (e ∷ es))
      by true h same = ap (λ z. ((e.tick == k) && stops (due_of e.due)) || z) same
      by false h same = same ∙ sym (ap (λ z. z || stop_at k (map errand_of es)) (no_stop (e.tick == k) e.due h))

  no_save : (t : ℕ) (d : Due) → is_planned fabrics c d ≡ false → save_name k t (due_of d) ≡ []
  no_save t (due.Save name) h = let z : ⊥ = cc in absurd z
  no_save t due.Stop h = let z : ⊥ = cc in absurd z
  no_save t (due.Move g) h = refl

  saves_kept : (es : List Errand) → save_names k (map errand_of (filter planned es)) ≡ save_names k (map errand_of es)
  saves_kept [] = refl
  saves_kept (e ∷ es) = by (planned e) refl (saves_kept es)
    where
      by : (b : Bool) → planned e ≡ b → save_names k (map errand_of (filter planned es)) ≡ save_names k (map errand_of es)
          → save_names k (map errand_of (cond b (e ∷ filter planned es) (filter planned es))) ≡ save_names k (map errand_of (e ∷ es))
      by true h same = ap (λ ns. save_name k e.tick (due_of e.due) ++ ns) same
      by false h same = same ∙ sym (ap (λ ns. ns ++ save_names k (map errand_of es)) (no_save e.tick e.due h))

pub plan-stops : (fabrics : List FabricLine) (c : Cost) (t : TenantLine) (k : ℕ) → stop_at k (plan_of fabrics c t).errands ≡ stop_at k (map errand_of t.errands)
plan-stops fabrics c t k = stops_kept fabrics c k t.errands

pub plan-saves : (fabrics : List FabricLine) (c : Cost) (t : TenantLine) (k : ℕ) → save_names k (plan_of fabrics c t).errands ≡ save_names k (map errand_of t.errands)
plan-saves fabrics c t k = saves_kept fabrics c k t.errands
