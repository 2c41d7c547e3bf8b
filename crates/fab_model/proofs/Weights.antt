-- What all of a list weigh together, before and behind each event.
use Rattle.std.proofs.Common.{◌≡◌, ℕ, zero, suc, ◌+◌, ◌≤◌, List, [], ◌∷◌, ◌++◌, map, take, drop, arith, refl, ap, sym, ◌∙◌, subst, Bool, true, false, cond, Option, Some, None}
use Rattle.std.specs.Prelude.{◌&&◌, not, is_some}
use Rattle.std.proofs.lemmas.List.{take-append-drop}
use Rattle.ten_parcel.specs.ten_shell.specs.declared.shell.Why.{Why}
use Rattle.fab_model.specs.Points.{Point, cost_of, cycled, departed, due, ended, kept, served, stopped, waits}
use Rattle.fab_model.specs.Fabrics.{Fabric, all_served, all_stepped, arrived, can_step, changed, first_of, found, has, held, is_of, joining, left, may_cycle, rebuilt, stepped, taken, within, without}
use Rattle.fab_model.specs.Worlds.{World, Event, Arrive, Cycle, Serve, Hold, Rebuild, Take, Leave, comes, everyone, goes, happens, is_at_rest, leaves, serves, takes, weight}
use Rattle.fab_model.specs.Several.{Several, Step, Load, At, Save, Stop, among, changes, everyone_in, happens_at, step}

pub weight-append : (m : Point → ℕ) (xs ys : List Point) → weight m (xs ++ ys) ≡ weight m xs + weight m ys
weight-append m [] ys = omega arith
weight-append m (x ∷ xs) ys = let i = weight-append m xs ys in omega (arith, i)

-- what is taken out weighs what was left out
pub weight-without : (m : Point → ℕ) (t : ℕ) (ps : List Point) (p : Point) → first_of t ps ≡ Some p → weight m (without t ps) + m p ≡ weight m ps
weight-without m t [] p e = cc
weight-without m t (q ∷ ps) p e = at_head m t q ps p (is_of t q) e (weight-without m t ps p)
  where
    at_head : (m : Point → ℕ) (t : ℕ) (q : Point) (ps : List Point) (p : Point) (b : Bool) → cond b (Some q) (first_of t ps) ≡ Some p → (first_of t ps ≡ Some p → weight m (without t ps) + m p ≡ weight m ps) →
        weight m (cond b ps (q ∷ without t ps)) + m p ≡ m q + weight m ps
    at_head m t q ps p true e h = let same : q ≡ p = cc in let k = ap m same in omega (arith, k)
    at_head m t q ps p false e h = let i = h e in omega (arith, i)

pub weight-everyone : (m : Point → ℕ) (w : World) → weight m (everyone w) ≡ weight m w.transit + (weight m w.fabric.residents + weight m w.fabric.line)
weight-everyone m w = weight-append m w.transit (w.fabric.residents ++ w.fabric.line) ∙ ap (λ k. weight m w.transit + k) (weight-append m w.fabric.residents w.fabric.line)

-- all of several fabrics and in transit
pub weight-everyone-in : (m : Point → ℕ) (w : Several) → weight m (everyone_in w) ≡ weight m w.transit + weight m (among w.fabrics)
weight-everyone-in m w = weight-append m w.transit (among w.fabrics)

-- one is loaded
pub weight-loaded : (m : Point → ℕ) (w : Several) (p : Point) → weight m (everyone_in (record w { transit = w.transit ++ p ∷ [] })) ≡ weight m (everyone_in w) + m p
weight-loaded m w p =
    let new : Several = record w { transit = w.transit ++ p ∷ [] } in
    let a = weight-everyone-in m w in
    let b = weight-everyone-in m new in
    let d = weight-append m w.transit (p ∷ []) in
    omega (arith, a, b, d)

-- a relation in which each number stands to itself, and sums whose parts stand in it
pub record OfSums (R : ℕ → ℕ → Type 0) : Type 0 where
  pub same : (a : ℕ) → R a a
  pub sum : (a b c d : ℕ) → R a c → R b d → R (a + b) (c + d)

pub equal : OfSums (λ a b. a ≡ b)
equal = record { same = λ a. refl; sum = λ a b c d p q. omega (arith, p, q) }

pub at_most : OfSums (λ a b. a ≤ b)
at_most = record { same = λ a. omega arith; sum = λ a b c d p q. omega (arith, p, q) }

-- a point's weight stands so to its weight behind each step
pub record Steps (R : ℕ → ℕ → Type 0) (m : Point → ℕ) : Type 0 where
  pub cycles : (p : Point) → R (m p) (m (cycled p))
  pub serves : (p : Point) → R (m p) (m (served p))
  pub departs : (why : Why) (p : Point) → R (m p) (m (departed why p))
  pub keeps : (name : List ℕ) (p : Point) → R (m p) (m (kept name p))
  pub stops : (p : Point) → R (m p) (m (stopped p))

abbrev pub is_load : Step → Bool
is_load (Load p) = true
is_load s = false

module _ (R : ℕ → ℕ → Type 0) (o : OfSums R) (m : Point → ℕ) (s : Steps R m) where
  same_as : (a b : ℕ) → b ≡ a → R a b
  same_as a b e = subst (λ k. R a k) (sym e) (o.same a)

  point_stepped : (holding : Bool) (p : Point) → R (m p) (m (stepped holding p))
  point_stepped holding p = elim (can_step holding p) as (λ b. R (m p) (m (cond b (cycled p) p))) [ true ↦ s.cycles p | false ↦ o.same (m p) ]

  pub weight_stepped : (holding : Bool) (ps : List Point) → R (weight m ps) (weight m (map (stepped holding) ps))
  weight_stepped holding [] = o.same 0
  weight_stepped holding (p ∷ ps) =
      o.sum (m p) (weight m ps) (m (stepped holding p)) (weight m (map (stepped holding) ps)) (point_stepped holding p) (weight_stepped holding ps)

  -- one of a list changes
  weight_changed : (f : Point → Point) → ((p : Point) → R (m p) (m (f p))) → (t : ℕ) (ps : List Point) → R (weight m ps) (weight m (changed t f ps))
  weight_changed f h t [] = o.same 0
  weight_changed f h t (p ∷ ps) =
      elim (is_of t p) as (λ b. R (m p + weight m ps) (weight m (cond b (f p ∷ ps) (p ∷ changed t f ps)))) [
        | true ↦ o.sum (m p) (weight m ps) (m (f p)) (weight m ps) (h p) (o.same (weight m ps))
        | false ↦ o.sum (m p) (weight m ps) (m p) (weight m (changed t f ps)) (o.same (m p)) (weight_changed f h t ps)
      ]

  pub weight_served : (t : ℕ) (ps : List Point) → R (weight m ps) (weight m (changed t served ps))
  weight_served t ps = weight_changed served s.serves t ps

  -- the residents alone change
  weight_inside : (w new : World) → new.transit ≡ w.transit → new.fabric.line ≡ w.fabric.line → R (weight m w.fabric.residents) (weight m new.fabric.residents) → R (weight m (everyone w)) (weight m (everyone new))
  weight_inside w new t l h =
      let a = weight-everyone m w in
      let b = weight-everyone m new ∙ ap (λ ps. weight m ps + (weight m new.fabric.residents + weight m new.fabric.line)) t
      ∙ ap (λ ps. weight m w.transit + (weight m new.fabric.residents + weight m ps)) l in
      let i = o.sum (weight m w.fabric.residents) (weight m w.fabric.line) (weight m new.fabric.residents) (weight m w.fabric.line) h (o.same (weight m w.fabric.line)) in
      let j = o.sum (weight m w.transit) (weight m w.fabric.residents + weight m w.fabric.line) (weight m w.transit) (weight m new.fabric.residents + weight m w.fabric.line) (o.same (weight m w.transit)) i in
      subst (λ k. R k (weight m (everyone new))) (sym a) (subst (λ k. R (weight m w.transit + (weight m w.fabric.residents + weight m w.fabric.line)) k) (sym b) j)

  came : (w : World) (t : ℕ) (q : Option Point) → first_of t w.transit ≡ q → weight m (everyone (comes w t q)) ≡ weight m (everyone w)
  came w t None e = refl
  came w t (Some p) e =
      let f = w.fabric in
      let new : World = record { fabric = arrived p f; transit = without t w.transit } in
      let a = weight-everyone m w in
      let b = weight-everyone m new in
      let c = weight-without m t w.transit p e in
      let d = weight-append m f.line (p ∷ []) in
      elim (not (is_some (ended p)) && (within (cost_of p) f.capacity && not (has t f))) as (λ k. weight m (everyone (cond k new w)) ≡ weight m (everyone w)) [ true ↦ omega (arith, a, b, c, d) | false ↦ refl ]

  serve : (w : World) (t : ℕ) (q : Option Point) → R (weight m (everyone w)) (weight m (everyone (serves w t q)))
  serve w t None = o.same (weight m (everyone w))
  serve w t (Some p) =
      let new : World = record w { fabric = all_served t w.fabric } in
      elim (waits p) as (λ k. R (weight m (everyone w)) (weight m (everyone (cond k new w)))) [
        | true ↦ weight_inside w new refl refl (weight_served t w.fabric.residents)
        | false ↦ o.same (weight m (everyone w))
      ]

  -- the residents and the line, with what was taken from them
  took : (f : Fabric) (t : ℕ) (p : Point) (b : Bool) → cond b (first_of t f.residents) (first_of t f.line) ≡ Some p →
      (weight m (cond b (record f { residents = without t f.residents }) (record f { line = without t f.line })).residents + weight m (cond b (record f { residents = without t f.residents }) (record f { line = without t f.line })).line) + m p
      ≡ weight m f.residents + weight m f.line
  took f t p true e = let i = weight-without m t f.residents p e in omega (arith, i)
  took f t p false e = let i = weight-without m t f.line p e in omega (arith, i)

  takes_out : (w : World) (t : ℕ) (q : Option Point) → found t w.fabric ≡ q → weight m (everyone (takes w t q)) ≡ weight m (everyone w)
  takes_out w t None e = refl
  takes_out w t (Some p) e =
      let f = w.fabric in
      let new : World = record { fabric = taken t f; transit = w.transit ++ p ∷ [] } in
      let a = weight-everyone m w in
      let b = weight-everyone m new in
      let c = took f t p (is_some (first_of t f.residents)) e in
      let d = weight-append m w.transit (p ∷ []) in
      elim (is_at_rest f) as (λ k. weight m (everyone (cond k new w)) ≡ weight m (everyone w)) [ true ↦ omega (arith, a, b, c, d) | false ↦ refl ]

  went_away : (w : World) (t : ℕ) (p : Point) (why : Why) → first_of t w.fabric.residents ≡ Some p →
      R (weight m (everyone w)) (weight m (everyone (record { fabric = left t w.fabric; transit = w.transit ++ departed why p ∷ [] })))
  went_away w t p why e =
      let f = w.fabric in
      let new : World = record { fabric = left t f; transit = w.transit ++ departed why p ∷ [] } in
      let others = weight m w.transit + (weight m (without t f.residents) + weight m f.line) in
      let a = weight-everyone m w in
      let b = weight-everyone m new in
      let c = weight-without m t f.residents p e in
      let d = weight-append m w.transit (departed why p ∷ []) in
      let before : others + m p ≡ weight m (everyone w) = omega (arith, a, c) in
      let behind : others + m (departed why p) ≡ weight m (everyone new) = omega (arith, b, d) in
      subst (λ k. R k (weight m (everyone new))) before
      (subst (λ k. R (others + m p) k) behind (o.sum others (m p) others (m (departed why p)) (o.same others) (s.departs why p)))

  went : (w : World) (t : ℕ) (p : Point) (why : Option Why) → first_of t w.fabric.residents ≡ Some p → R (weight m (everyone w)) (weight m (everyone (goes w t p why)))
  went w t p None e = o.same (weight m (everyone w))
  went w t p (Some why) e =
      let new : World = record { fabric = left t w.fabric; transit = w.transit ++ departed why p ∷ [] } in
      elim (is_at_rest w.fabric) as (λ k. R (weight m (everyone w)) (weight m (everyone (cond k new w)))) [ true ↦ went_away w t p why e | false ↦ o.same (weight m (everyone w)) ]

  leave : (w : World) (t : ℕ) (q : Option Point) → first_of t w.fabric.residents ≡ q → R (weight m (everyone w)) (weight m (everyone (leaves w t q)))
  leave w t None e = o.same (weight m (everyone w))
  leave w t (Some p) e = went w t p (due p) e

  joined : (w : World) → weight m (everyone (record w { fabric = rebuilt w.fabric })) ≡ weight m (everyone w)
  joined w =
      let f = w.fabric in
      let n = joining f in
      let new : World = record w { fabric = rebuilt f } in
      let a = weight-everyone m w in
      let b = weight-everyone m new in
      let c = weight-append m f.residents (take n f.line) in
      let d = weight-append m (take n f.line) (drop n f.line) in
      let e = ap (weight m) (take-append-drop n f.line) in
      omega (arith, a, b, c, d, e)

  -- each event
  pub weight_behind : (w : World) (e : Event) → R (weight m (everyone w)) (weight m (everyone (happens w e)))
  weight_behind w (Arrive t) = same_as _ _ (came w t (first_of t w.transit) refl)
  weight_behind w Cycle =
      let new : World = record w { fabric = all_stepped w.fabric } in
      elim (may_cycle w.fabric) as (λ k. R (weight m (everyone w)) (weight m (everyone (cond k new w)))) [
        | true ↦ weight_inside w new refl refl (weight_stepped w.fabric.holding w.fabric.residents)
        | false ↦ o.same (weight m (everyone w))
      ]
  weight_behind w (Serve t) = serve w t (first_of t w.fabric.residents)
  weight_behind w Hold =
      elim w.fabric.holding as (λ k. R (weight m (everyone w)) (weight m (everyone (cond k w (record w { fabric = held w.fabric }))))) [ true ↦ o.same (weight m (everyone w)) | false ↦ o.same (weight m (everyone w)) ]
  weight_behind w Rebuild =
      elim (is_at_rest w.fabric) as (λ k. R (weight m (everyone w)) (weight m (everyone (cond k (record w { fabric = rebuilt w.fabric }) w)))) [
        | true ↦ same_as _ _ (joined w)
        | false ↦ o.same (weight m (everyone w))
      ]
  weight_behind w (Take t) = same_as _ _ (takes_out w t (found t w.fabric) refl)
  weight_behind w (Leave t) = leave w t (first_of t w.fabric.residents) refl

  -- ---- several fabrics

  -- an event at one of these fabrics
  weight_at : (g : ℕ) (e : Event) (transit : List Point) (fs : List Fabric) →
      R (weight m transit + weight m (among fs)) (weight m (happens_at g e transit fs).transit + weight m (among (happens_at g e transit fs).fabrics))
  weight_at g e transit [] = o.same (weight m transit + 0)
  weight_at zero e transit (f ∷ fs) =
      let w : World = record { fabric = f; transit = transit } in
      let new = happens w e in
      let others = weight m (among fs) in
      let i = o.sum (weight m (everyone w)) others (weight m (everyone new)) others (weight_behind w e) (o.same others) in
      let a = weight-append m transit (f.residents ++ f.line) in
      let b = weight-append m new.transit (new.fabric.residents ++ new.fabric.line) in
      let c = weight-append m (f.residents ++ f.line) (among fs) in
      let d = weight-append m (new.fabric.residents ++ new.fabric.line) (among fs) in
      let before : weight m (everyone w) + others ≡ weight m transit + weight m ((f.residents ++ f.line) ++ among fs) = omega (arith, a, c) in
      let behind : weight m (everyone new) + others ≡ weight m new.transit + weight m ((new.fabric.residents ++ new.fabric.line) ++ among fs) = omega (arith, b, d) in
      subst (λ k. R k (weight m new.transit + weight m ((new.fabric.residents ++ new.fabric.line) ++ among fs))) before (subst (λ k. R (weight m (everyone w) + others) k) behind i)
  weight_at (suc g) e transit (f ∷ fs) =
      let w = happens_at g e transit fs in
      let own = weight m (f.residents ++ f.line) in
      let i = o.sum own (weight m transit + weight m (among fs)) own (weight m w.transit + weight m (among w.fabrics)) (o.same own) (weight_at g e transit fs) in
      let c = weight-append m (f.residents ++ f.line) (among fs) in
      let d = weight-append m (f.residents ++ f.line) (among w.fabrics) in
      let before : own + (weight m transit + weight m (among fs)) ≡ weight m transit + weight m ((f.residents ++ f.line) ++ among fs) = omega (arith, c) in
      let behind : own + (weight m w.transit + weight m (among w.fabrics)) ≡ weight m w.transit + weight m ((f.residents ++ f.line) ++ among w.fabrics) = omega (arith, d) in
      subst (λ k. R k (weight m w.transit + weight m ((f.residents ++ f.line) ++ among w.fabrics))) before (subst (λ k. R (own + (weight m transit + weight m (among fs))) k) behind i)

  -- the same of all who are somewhere
  weight_among : (w new : Several) → R (weight m w.transit + weight m (among w.fabrics)) (weight m new.transit + weight m (among new.fabrics)) → R (weight m (everyone_in w)) (weight m (everyone_in new))
  weight_among w new h =
      subst (λ k. R k (weight m (everyone_in new))) (sym (weight-everyone-in m w))
      (subst (λ k. R (weight m w.transit + weight m (among w.fabrics)) k) (sym (weight-everyone-in m new)) h)

  -- one in transit changes
  weight_changes : (f : Point → Point) → ((p : Point) → R (m p) (m (f p))) → (t : ℕ) (w : Several) (q : Option Point) → R (weight m (everyone_in w)) (weight m (everyone_in (changes t f w q)))
  weight_changes f h t w None = o.same (weight m (everyone_in w))
  weight_changes f h t w (Some p) =
      let new : Several = record w { transit = changed t f w.transit } in
      let others = weight m (among w.fabrics) in
      elim (not (is_some (ended p))) as (λ k. R (weight m (everyone_in w)) (weight m (everyone_in (cond k new w)))) [
        | true ↦ weight_among w new (o.sum (weight m w.transit) others (weight m (changed t f w.transit)) others (weight_changed f h t w.transit) (o.same others))
        | false ↦ o.same (weight m (everyone_in w))
      ]

  -- each step but a load
  pub weight_step : (w : Several) (x : Step) → is_load x ≡ false → R (weight m (everyone_in w)) (weight m (everyone_in (step w x)))
  weight_step w (Load p) no_load = cc
  weight_step w (At g e) no_load = weight_among w (happens_at g e w.transit w.fabrics) (weight_at g e w.transit w.fabrics)
  weight_step w (Save t name) no_load = weight_changes (kept name) (s.keeps name) t w (first_of t w.transit)
  weight_step w (Stop t) no_load = weight_changes stopped s.stops t w (first_of t w.transit)
