-- The residents fit together.
use Rattle.std.proofs.Common.{◌≡◌, ℕ, zero, suc, ◌≤◌, List, [], ◌∷◌, ◌++◌, map, take, arith, refl, ap, sym, ◌∙◌, subst, Bool, true, false, cond, Option, Some, None}
use Rattle.std.specs.Prelude.{◌&&◌, not, nat_le, is_some}
use Rattle.ten_core.specs.vl_design.specs.declared.capacity.Cost.{Cost}
use Rattle.ten_core.specs.sub_nodes.specs.Code.{table_of}
use Rattle.ten_core.specs.sub_nodes.specs.Stands.{at_trap}
use Rattle.ten_parcel.specs.ten_shell.specs.declared.shell.Why.{Why}
use Rattle.fab_model.specs.Points.{Point, called, cost_of, cycled, departed, due, ended, kept, saved, served, stopped, waits, run_in}
use Rattle.fab_model.specs.Fabrics.{Fabric, all_served, all_stepped, arrived, can_step, changed, first_of, found, has, held, is_of, joiners, joining, left, may_cycle, plus, rebuilt, stepped, taken, total, within, without}
use Rattle.fab_model.specs.Worlds.{World, Event, Arrive, Cycle, Serve, Hold, Rebuild, Take, Leave, comes, goes, happens, is_at_rest, leaves, serves, takes}
use Rattle.fab_model.specs.Several.{Several, Step, Load, At, Save, Stop, Fit, changes, empty, empty_of, everyone_in, happens_at, run, step}
use Rattle.ten_core.specs.vl_base.proofs.Numbers.{le_true, le_from as true_le}

-- each number of a cost is within the other's
pub record IsWithin (x c : Cost) : Type 0 where
  pub regs : x.regs ≤ c.regs
  pub cells : x.cells ≤ c.cells
  pub mem : x.mem ≤ c.mem

pub within_true : (x c : Cost) → IsWithin x c → within x c ≡ true
within_true x c h =
    ap (λ b. b && (nat_le x.cells c.cells && nat_le x.mem c.mem)) (le_true x.regs c.regs h.regs)
    ∙ ap (λ b. b && nat_le x.mem c.mem) (le_true x.cells c.cells h.cells)
    ∙ le_true x.mem c.mem h.mem

all_three : (a b c : Bool) → (a && (b && c)) ≡ true → (a ≡ true) × (b ≡ true) × (c ≡ true)
all_three true true true e = (refl, refl, refl)
all_three true true false e = cc
all_three true false c e = cc
all_three false b c e = cc

pub is_within : (x c : Cost) → within x c ≡ true → IsWithin x c
is_within x c e =
    let h = all_three (nat_le x.regs c.regs) (nat_le x.cells c.cells) (nat_le x.mem c.mem) e in
    record { regs = true_le x.regs c.regs h.0; cells = true_le x.cells c.cells h.1; mem = true_le x.mem c.mem h.2 }

within_by : (x y c : Cost) → IsWithin x y → IsWithin y c → IsWithin x c
within_by x y c h k = record { regs = omega (arith, h.regs, k.regs); cells = omega (arith, h.cells, k.cells); mem = omega (arith, h.mem, k.mem) }

-- ---- totals

total-append : (xs ys : List Point) → IsWithin (total (xs ++ ys)) (plus (total xs) (total ys))
total-append [] ys = record { regs = omega arith; cells = omega arith; mem = omega arith }
total-append (x ∷ xs) ys = let i = total-append xs ys in record { regs = omega (arith, i.regs); cells = omega (arith, i.cells); mem = omega (arith, i.mem) }

total_without : (t : ℕ) (ps : List Point) → IsWithin (total (without t ps)) (total ps)
total_without t [] = record { regs = omega arith; cells = omega arith; mem = omega arith }
total_without t (p ∷ ps) =
    let i = total_without t ps in
    elim (is_of t p) as (λ b. IsWithin (total (cond b ps (p ∷ without t ps))) (plus (cost_of p) (total ps))) [
      | true ↦ record { regs = omega arith; cells = omega arith; mem = omega arith }
      | false ↦ record { regs = omega (arith, i.regs); cells = omega (arith, i.cells); mem = omega (arith, i.mem) }
    ]

cost_stepped : (holding : Bool) (p : Point) → cost_of (stepped holding p) ≡ cost_of p
cost_stepped holding p = elim (can_step holding p) as (λ b. cost_of (cond b (cycled p) p) ≡ cost_of p) [ true ↦ refl | false ↦ refl ]

total_stepped : (holding : Bool) (ps : List Point) → total (map (stepped holding) ps) ≡ total ps
total_stepped holding [] = refl
total_stepped holding (p ∷ ps) = ap (λ k. plus k (total (map (stepped holding) ps))) (cost_stepped holding p) ∙ ap (λ k. plus (cost_of p) k) (total_stepped holding ps)

cost_served : (p : Point) → cost_of (served p) ≡ cost_of p
cost_served p = elim (at_trap (table_of (run_in p).flat) p.stage) as (λ b. cost_of (cond b (called p) (saved p)) ≡ cost_of p) [ true ↦ refl | false ↦ refl ]

total_served : (t : ℕ) (ps : List Point) → total (changed t served ps) ≡ total ps
total_served t [] = refl
total_served t (p ∷ ps) =
    elim (is_of t p) as (λ b. total (cond b (served p ∷ ps) (p ∷ changed t served ps)) ≡ plus (cost_of p) (total ps)) [
      | true ↦ ap (λ k. plus k (total ps)) (cost_served p)
      | false ↦ ap (λ k. plus (cost_of p) k) (total_served t ps)
    ]

-- ---- who joins

join_step : (c used : Cost) (p : Point) (ps : List Point) (b : Bool) → within (plus used (cost_of p)) c ≡ b → IsWithin used c →
    (IsWithin (plus used (cost_of p)) c → IsWithin (plus (plus used (cost_of p)) (total (take (joiners c (plus used (cost_of p)) ps) ps))) c) →
    IsWithin (plus used (total (take (cond b (suc (joiners c (plus used (cost_of p)) ps)) 0) (p ∷ ps)))) c
join_step c used p ps true e le h =
    let i = h (is_within (plus used (cost_of p)) c e) in
    record { regs = omega (arith, i.regs); cells = omega (arith, i.cells); mem = omega (arith, i.mem) }
join_step c used p ps false e le h = record { regs = omega (arith, le.regs); cells = omega (arith, le.cells); mem = omega (arith, le.mem) }

joiners_fit : (c used : Cost) (ps : List Point) → IsWithin used c → IsWithin (plus used (total (take (joiners c used ps) ps))) c
joiners_fit c used [] le = record { regs = omega (arith, le.regs); cells = omega (arith, le.cells); mem = omega (arith, le.mem) }
joiners_fit c used (p ∷ ps) le = join_step c used p ps (within (plus used (cost_of p)) c) refl le (joiners_fit c (plus used (cost_of p)) ps)

-- ---- events

-- the residents fit a capacity, which stays
pub record FitsIn (c : Cost) (w : World) : Type 0 where
  pub same : w.fabric.capacity ≡ c
  pub fits : IsWithin (total w.fabric.residents) c

came_fits : (c : Cost) (w : World) (t : ℕ) (q : Option Point) → FitsIn c w → FitsIn c (comes w t q)
came_fits c w t None h = h
came_fits c w t (Some p) h =
    let new : World = record { fabric = arrived p w.fabric; transit = without t w.transit } in
    elim (not (is_some (ended p)) && (within (cost_of p) w.fabric.capacity && not (has t w.fabric))) as (λ k. FitsIn c (cond k new w)) [ true ↦ record { same = h.same; fits = h.fits } | false ↦ h ]

serve_fits : (c : Cost) (w : World) (t : ℕ) (q : Option Point) → FitsIn c w → FitsIn c (serves w t q)
serve_fits c w t None h = h
serve_fits c w t (Some p) h =
    let new : World = record w { fabric = all_served t w.fabric } in
    elim (waits p) as (λ k. FitsIn c (cond k new w)) [
      | true ↦ record { same = h.same; fits = subst (λ x. IsWithin x c) (sym (total_served t w.fabric.residents)) h.fits }
      | false ↦ h
    ]

without_fits : (c : Cost) (t : ℕ) (ps : List Point) → IsWithin (total ps) c → IsWithin (total (without t ps)) c
without_fits c t ps h = within_by (total (without t ps)) (total ps) c (total_without t ps) h

took_fits : (c : Cost) (f : Fabric) (transit : List Point) (t : ℕ) (b : Bool) → f.capacity ≡ c → IsWithin (total f.residents) c →
    FitsIn c (record { fabric = cond b (record f { residents = without t f.residents }) (record f { line = without t f.line }); transit = transit })
took_fits c f transit t true same h = record { same = same; fits = without_fits c t f.residents h }
took_fits c f transit t false same h = record { same = same; fits = h }

take_fits : (c : Cost) (w : World) (t : ℕ) (q : Option Point) → FitsIn c w → FitsIn c (takes w t q)
take_fits c w t None h = h
take_fits c w t (Some p) h =
    let new : World = record { fabric = taken t w.fabric; transit = w.transit ++ p ∷ [] } in
    elim (is_at_rest w.fabric) as (λ k. FitsIn c (cond k new w)) [
      | true ↦ took_fits c w.fabric (w.transit ++ p ∷ []) t (is_some (first_of t w.fabric.residents)) h.same h.fits
      | false ↦ h
    ]

went_fits : (c : Cost) (w : World) (t : ℕ) (p : Point) (why : Option Why) → FitsIn c w → FitsIn c (goes w t p why)
went_fits c w t p None h = h
went_fits c w t p (Some why) h =
    let new : World = record { fabric = left t w.fabric; transit = w.transit ++ departed why p ∷ [] } in
    elim (is_at_rest w.fabric) as (λ k. FitsIn c (cond k new w)) [ true ↦ record { same = h.same; fits = without_fits c t w.fabric.residents h.fits } | false ↦ h ]

leave_fits : (c : Cost) (w : World) (t : ℕ) (q : Option Point) → FitsIn c w → FitsIn c (leaves w t q)
leave_fits c w t None h = h
leave_fits c w t (Some p) h = went_fits c w t p (due p) h

joined_fits : (c : Cost) (w : World) → FitsIn c w → FitsIn c (record w { fabric = rebuilt w.fabric })
joined_fits c w h =
    let f = w.fabric in
    let more = take (joining f) f.line in
    let le = subst (λ x. IsWithin (total f.residents) x) (sym h.same) h.fits in
    let j = subst (λ x. IsWithin (plus (total f.residents) (total more)) x) h.same (joiners_fit f.capacity (total f.residents) f.line le) in
    record { same = h.same; fits = within_by (total (f.residents ++ more)) (plus (total f.residents) (total more)) c (total-append f.residents more) j }

fits_behind : (c : Cost) (w : World) (e : Event) → FitsIn c w → FitsIn c (happens w e)
fits_behind c w (Arrive t) h = came_fits c w t (first_of t w.transit) h
fits_behind c w Cycle h =
    let new : World = record w { fabric = all_stepped w.fabric } in
    elim (may_cycle w.fabric) as (λ k. FitsIn c (cond k new w)) [
      | true ↦ record { same = h.same; fits = subst (λ x. IsWithin x c) (sym (total_stepped w.fabric.holding w.fabric.residents)) h.fits }
      | false ↦ h
    ]
fits_behind c w (Serve t) h = serve_fits c w t (first_of t w.fabric.residents) h
fits_behind c w Hold h = elim w.fabric.holding as (λ k. FitsIn c (cond k w (record w { fabric = held w.fabric }))) [ true ↦ h | false ↦ record { same = h.same; fits = h.fits } ]
fits_behind c w Rebuild h = elim (is_at_rest w.fabric) as (λ k. FitsIn c (cond k (record w { fabric = rebuilt w.fabric }) w)) [ true ↦ joined_fits c w h | false ↦ h ]
fits_behind c w (Take t) h = take_fits c w t (found t w.fabric) h
fits_behind c w (Leave t) h = leave_fits c w t (first_of t w.fabric.residents) h

-- ---- several fabrics

fit_at : (g : ℕ) (e : Event) (transit : List Point) (cs : List Cost) (fs : List Fabric) → Fit cs fs → Fit cs (happens_at g e transit fs).fabrics
fit_at g e transit [] [] h = h
fit_at g e transit [] (f ∷ fs) h = absurd h
fit_at g e transit (c ∷ cs) [] h = absurd h
fit_at zero e transit (c ∷ cs) (f ∷ fs) h =
    let w : World = record { fabric = f; transit = transit } in
    let i = fits_behind c w e (record { same = h.0; fits = is_within (total f.residents) c h.1 }) in
    (i.same, within_true (total (happens w e).fabric.residents) c i.fits, h.2)
fit_at (suc g) e transit (c ∷ cs) (f ∷ fs) h = (h.0, h.1, fit_at g e transit cs fs h.2)

fit_changes : (cs : List Cost) (t : ℕ) (f : Point → Point) (w : Several) (q : Option Point) → Fit cs w.fabrics → Fit cs (changes t f w q).fabrics
fit_changes cs t f w None h = h
fit_changes cs t f w (Some p) h = elim (not (is_some (ended p))) as (λ k. Fit cs (cond k (record w { transit = changed t f w.transit }) w).fabrics) [ true ↦ h | false ↦ h ]

fit_step : (cs : List Cost) (w : Several) (x : Step) → Fit cs w.fabrics → Fit cs (step w x).fabrics
fit_step cs w (Load p) h = elim (is_some (first_of p.number (everyone_in w))) as (λ k. Fit cs (cond k w (record w { transit = w.transit ++ p ∷ [] })).fabrics) [ true ↦ h | false ↦ h ]
fit_step cs w (At g e) h = fit_at g e w.transit cs w.fabrics h
fit_step cs w (Save t name) h = fit_changes cs t (kept name) w (first_of t w.transit) h
fit_step cs w (Stop t) h = fit_changes cs t stopped w (first_of t w.transit) h

fit_on : (cs : List Cost) (xs : List Step) (w : Several) → Fit cs w.fabrics → Fit cs (run xs w).fabrics
fit_on cs [] w h = h
fit_on cs (x ∷ xs) w h = fit_on cs xs (step w x) (fit_step cs w x h)

fit_first : (cs : List Cost) → Fit cs (map empty_of cs)
fit_first [] = tt
fit_first (c ∷ cs) = (refl, within_true (total []) c (record { regs = omega arith; cells = omega arith; mem = omega arith }), fit_first cs)

pub always_fit : (cs : List Cost) (steps : List Step) → Fit cs (run steps (empty cs)).fabrics
always_fit cs steps = fit_on cs steps (empty cs) (fit_first cs)
