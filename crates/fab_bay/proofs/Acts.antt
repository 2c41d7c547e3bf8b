-- Each act of a resident comes nearer to its end.
use Rattle.std.proofs.Common.{◌≡◌, ℕ, ◌+◌, ◌-◌, ◌*◌, ◌<◌, ◌≤◌, Bool, true, false, List, [], ◌∷◌, Option, Some, None, length, map, refl, sym, ap, ◌∙◌, subst, arith}
use Rattle.std.specs.Prelude.{◌&&◌, ◌||◌, not, is_some, if◌then◌else◌, slice_get, nat_le}
use Rattle.vl_design.specs.Alone.{Origin, stop_at}
use Rattle.ten_core.specs.cell_form.specs.Data.{BankData}
use Rattle.fab_core.specs.fab_join.specs.Parts.{PartData}
use Rattle.ten_core.specs.sub_nodes.specs.Code.{table_of}
use Rattle.ten_core.specs.sub_nodes.specs.Cycles.{rises, Stage}
use Rattle.ten_core.specs.sub_nodes.specs.Stands.{at_trap}
use Rattle.ten_core.specs.sub_runs.specs.Left.{left, most_left}
use Rattle.ten_core.specs.declared.origin.Origin.{Origin as From}
use Rattle.ten_core.specs.Runs.{after_call, after_cycle}
use Rattle.ten_core.specs.Tenants.{origin_of}
use Rattle.ten_core.specs.Running.{goes_on, to_come, IsRunning}
use Rattle.fab_core.specs.ten_shell.specs.declared.shell.Shell.{Shell}
use Rattle.fab_core.specs.ten_shell.specs.declared.shell.Why.{Why}
use Rattle.fab_core.specs.ten_shell.specs.Leaving.{why_in}
use Rattle.fab_core.specs.ten_shell.specs.Shells.{flat_in, is_at_boundary, is_left, left_in}
use Rattle.fab_core.specs.fab_model.specs.Points.{but_first, called, cycled, due, is_there, order_in, rests, run_in, saved, served, waits, Point}
use Rattle.fab_core.specs.fab_model.specs.Fabrics.{all_served, all_stepped, can_step, changed, first_of, first_waiting, held, is_of, stepped, Fabric}
use Rattle.fab_core.specs.fab_model.specs.Worlds.{is_at_rest, weight}
use Rattle.fab_core.specs.declared.cores.FabCore.{FabCore}
use Rattle.fab_core.specs.declared.resident.Resident.{Resident}
use Rattle.fab_core.specs.Standing.{AreStanding, IsFabric, IsPoint}
use Rattle.fab_core.proofs.Looks.{all_rest, still-is}
use Rattle.fab_bay.specs.Acts.{acts_in, acts_of, saves_in, saves_of}
use Rattle.fab_bay.proofs.Steps.{rising, running}

-- ---- what is still to come, by points

abbrev pub acts_at : Point → ℕ
acts_at p = to_come (run_in p).flat (run_in p).plan.budget p.stage

abbrev pub saves_at : Point → ℕ
saves_at p = if is_there p then length p.left else 0

abbrev coming : Origin → (ticks next : ℕ) → ℕ
coming o ticks next = (o.plan.budget - ticks) * most_left (table_of o.flat) + left (table_of o.flat) next

acts-one : (s : Shell) (b : BankData) (p : Point) → IsPoint s b p → acts_of s ≡ acts_at p
acts-one s b p h =
    ap (λ (y : From). coming (origin_of y) s.engine.ticks s.engine.next) h.origin
    ∙ (ap (λ (t : ℕ). coming (run_in p) t s.engine.next) h.stands.at.ticks ∙ ap (λ (n : ℕ). coming (run_in p) p.stage.state.ticks n) h.stands.at.next)

many-by : (u t : Bool) (xs ys : List (List ℕ)) → u ≡ t → (t ≡ true → xs ≡ ys) → (if u then length xs else 0) ≡ (if t then length ys else 0)
many-by true true xs ys e f = ap length (f refl)
many-by true false xs ys e f = let z : ⊥ = cc in absurd z
many-by false true xs ys e f = let z : ⊥ = cc in absurd z
many-by false false xs ys e f = refl

saves-one : (s : Shell) (b : BankData) (p : Point) → IsPoint s b p → saves_of s ≡ saves_at p
saves-one s b p h =
    let at : is_at_boundary (flat_in s) p.stage ≡ is_there p = ap (λ (y : From). is_at_boundary (origin_of y).flat p.stage) h.origin in
    many-by (not s.engine.finished && rises (slice_get (table_of (flat_in s)).nodes s.engine.next)) (is_there p) (left_in s) p.left
    (ap (λ (v : Bool). not v && rises (slice_get (table_of (flat_in s)).nodes s.engine.next)) h.stands.at.finished
    ∙ (ap (λ (n : ℕ). not p.stage.state.finished && rises (slice_get (table_of (flat_in s)).nodes n)) h.stands.at.next ∙ at))
    (λ e. h.left (at ∙ e))

acts-all : (j : List PartData) (rs : List Resident) (ps : List Point) → AreStanding j rs ps → acts_in rs ≡ weight acts_at ps
acts-all j [] [] h = refl
acts-all j [] (p ∷ ps) h = absurd h
acts-all j (r ∷ rs) [] h = absurd h
acts-all j (r ∷ rs) (p ∷ ps) h =
    let a = acts-one r.tenant.shell _ p h.0.point in
    let b = acts-all j rs ps h.1 in
    omega (arith, a, b)

saves-all : (j : List PartData) (rs : List Resident) (ps : List Point) → AreStanding j rs ps → saves_in rs ≡ weight saves_at ps
saves-all j [] [] h = refl
saves-all j [] (p ∷ ps) h = absurd h
saves-all j (r ∷ rs) [] h = absurd h
saves-all j (r ∷ rs) (p ∷ ps) h =
    let a = saves-one r.tenant.shell _ p h.0.point in
    let b = saves-all j rs ps h.1 in
    omega (arith, a, b)

pub acts-by : (x : FabCore) (f : Fabric) → IsFabric x f → acts_in x.residents.items ≡ weight acts_at f.residents
acts-by x f h = acts-all x.joined x.residents.items f.residents h.residents

saves-by : (x : FabCore) (f : Fabric) → IsFabric x f → saves_in x.residents.items ≡ weight saves_at f.residents
saves-by x f h = saves-all x.joined x.residents.items f.residents h.residents

-- ---- a cycle while the fabric holds

abbrev pub CycleNearerLaw : Type 0
CycleNearerLaw = (o : Origin) (order : List ℕ) (c : ℕ) (i : Stage) → IsRunning o order c i → goes_on o.plan o.flat i ≡ true → at_trap (table_of o.flat) i ≡ false →
    to_come o.flat o.plan.budget (after_cycle o order i) < to_come o.flat o.plan.budget i

-- one that may step waits at no call and goes on
goes-step : (tr fin ri lf d b s : Bool) → (not (tr || ((not fin && ri) && lf)) && (not d && not (true && (fin || (ri && not lf))))) ≡ true → (tr ≡ false) × ((not fin && (not ri || not (b || s))) ≡ true)
goes-step true fin ri lf d b s e = let z : ⊥ = cc in absurd z
goes-step false true ri lf true b s e = let z : ⊥ = cc in absurd z
goes-step false true ri lf false b s e = let z : ⊥ = cc in absurd z
goes-step false false true true d b s e = let z : ⊥ = cc in absurd z
goes-step false false true false true b s e = let z : ⊥ = cc in absurd z
goes-step false false true false false b s e = let z : ⊥ = cc in absurd z
goes-step false false false lf d b s e = (refl, refl)

pub may-step : (w r : Bool) (o : Option Why) → w ≡ false → r ≡ false → (not w && (not (is_some (if r then o else None)) && not (true && r))) ≡ true
may-step true r o e f = let z : ⊥ = cc in absurd z
may-step false true o e f = let z : ⊥ = cc in absurd z
may-step false false o e f = refl

cycled-fewer : CycleNearerLaw → (p : Point) → IsRunning (run_in p) (order_in p) p.acts p.stage → can_step true p ≡ true → acts_at (cycled p) < acts_at p
cycled-fewer law p run e =
    let s = p.stage.state in
    let plan = (run_in p).plan in
    let g = goes-step (at_trap (table_of (run_in p).flat) p.stage) s.finished (rising p) (is_left p.left) (is_some (due p)) (nat_le plan.budget s.ticks) (stop_at s.ticks plan.errands) e in
    law (run_in p) (order_in p) p.acts p.stage run g.1 g.0

stepped-most : CycleNearerLaw → (p : Point) → IsRunning (run_in p) (order_in p) p.acts p.stage → acts_at (stepped true p) ≤ acts_at p
stepped-most law p run = by (can_step true p) refl
  where
    by : (v : Bool) → can_step true p ≡ v → acts_at (if v then cycled p else p) ≤ acts_at p
    by true e = let lt = cycled-fewer law p run e in omega (arith, lt)
    by false e = omega arith

stepped-fewer : CycleNearerLaw → (p : Point) → IsRunning (run_in p) (order_in p) p.acts p.stage → waits p ≡ false → rests p ≡ false → acts_at (stepped true p) < acts_at p
stepped-fewer law p run w r =
    let e : can_step true p ≡ true = may-step (waits p) (rests p) (why_in (run_in p).plan p.stopped p.moved p.stage.state) w r in
    subst (λ (v : Bool). acts_at (if v then cycled p else p) < acts_at p) (sym e) (cycled-fewer law p run e)

all-most : CycleNearerLaw → (j : List PartData) (rs : List Resident) (ps : List Point) → AreStanding j rs ps → weight acts_at (map (stepped true) ps) ≤ weight acts_at ps
all-most law j [] [] h = omega arith
all-most law j [] (p ∷ ps) h = absurd h
all-most law j (r ∷ rs) [] h = absurd h
all-most law j (r ∷ rs) (p ∷ ps) h =
    let a = stepped-most law p (running r.tenant.shell _ p h.0.point) in
    let b = all-most law j rs ps h.1 in
    omega (arith, a, b)

pub none-waits : (w : Bool) (n : ℕ) (o : Option ℕ) → (if w then Some n else o) ≡ None → (w ≡ false) × (o ≡ None)
none-waits true n o e = let z : ⊥ = cc in absurd z
none-waits false n o e = (refl, e)

-- nobody waits, and not all rest
all-fewer : CycleNearerLaw → (j : List PartData) (rs : List Resident) (ps : List Point) → AreStanding j rs ps → first_waiting ps ≡ None → all_rest ps ≡ false
    → weight acts_at (map (stepped true) ps) < weight acts_at ps
all-fewer law j rs [] h quiet e = let z : ⊥ = cc in absurd z
all-fewer law j [] (p ∷ ps) h quiet e = absurd h
all-fewer law j (r ∷ rs) (p ∷ ps) h quiet e =
    let q = none-waits (waits p) p.number (first_waiting ps) quiet in
    by (rests p) refl e q.0 (all-fewer law j rs ps h.1 q.1)
  where
    run : IsRunning (run_in p) (order_in p) p.acts p.stage
    run = running r.tenant.shell _ p h.0.point

    by : (v : Bool) → rests p ≡ v → (v && all_rest ps) ≡ false → waits p ≡ false → (all_rest ps ≡ false → weight acts_at (map (stepped true) ps) < weight acts_at ps)
        → weight acts_at (map (stepped true) (p ∷ ps)) < weight acts_at (p ∷ ps)
    by true i e w more =
        let a = stepped-most law p run in
        let b = more e in
        omega (arith, a, b)
    by false i e w more =
        let a = stepped-fewer law p run w i in
        let b = all-most law j rs ps h.1 in
        omega (arith, a, b)

pub cycle-nearer : CycleNearerLaw → (x y : FabCore) (f : Fabric) → IsFabric x (held f) → IsFabric y (all_stepped (held f)) → first_waiting f.residents ≡ None → is_at_rest (held f) ≡ false
    → acts_in y.residents.items < acts_in x.residents.items
cycle-nearer law x y f h k quiet e =
    let a = acts-by x (held f) h in
    let b = acts-by y (all_stepped (held f)) k in
    let c = all-fewer law x.joined x.residents.items f.residents h.residents quiet (sym (still-is (held f)) ∙ e) in
    omega (arith, a, b, c)

-- ---- what is served

abbrev pub CallNearerLaw : Type 0
CallNearerLaw = (o : Origin) (order : List ℕ) (c : ℕ) (i : Stage) → IsRunning o order c i → at_trap (table_of o.flat) i ≡ true → to_come o.flat o.plan.budget (after_call o i) < to_come o.flat o.plan.budget i

weight-served : (m : Point → ℕ) (t : ℕ) (ps : List Point) (p : Point) → first_of t ps ≡ Some p → weight m (changed t served ps) + m p ≡ weight m ps + m (served p)
weight-served m t [] p e = let z : ⊥ = cc in absurd z
weight-served m t (q ∷ ps) p e = by (is_of t q) e (weight-served m t ps p)
  where
    by : (v : Bool) → (if v then Some q else first_of t ps) ≡ Some p → (first_of t ps ≡ Some p → weight m (changed t served ps) + m p ≡ weight m ps + m (served p))
        → weight m (if v then served q ∷ ps else q ∷ changed t served ps) + m p ≡ weight m (q ∷ ps) + m (served p)
    by true e h =
        let same : q ≡ p = cc in
        let a = ap m same in
        let b = ap (λ (z : Point). m (served z)) same in
        omega (arith, a, b)
    by false e h = let a = h e in omega (arith, a)

run-first : (t : ℕ) (j : List PartData) (rs : List Resident) (ps : List Point) (p : Point) → AreStanding j rs ps → first_of t ps ≡ Some p → IsRunning (run_in p) (order_in p) p.acts p.stage
run-first t j rs [] p h e = let z : ⊥ = cc in absurd z
run-first t j [] (q ∷ ps) p h e = absurd h
run-first t j (r ∷ rs) (q ∷ ps) p h e = by (is_of t q) e (run-first t j rs ps p h.1)
  where
    by : (v : Bool) → (if v then Some q else first_of t ps) ≡ Some p → (first_of t ps ≡ Some p → IsRunning (run_in p) (order_in p) p.acts p.stage) → IsRunning (run_in p) (order_in p) p.acts p.stage
    by true e h2 = let same : q ≡ p = cc in subst (λ (z : Point). IsRunning (run_in z) (order_in z) z.acts z.stage) same (running r.tenant.shell _ q h.0.point)
    by false e h2 = h2 e

-- a call
pub call-nearer : CallNearerLaw → (t : ℕ) (x y : FabCore) (f : Fabric) (p : Point) → IsFabric x f → IsFabric y (all_served t f) → first_of t f.residents ≡ Some p → at_trap (table_of (run_in p).flat) p.stage ≡ true
    → acts_in y.residents.items < acts_in x.residents.items
call-nearer law t x y f p h k first trap =
    let a = acts-by x f h in
    let b = acts-by y (all_served t f) k in
    let c = weight-served acts_at t f.residents p first in
    let run = run-first t x.joined x.residents.items f.residents p h.residents first in
    let d : acts_at (served p) < acts_at p
    = subst (λ (v : Bool). acts_at (if v then called p else saved p) < acts_at p) (sym trap) (law (run_in p) (order_in p) p.acts p.stage run trap) in
    omega (arith, a, b, c, d)

one-less : (names : List (List ℕ)) → is_left names ≡ true → length (but_first names) < length names
one-less [] l = let z : ⊥ = cc in absurd z
one-less (name ∷ names) l = omega arith

fewer-by : (t a : Bool) (names : List (List ℕ)) → (t || (a && is_left names)) ≡ true → t ≡ false → (if a then length (but_first names) else 0) < (if a then length names else 0)
fewer-by true a names w e = let z : ⊥ = cc in absurd z
fewer-by false true names w e = one-less names w
fewer-by false false names w e = let z : ⊥ = cc in absurd z

-- a snapshot
module _ (t : ℕ) (x y : FabCore) (f : Fabric) (p : Point) (h : IsFabric x f) (k : IsFabric y (all_served t f)) (first : first_of t f.residents ≡ Some p) (still : at_trap (table_of (run_in p).flat) p.stage ≡ false) where
  pub save-along : acts_in y.residents.items ≡ acts_in x.residents.items
  save-along =
      let a = acts-by x f h in
      let b = acts-by y (all_served t f) k in
      let c = weight-served acts_at t f.residents p first in
      let d : acts_at (served p) ≡ acts_at p = ap (λ (v : Bool). acts_at (if v then called p else saved p)) still in
      omega (arith, a, b, c, d)

  pub save-fewer : waits p ≡ true → saves_in y.residents.items < saves_in x.residents.items
  save-fewer w =
      let a = saves-by x f h in
      let b = saves-by y (all_served t f) k in
      let c = weight-served saves_at t f.residents p first in
      let d : saves_at (served p) < saves_at p
      = subst (λ (v : Bool). saves_at (if v then called p else saved p) < saves_at p) (sym still) (fewer-by (at_trap (table_of (run_in p).flat) p.stage) (is_there p) p.left w still) in
      omega (arith, a, b, c, d)

-- ---- answers

pub trap-by : (saved trap : Bool) → saved ≡ not trap → saved ≡ false → trap ≡ true
trap-by saved true e f = refl
trap-by saved false e f = let z : ◌≡◌ true false = sym e ∙ f in let y : ⊥ = cc in absurd y

pub still-by : (saved trap : Bool) → saved ≡ not trap → saved ≡ true → trap ≡ false
still-by saved true e f = let z : ◌≡◌ false true = sym e ∙ f in let y : ⊥ = cc in absurd y
still-by saved false e f = refl

-- a fabric that holds is as it is held
pub held-by : (f : Fabric) → f.holding ≡ true → held f ≡ f
held-by f e = ap (λ (v : Bool). record f { holding = v }) (sym e)
