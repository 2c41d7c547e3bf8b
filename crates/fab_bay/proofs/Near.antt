-- How many ticks tenants have begun, call by call.
use Rattle.std.proofs.Common.{◌≡◌, ℕ, ◌+◌, ◌-◌, ◌≤◌, Bool, true, false, List, [], ◌∷◌, ◌++◌, Some, map, take, drop, refl, sym, ap, ◌∙◌, subst, arith, append_assoc}
use Rattle.std.specs.Prelude.{◌&&◌, ◌||◌, not, is_some, if◌then◌else◌}
use Rattle.std.specs.List.{AllByRecursion}
use Rattle.std.proofs.lemmas.List.{take-append-drop}
use Rattle.ten_core.specs.sub_nodes.specs.Code.{table_of}
use Rattle.ten_core.specs.sub_nodes.specs.Stands.{at_trap}
use Rattle.ten_core.specs.cell_form.specs.Data.{BankData}
use Rattle.ten_core.specs.Running.{IsRunning}
use Rattle.fab_core.specs.ten_shell.specs.declared.shell.Shell.{Shell}
use Rattle.fab_core.specs.ten_shell.specs.Shells.{is_left}
use Rattle.fab_core.specs.ten_parcel.specs.declared.parcel.Parcel.{Parcel}
use Rattle.fab_core.specs.ten_parcel.specs.declared.parcel.Parcel.TheVariants as parcel
use Rattle.fab_core.specs.ten_parcel.specs.declared.tenant.Tenant.{Tenant}
use Rattle.fab_core.specs.ten_parcel.specs.Parcels.{number_of, ticks_of}
use Rattle.fab_core.specs.fab_join.specs.Parts.{PartData}
use Rattle.fab_core.specs.fab_model.specs.Points.{Point, called, cycled, due, is_there, order_in, run_in, saved, served, tick_of}
use Rattle.fab_core.specs.fab_model.specs.Fabrics.{all_served, all_stepped, can_step, changed, first_of, found, held, is_of, joining, rebuilt, stepped, taken, without, Fabric}
use Rattle.fab_core.specs.declared.cores.FabCore.{FabCore}
use Rattle.fab_core.specs.declared.resident.Resident.{Resident}
use Rattle.fab_core.specs.Alone.{tenants_of}
use Rattle.fab_core.specs.Standing.{AreStanding, AreWaiting, IsFabric, IsPoint, IsPointOf}
use Rattle.fab_bay.specs.declared.noted.NotedCore.{NotedCore}
use Rattle.fab_bay.specs.Berths.{begun}
use Rattle.fab_bay.specs.Nearness.{BeginsNone, IsWithin}
use Rattle.fab_bay.proofs.Places.{some-equal}
use Rattle.fab_bay.proofs.Steps.{rising, running, CallTicksLaw, TicksLaw}

-- ---- a tick begun behind its last boundary

tick-near : (x : Bool) (k : ℕ) → k ≤ (if x then k else k - 1) + 1
tick-near true k = omega arith
tick-near false k = omega arith

pub tick-begins : (p : Point) → begun p ≤ tick_of p + 1
tick-begins p = tick-near (p.stage.state.finished || is_there p) p.stage.state.ticks

-- ---- steps of a point

hold-step : (tr fin ri lf d : Bool) → (not (tr || ((not fin && ri) && lf)) && (not d && not (true && (fin || (ri && not lf))))) ≡ true → ri ≡ false
hold-step true fin ri lf d e = let z : ⊥ = cc in absurd z
hold-step false true ri lf true e = let z : ⊥ = cc in absurd z
hold-step false true ri lf false e = let z : ⊥ = cc in absurd z
hold-step false false true true d e = let z : ⊥ = cc in absurd z
hold-step false false true false true e = let z : ⊥ = cc in absurd z
hold-step false false true false false e = let z : ⊥ = cc in absurd z
hold-step false false false lf d e = refl

-- a cycle while the fabric holds begins no tick
begun-stepped : TicksLaw → (p : Point) → IsRunning (run_in p) (order_in p) p.acts p.stage → begun (stepped true p) ≡ begun p
begun-stepped same p run = by (can_step true p) refl
  where
    by : (v : Bool) → can_step true p ≡ v → begun (if v then cycled p else p) ≡ begun p
    by true e = same (run_in p) (order_in p) p.acts p.stage run (hold-step (at_trap (table_of (run_in p).flat) p.stage) p.stage.state.finished (rising p) (is_left p.left) (is_some (due p)) e)
    by false e = refl

number-stepped : (p : Point) → (stepped true p).number ≡ p.number
number-stepped p = by (can_step true p)
  where
    by : (v : Bool) → (if v then cycled p else p).number ≡ p.number
    by true = refl
    by false = refl

begun-served : CallTicksLaw → (p : Point) → IsRunning (run_in p) (order_in p) p.acts p.stage → begun (served p) ≡ begun p
begun-served same p run = by (at_trap (table_of (run_in p).flat) p.stage)
  where
    by : (v : Bool) → begun (if v then called p else saved p) ≡ begun p
    by true = same (run_in p) (order_in p) p.acts p.stage run
    by false = refl

number-served : (p : Point) → (served p).number ≡ p.number
number-served p = by (at_trap (table_of (run_in p).flat) p.stage)
  where
    by : (v : Bool) → (if v then called p else saved p).number ≡ p.number
    by true = refl
    by false = refl

-- ---- by points

module _ (most : ℕ → ℕ) where
  abbrev HasFew : Tenant → Type 0
  HasFew t = t.shell.engine.ticks ≤ most t.shell.number

  abbrev AreFew : List Tenant → Type 0
  AreFew ts = AllByRecursion HasFew ts

  -- no point has begun more ticks than these for its number
  abbrev pub AreBegun : List Point → Type 0
  AreBegun ps = AllByRecursion (λ p. begun p ≤ most p.number) ps

  few-point : (s : Shell) (b : BankData) (p : Point) → IsPoint s b p → s.engine.ticks ≤ most s.number → begun p ≤ most p.number
  few-point s b p h le = subst (λ (k : ℕ). k ≤ most p.number) h.stands.at.ticks (subst (λ (n : ℕ). s.engine.ticks ≤ most n) h.number le)

  point-few : (s : Shell) (b : BankData) (p : Point) → IsPoint s b p → begun p ≤ most p.number → s.engine.ticks ≤ most s.number
  point-few s b p h le = subst (λ (k : ℕ). k ≤ most s.number) (sym h.stands.at.ticks) (subst (λ (n : ℕ). begun p ≤ most n) (sym h.number) le)

  line-points : (ts : List Tenant) (ps : List Point) → AreWaiting ts ps → AreFew ts → AreBegun ps
  line-points [] [] h w = tt
  line-points [] (p ∷ ps) h w = absurd h
  line-points (t ∷ ts) [] h w = absurd h
  line-points (t ∷ ts) (p ∷ ps) h w = (few-point t.shell _ p h.0.point w.0, line-points ts ps h.1 w.1)

  points-line : (ts : List Tenant) (ps : List Point) → AreWaiting ts ps → AreBegun ps → AreFew ts
  points-line [] [] h w = tt
  points-line [] (p ∷ ps) h w = absurd h
  points-line (t ∷ ts) [] h w = absurd h
  points-line (t ∷ ts) (p ∷ ps) h w = (point-few t.shell _ p h.0.point w.0, points-line ts ps h.1 w.1)

  all-points : (j : List PartData) (rs : List Resident) (ps : List Point) (ts : List Tenant) (qs : List Point) → AreStanding j rs ps → AreWaiting ts qs → AreFew (tenants_of rs ++ ts) → AreBegun (ps ++ qs)
  all-points j [] [] ts qs h l w = line-points ts qs l w
  all-points j [] (p ∷ ps) ts qs h l w = absurd h
  all-points j (r ∷ rs) [] ts qs h l w = absurd h
  all-points j (r ∷ rs) (p ∷ ps) ts qs h l w = (few-point r.tenant.shell _ p h.0.point w.0, all-points j rs ps ts qs h.1 l w.1)

  points-all : (j : List PartData) (rs : List Resident) (ps : List Point) (ts : List Tenant) (qs : List Point) → AreStanding j rs ps → AreWaiting ts qs → AreBegun (ps ++ qs) → AreFew (tenants_of rs ++ ts)
  points-all j [] [] ts qs h l w = points-line ts qs l w
  points-all j [] (p ∷ ps) ts qs h l w = absurd h
  points-all j (r ∷ rs) [] ts qs h l w = absurd h
  points-all j (r ∷ rs) (p ∷ ps) ts qs h l w = (point-few r.tenant.shell _ p h.0.point w.0, points-all j rs ps ts qs h.1 l w.1)

  pub within-points : (x : NotedCore) (f : Fabric) → IsFabric x.core f → IsWithin most x → AreBegun (f.residents ++ f.line)
  within-points x f h w = all-points x.core.joined x.core.residents.items f.residents x.core.line.items f.line h.residents h.line w

  pub points-within : (x : NotedCore) (f : Fabric) → IsFabric x.core f → AreBegun (f.residents ++ f.line) → IsWithin most x
  points-within x f h w = points-all x.core.joined x.core.residents.items f.residents x.core.line.items f.line h.residents h.line w

  -- ---- lists

  begun-without : (t : ℕ) (ps qs : List Point) → AreBegun (ps ++ qs) → AreBegun (without t ps ++ qs)
  begun-without t [] qs h = h
  begun-without t (p ∷ ps) qs h = by (is_of t p) (begun-without t ps qs h.1)
    where
      by : (v : Bool) → AreBegun (without t ps ++ qs) → AreBegun ((if v then ps else p ∷ without t ps) ++ qs)
      by true r = h.1
      by false r = (h.0, r)

  begun-behind : (t : ℕ) (ps qs : List Point) → AreBegun (ps ++ qs) → AreBegun (ps ++ without t qs)
  begun-behind t [] [] h = h
  begun-behind t [] (q ∷ qs) h = by (is_of t q) (begun-behind t [] qs h.1)
    where
      by : (v : Bool) → AreBegun (without t qs) → AreBegun (if v then qs else q ∷ without t qs)
      by true r = h.1
      by false r = (h.0, r)
  begun-behind t (p ∷ ps) qs h = (h.0, begun-behind t ps qs h.1)

  begun-first : (t : ℕ) (ps qs : List Point) (p : Point) → AreBegun (ps ++ qs) → first_of t ps ≡ Some p → begun p ≤ most p.number
  begun-first t [] qs p h e = let z : ⊥ = cc in absurd z
  begun-first t (q ∷ ps) qs p h e = by (is_of t q) e (begun-first t ps qs p h.1)
    where
      by : (v : Bool) → (if v then Some q else first_of t ps) ≡ Some p → (first_of t ps ≡ Some p → begun p ≤ most p.number) → begun p ≤ most p.number
      by true i r = subst (λ (x : Point). begun x ≤ most x.number) (some-equal q p i) h.0
      by false i r = r i

  begun-second : (t : ℕ) (ps qs : List Point) (p : Point) → AreBegun (ps ++ qs) → first_of t qs ≡ Some p → begun p ≤ most p.number
  begun-second t [] [] p h e = let z : ⊥ = cc in absurd z
  begun-second t [] (q ∷ qs) p h e = by (is_of t q) e (begun-second t [] qs p h.1)
    where
      by : (v : Bool) → (if v then Some q else first_of t qs) ≡ Some p → (first_of t qs ≡ Some p → begun p ≤ most p.number) → begun p ≤ most p.number
      by true i r = subst (λ (x : Point). begun x ≤ most x.number) (some-equal q p i) h.0
      by false i r = r i
  begun-second t (r ∷ ps) qs p h e = begun-second t ps qs p h.1 e

  -- the tenant that is taken
  pub begun-found : (t : ℕ) (f : Fabric) (p : Point) → AreBegun (f.residents ++ f.line) → found t f ≡ Some p → begun p ≤ most p.number
  begun-found t f p h e = by (is_some (first_of t f.residents)) e
    where
      by : (v : Bool) → (if v then first_of t f.residents else first_of t f.line) ≡ Some p → begun p ≤ most p.number
      by true i = begun-first t f.residents f.line p h i
      by false i = begun-second t f.residents f.line p h i

  -- ---- what happens

  pub begun-taken : (t : ℕ) (f : Fabric) → AreBegun (f.residents ++ f.line) → AreBegun ((taken t f).residents ++ (taken t f).line)
  begun-taken t f h = by (is_some (first_of t f.residents))
    where
      by : (v : Bool) → AreBegun ((if v then record f { residents = without t f.residents } else record f { line = without t f.line }).residents ++ (if v then record f { residents = without t f.residents } else record f { line = without t f.line }).line)
      by true = begun-without t f.residents f.line h
      by false = begun-behind t f.residents f.line h

  pub begun-rebuilt : (f : Fabric) → AreBegun (f.residents ++ f.line) → AreBegun ((rebuilt f).residents ++ (rebuilt f).line)
  begun-rebuilt f h =
      let n = joining f in
      subst (λ (ps : List Point). AreBegun ps) (ap (λ (ps : List Point). f.residents ++ ps) (sym (take-append-drop n f.line)) ∙ sym (append_assoc f.residents (take n f.line) (drop n f.line))) h

  same-begun : (p q : Point) → begun q ≡ begun p → q.number ≡ p.number → begun p ≤ most p.number → begun q ≤ most q.number
  same-begun p q e n le = subst (λ (k : ℕ). k ≤ most q.number) (sym e) (subst (λ (k : ℕ). begun p ≤ most k) (sym n) le)

  begun-map : TicksLaw → (j : List PartData) (rs : List Resident) (ps qs : List Point) → AreStanding j rs ps → AreBegun (ps ++ qs) → AreBegun (map (stepped true) ps ++ qs)
  begun-map same j rs [] qs s h = h
  begun-map same j [] (p ∷ ps) qs s h = absurd s
  begun-map same j (r ∷ rs) (p ∷ ps) qs s h =
      (same-begun p (stepped true p) (begun-stepped same p (running r.tenant.shell _ p s.0.point)) (number-stepped p) h.0, begun-map same j rs ps qs s.1 h.1)

  begun-changed : CallTicksLaw → (t : ℕ) (j : List PartData) (rs : List Resident) (ps qs : List Point) → AreStanding j rs ps → AreBegun (ps ++ qs) → AreBegun (changed t served ps ++ qs)
  begun-changed same t j rs [] qs s h = h
  begun-changed same t j [] (p ∷ ps) qs s h = absurd s
  begun-changed same t j (r ∷ rs) (p ∷ ps) qs s h = by (is_of t p) (begun-changed same t j rs ps qs s.1 h.1)
    where
      by : (v : Bool) → AreBegun (changed t served ps ++ qs) → AreBegun ((if v then served p ∷ ps else p ∷ changed t served ps) ++ qs)
      by true more = (same-begun p (served p) (begun-served same p (running r.tenant.shell _ p s.0.point)) (number-served p) h.0, h.1)
      by false more = (h.0, more)

-- ---- calls

-- by what happens to a fabric for which the core stands
none-by : (x y : NotedCore) (f g : Fabric) → IsFabric x.core f → IsFabric y.core g
    → ((most : ℕ → ℕ) → AreBegun most (f.residents ++ f.line) → AreBegun most (g.residents ++ g.line)) → BeginsNone x y
none-by x y f g h k step = λ most w. points-within most y g k (step most (within-points most x f h w))

pub none-same : (x y : NotedCore) → y.core ≡ x.core → BeginsNone x y
none-same x y e = λ most w. subst (λ (k : FabCore). AllByRecursion (λ (t : Tenant). t.shell.engine.ticks ≤ most t.shell.number) (tenants_of k.residents.items ++ k.line.items)) (sym e) w

pub none-then : (x y z : NotedCore) → BeginsNone x y → BeginsNone y z → BeginsNone x z
none-then x y z g h = λ most w. h most (g most w)

pub none-still : (x y : NotedCore) (f : Fabric) → IsFabric x.core f → IsFabric y.core f → BeginsNone x y
none-still x y f h k = none-by x y f f h k (λ most w. w)

pub none-held : (x y : NotedCore) (f : Fabric) → IsFabric x.core f → IsFabric y.core (held f) → BeginsNone x y
none-held x y f h k = none-by x y f (held f) h k (λ most w. w)

-- a cycle while the fabric holds
pub none-stepped : TicksLaw → (x y : NotedCore) (f : Fabric) → IsFabric x.core f → x.core.holding ≡ true → IsFabric y.core (all_stepped f) → BeginsNone x y
none-stepped same x y f h hold k = none-by x y f (all_stepped f) h k (λ most w.
    subst (λ v. AreBegun most (map (stepped v) f.residents ++ f.line)) (sym hold ∙ h.holding)
    (begun-map most same x.core.joined x.core.residents.items f.residents f.line h.residents w))

pub none-served : CallTicksLaw → (t : ℕ) (x y : NotedCore) (f : Fabric) → IsFabric x.core f → IsFabric y.core (all_served t f) → BeginsNone x y
none-served same t x y f h k = none-by x y f (all_served t f) h k (λ most w. begun-changed most same t x.core.joined x.core.residents.items f.residents f.line h.residents w)

pub none-rebuilt : (x y : NotedCore) (f : Fabric) → IsFabric x.core f → IsFabric y.core (rebuilt f) → BeginsNone x y
none-rebuilt x y f h k = none-by x y f (rebuilt f) h k (λ most w. begun-rebuilt most f w)

pub none-taken : (t : ℕ) (x y : NotedCore) (f : Fabric) → IsFabric x.core f → IsFabric y.core (taken t f) → BeginsNone x y
none-taken t x y f h k = none-by x y f (taken t f) h k (λ most w. begun-taken most t f w)

-- who is taken
few-parcel : (most : ℕ → ℕ) (q : Parcel) (p : Point) → IsPointOf q p → begun p ≤ most p.number → ticks_of q ≤ most (number_of q)
few-parcel most (parcel.Rests t) p h le = point-few most t.shell _ p h.point le
few-parcel most (parcel.Over x) p h le = absurd h

pub came-within : (t : ℕ) (x : NotedCore) (f : Fabric) (q : Parcel) (p : Point) → IsFabric x.core f → found t f ≡ Some p → IsPointOf q p → (most : ℕ → ℕ) → IsWithin most x → ticks_of q ≤ most (number_of q)
came-within t x f q p h e at most w = few-parcel most q p at (begun-found most t f p (within-points most x f h w) e)
