-- Several fabrics and the tenants in transit between them, over lists of steps (own).
use Rattle.std.specs.Prelude.{◌≡◌, ℕ, zero, suc, not, false, true, List, [], ◌∷◌, ◌++◌, map, if◌then◌else◌, is_some, Option, Some, None, ⊤}
use Rattle.std.specs.List.{AllByRecursion}
use Rattle.ten_core.specs.vl_design.specs.declared.capacity.Cost.{Cost}
use Rattle.ten_core.specs.Fronts.{IsFront}
use Rattle.ten_core.specs.Running.{IsRunning}
use Rattle.fab_model.specs.Points.{Point, ended, kept, order_in, run_in, stopped}
use Rattle.fab_model.specs.Fabrics.{Fabric, changed, first_of, is_of, total, within}
use Rattle.fab_model.specs.Worlds.{World, Event, happens, weight}

pub record Several : Type 0 where
  pub fabrics : List Fabric
  -- the tenants that are loaded and nowhere, or on their way between fabrics
  pub transit : List Point

pub data Step : Type 0 where
  -- a tenant is loaded: here it stands at the first boundary of its run
  Load : (p : Point) → Step
  -- an event of the fabric of this number
  At : (g : ℕ) (e : Event) → Step
  -- a snapshot of one in transit is made besides, under a name; one in transit is stopped besides
  Save : (t : ℕ) (name : List ℕ) → Step
  Stop : (t : ℕ) → Step

-- whoever is on some fabric, and whoever is anywhere
abbrev pub among : List Fabric → List Point
among [] = []
among (f ∷ fs) = (f.residents ++ f.line) ++ among fs

abbrev pub everyone_in : Several → List Point
everyone_in w = w.transit ++ among w.fabrics

-- ---- what happens; nothing where a step may not come

abbrev pub loads : Several → Point → Several
loads w p = if is_some (first_of p.number (everyone_in w)) then w else record w { transit = w.transit ++ p ∷ [] }

-- an event at one of these fabrics; nothing where there is none of this number
abbrev pub happens_at : ℕ → Event → List Point → List Fabric → Several
happens_at g e transit [] = record { fabrics = []; transit = transit }
happens_at zero e transit (f ∷ fs) =
    let w = happens (record { fabric = f; transit = transit }) e in
    record { fabrics = w.fabric ∷ fs; transit = w.transit }
happens_at (suc g) e transit (f ∷ fs) =
    let w = happens_at g e transit fs in
    record { fabrics = f ∷ w.fabrics; transit = w.transit }

-- one in transit changes, where it hasn't ended
abbrev pub changes : ℕ → (Point → Point) → Several → Option Point → Several
changes t f w None = w
changes t f w (Some p) = if not (is_some (ended p)) then record w { transit = changed t f w.transit } else w

abbrev pub step : Several → Step → Several
step w (Load p) = loads w p
step w (At g e) = happens_at g e w.transit w.fabrics
step w (Save t name) = changes t (kept name) w (first_of t w.transit)
step w (Stop t) = changes t stopped w (first_of t w.transit)

abbrev pub run : List Step → Several → Several
run [] w = w
run (s ∷ ss) w = run ss (step w s)

abbrev pub empty_of : Cost → Fabric
empty_of c = record { capacity = c; residents = []; line = []; holding = false }

-- fabrics of these capacities, without tenants
abbrev pub empty : List Cost → Several
empty cs = record { fabrics = map empty_of cs; transit = [] }

-- ---- what was loaded

-- of the points that were loaded, the first of each number
abbrev pub loaded_after : List Point → List Step → List Point
loaded_after ps [] = ps
loaded_after ps (Load p ∷ ss) = loaded_after (if is_some (first_of p.number ps) then ps else ps ++ p ∷ []) ss
loaded_after ps (At g e ∷ ss) = loaded_after ps ss
loaded_after ps (Save t name ∷ ss) = loaded_after ps ss
loaded_after ps (Stop t ∷ ss) = loaded_after ps ss

abbrev pub loaded : List Step → List Point
loaded ss = loaded_after [] ss

-- ---- what is said of everyone

-- in how many places a tenant is
abbrev pub places_of : ℕ → List Point → ℕ
places_of t ps = weight (λ p. if is_of t p then 1 else 0) ps

-- the acts of a tenant, where it is in one place
abbrev pub acts_of : ℕ → Several → ℕ
acts_of t w = weight (λ p. if is_of t p then p.acts else 0) (everyone_in w)

-- each fabric has its capacity, and its residents fit it together
abbrev pub Fit : List Cost → List Fabric → Type 0
Fit [] [] = ⊤
Fit [] (f ∷ fs) = ⊥
Fit (c ∷ cs) [] = ⊥
Fit (c ∷ cs) (f ∷ fs) = (f.capacity ≡ c) × (within (total f.residents) c ≡ true) × Fit cs fs

-- the point is one of a run on its way
abbrev pub IsRun : Point → Type 0
IsRun p = IsRunning (run_in p) (order_in p) p.acts p.stage

abbrev pub AreRuns : List Point → Type 0
AreRuns ps = AllByRecursion IsRun ps

-- what each has printed is a front of what its run alone prints up to its end
abbrev pub AreFronts : List Point → Type 0
AreFronts ps = AllByRecursion (λ p. IsFront (run_in p) p.stage) ps
