-- What comes of the tenants of a script (own).
use Rattle.std.specs.Prelude.{◌≡◌, ◌≢◌, ◌⊎◌, ℕ, ◌<◌, ◌≤◌, Bool, ◌&&◌, ◌==◌, nat_lt, nat_le, if◌then◌else◌, List, [], ◌∷◌, ◌++◌, map, Option, Some, None}
use Rattle.std.specs.List.{AllByRecursion, flat_map}
use Rattle.host_text.specs.vl_base.specs.declared.place.Place.{Place}
use Rattle.host_text.specs.vl_design.specs.declared.design.End.{End}
use Rattle.host_text.specs.vl_design.specs.declared.design.End.TheVariants.{Stopped}
use Rattle.host_text.specs.vl_design.specs.Cost.{cost}
use Rattle.host_text.specs.vl_design.specs.Queue.{Queue}
use Rattle.host_text.specs.vl_design.specs.Alone.{Due, Move, Errand, Origin, Boundary, Ends, reason_at, first_tick}
use Rattle.host_text.specs.vl_design.specs.Observed.{IsSameRun}
use Rattle.host_text.specs.declared.script.FabricLine.{FabricLine}
use Rattle.host_form.specs.Origins.{Tenant, IsOrigin, IsRefused}
use Rattle.host_form.specs.Histories.{Histories, Visit, history_of, lines_of, lines_at, lefts_at, AreVisits}
use Rattle.host_form.specs.Orders.{Answered, Put, stop_of, saves_of, moves_of, puts_at}

-- ---- ends

-- the run of an origin ends at a boundary, for a reason, in a state: as it does alone; or where a free order stops it, at a
-- boundary up to which it has no reason to end
pub data IsEnd (o : Origin) (stop : Option ℕ) (k : ℕ) (reason : End) (last : Queue) : Type 0 where
  alone : stop ≡ None → Ends o k reason last → IsEnd o stop k reason last
  stopped : stop ≡ Some k → reason ≡ Stopped → Boundary o k last → ((j : ℕ) (q : Queue) → j ≤ k → Boundary o j q → reason_at o.plan j q ≡ None) →
      IsEnd o stop k reason last

-- ---- where a tenant is put in line

-- where an errand at a tick moves a tenant
abbrev pub move_at : ℕ → Due → List Put
move_at tick (Move g) = record { fabric = g; tick = tick } ∷ []
move_at tick due = []

-- the moves of a plan at ticks that pass a test
abbrev pub moves_when : (ℕ → Bool) → List Errand → List Put
moves_when test errands = flat_map (λ e. if test e.tick then move_at e.tick e.due else []) errands

-- what was put in line runs as the origin does: from the same files, plan and snapshot, the same run at the same cost
pub record RunsAs (o : Origin) (u : Origin) : Type 0 where
  pub files : u.files ≡ o.files
  pub plan : u.plan ≡ o.plan
  pub resume : u.resume ≡ o.resume
  pub run : IsSameRun o u
  pub cost : cost u.flat ≡ cost o.flat

abbrev pub RunsAsNoted : Origin → Option Origin → Type 0
RunsAsNoted o None = ⊥
RunsAsNoted o (Some u) = RunsAs o u

-- the tenant of a number, whose run ends at the tick k, is put in line just there: at its first tick on the script's fabric; for
-- each move of its plan from that tick on and below k, and perhaps for the last one; for each free move; and back for each free save
pub record ArePut (histories : Histories) (answers : List Answered) (n fabric : ℕ) (o : Origin) (k : ℕ) : Type 0 where
  pub last : List Put
  pub back : List Put
  -- the last move is that of the tick at which a free order stops the tenant
  pub may : (last ≡ []) ⊎ ((stop_of n answers ≡ Some k) × (last ≡ moves_when (λ j. j == k) o.plan.errands))
  -- it is put back at the tick of the save, on a fabric that it leaves at that tick
  pub saved : map (λ p. p.tick) back ≡ map (λ s. s.tick) (saves_of n answers)
  pub left : AllByRecursion (λ p. 0 < lefts_at n p.tick (history_of histories p.fabric)) back
  pub just : (g j : ℕ) → lines_at n j (history_of histories g) ≡ puts_at g j (
      record { fabric = fabric; tick = first_tick o.resume } ∷ []
      ++ moves_when (λ j. nat_le (first_tick o.resume) j && nat_lt j k) o.plan.errands ++ last ++ moves_of n answers ++ back)

-- the tenant of a number is put in line nowhere
abbrev pub IsPutNowhere : Histories → ℕ → Type 0
IsPutNowhere histories n = (g : ℕ) → lines_of n (history_of histories g) ≡ []

-- a tenant that ends at its first tick, not by a free order, is put nowhere
pub data AreLines (histories : Histories) (answers : List Answered) (n fabric : ℕ) (o : Origin) (k : ℕ) : Type 0 where
  at_once : stop_of n answers ≡ None → k ≡ first_tick o.resume → IsPutNowhere histories n → AreLines histories answers n fabric o k
  later : (stop_of n answers ≡ None → k ≢ first_tick o.resume) → ArePut histories answers n fabric o k → AreLines histories answers n fabric o k

-- ---- outcomes

-- the run of a tenant: its origin, the tick, reason and state of its end, and its stays
pub record Run : Type 0 where
  pub origin : Origin
  pub tick : ℕ
  pub reason : End
  pub last : Queue
  pub visits : List Visit

-- the tenant of a number runs so
pub record IsRun (fabrics : List FabricLine) (histories : Histories) (answers : List Answered) (n : ℕ) (t : Tenant) (r : Run) : Type 0 where
  pub origin : IsOrigin fabrics t r.origin
  pub end : IsEnd r.origin (stop_of n answers) r.tick r.reason r.last
  pub visits : AreVisits histories n (first_tick r.origin.resume) r.tick r.visits
  pub lines : AreLines histories answers n t.line.fabric r.origin r.tick
  pub noted : (g : ℕ) → AllByRecursion (λ m. RunsAsNoted r.origin m.origin) (lines_of n (history_of histories g))

-- what comes of a tenant
pub data Outcome : Type 0 where
  Refused : (place : Place) (kind : List ℕ) → Outcome
  Ran : (run : Run) → Outcome

-- a refused tenant is put in line nowhere
abbrev pub IsOutcome : List FabricLine → Histories → List Answered → ℕ → Tenant → Outcome → Type 0
IsOutcome fabrics histories answers n t (Refused place kind) = IsRefused fabrics t place kind × IsPutNowhere histories n
IsOutcome fabrics histories answers n t (Ran r) = IsRun fabrics histories answers n t r
