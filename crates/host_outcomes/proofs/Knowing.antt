-- What is known of the tenants of a report.
use Rattle.std.proofs.Common.{◌≡◌, ◌≢◌, ℕ, zero, suc, ◌+◌, ◌<◌, true, false, List, [], ◌∷◌, length, map, get_or, slice_get, Option, Some, None, refl, subst, arith}
use Rattle.ten_files.specs.vl_base.specs.declared.place.Place.{Place}
use Rattle.ten_files.specs.vl_design.specs.declared.design.End.TheVariants.{Stopped}
use Rattle.ten_files.specs.vl_design.specs.Alone.{first_tick}
use Rattle.host_judge.specs.host_text.specs.declared.script.Script.{Script}
use Rattle.fab_orders.specs.ten_parcel.specs.Parcels.{run_of, ticks_of}
use Rattle.host_report.specs.fab_model.specs.declared.transit.Transit.{Transit}
use Rattle.fab_orders.specs.declared.outcomes.Start.{Start}
use Rattle.host_judge.specs.host_form.specs.Origins.{Tenant}
use Rattle.host_judge.specs.host_form.specs.Histories.{Histories}
use Rattle.host_judge.specs.host_form.specs.Orders.{stop_of, Answered}
use Rattle.host_judge.specs.host_form.specs.Runs.{alone, stopped, IsEnd, IsRun, Outcome, Ran, Refused, Run}
use Rattle.host_judge.specs.host_form.specs.Reports.{AreOutcomes}
use Rattle.host_judge.specs.declared.verdict.Ready.{Ready}
use Rattle.host_judge.specs.host_form.specs.declared.refusal.Refusal.{Refusal}
use Rattle.host_report.specs.Ends.{is_refused}
use Rattle.host_outcomes.specs.Begun.{AreBegun}
use Rattle.host_outcomes.specs.Ends.{AreTold, IsTold}
use Rattle.host_outcomes.specs.Given.{rank}

-- one that runs, at this place of these: its run, and its end
pub record IsRunning (s : Script) (histories : Histories) (answers : List Answered) (n : ℕ) (y : Option Outcome) (e : Option Transit) : Type 0 where
  pub run : Run
  pub end : Transit
  pub tenant : Tenant
  pub there : y ≡ Some (Ran run)
  pub ended : e ≡ Some end
  pub told : IsTold answers n end run
  pub runs : IsRun s.fabrics histories answers n tenant run

module _ (s : Script) (histories : Histories) (answers : List Answered) where
  pub running-at : (b i : ℕ) (ts : List Tenant) (refusals : List (Option Refusal)) (es : List Transit) (ys : List Outcome) → AreOutcomes s histories answers b ts ys → AreTold answers b refusals es ys
      → get_or (map is_refused refusals) i true ≡ false → IsRunning s histories answers (b + i) (slice_get ys i) (slice_get es (rank (map is_refused refusals) i))
  running-at b i ts [] es ys o t e = let z : ⊥ = cc in absurd z
  running-at b i ts (Some x ∷ rs) es [] o t e = absurd t
  running-at b i ts (Some x ∷ rs) es (Ran r ∷ ys) o t e = absurd t
  running-at b i [] (Some x ∷ rs) es (Refused place kind ∷ ys) o t e = absurd o
  running-at b zero (u ∷ ts) (Some x ∷ rs) es (Refused place kind ∷ ys) o t e = let z : ⊥ = cc in absurd z
  running-at b (suc i) (u ∷ ts) (Some x ∷ rs) es (Refused place kind ∷ ys) o t e =
      let n : b + 1 + i ≡ b + suc i = omega arith in
      subst (λ k. IsRunning s histories answers k (slice_get ys i) (slice_get es (rank (map is_refused rs) i))) n (running-at (b + 1) i ts rs es ys o.1 t e)
  running-at b i ts (None ∷ rs) [] ys o t e = absurd t
  running-at b i ts (None ∷ rs) (x ∷ es) [] o t e = absurd t
  running-at b i ts (None ∷ rs) (x ∷ es) (Refused place kind ∷ ys) o t e = absurd t
  running-at b i [] (None ∷ rs) (x ∷ es) (Ran r ∷ ys) o t e = absurd o
  running-at b zero (u ∷ ts) (None ∷ rs) (x ∷ es) (Ran r ∷ ys) o t e =
      let n : b ≡ b + 0 = omega arith in
      subst (λ k. IsRunning s histories answers k (Some (Ran r)) (Some x)) n (record { run = r; end = x; tenant = u; there = refl; ended = refl; told = t.0; runs = o.0 })
  running-at b (suc i) (u ∷ ts) (None ∷ rs) (x ∷ es) (Ran r ∷ ys) o t e =
      let n : b + 1 + i ≡ b + suc i = omega arith in
      subst (λ k. IsRunning s histories answers k (slice_get ys i) (slice_get es (rank (map is_refused rs) i))) n (running-at (b + 1) i ts rs es ys o.1 t.1 e)

  -- one that is refused
  pub refused-at : (b i : ℕ) (ts : List Tenant) (refusals : List (Option Refusal)) (es : List Transit) (ys : List Outcome) → i < length ts → AreOutcomes s histories answers b ts ys
      → AreTold answers b refusals es ys → get_or (map is_refused refusals) i true ≡ true → (place : Place) × (kind : List ℕ) × (slice_get ys i ≡ Some (Refused place kind))
  refused-at b i [] refusals es ys l o t e = absurd (omega (arith, l))
  refused-at b i (u ∷ ts) refusals es [] l o t e = absurd o
  refused-at b i (u ∷ ts) [] [] (y ∷ ys) l o t e = absurd t
  refused-at b i (u ∷ ts) [] (x ∷ es) (y ∷ ys) l o t e = absurd t
  refused-at b i (u ∷ ts) (Some x ∷ rs) es (Ran r ∷ ys) l o t e = absurd t
  refused-at b zero (u ∷ ts) (Some x ∷ rs) es (Refused place kind ∷ ys) l o t e = (place, kind, refl)
  refused-at b (suc i) (u ∷ ts) (Some x ∷ rs) es (Refused place kind ∷ ys) l o t e = refused-at (b + 1) i ts rs es ys (omega (arith, l)) o.1 t e
  refused-at b i (u ∷ ts) (None ∷ rs) [] (y ∷ ys) l o t e = absurd t
  refused-at b i (u ∷ ts) (None ∷ rs) (x ∷ es) (Refused place kind ∷ ys) l o t e = absurd t
  refused-at b zero (u ∷ ts) (None ∷ rs) (x ∷ es) (Ran r ∷ ys) l o t e = let z : ⊥ = cc in absurd z
  refused-at b (suc i) (u ∷ ts) (None ∷ rs) (x ∷ es) (Ran r ∷ ys) l o t e = refused-at (b + 1) i ts rs es ys (omega (arith, l)) o.1 t.1 e

-- one that a free order stopped ends so
pub stopped-so : (s : Script) {histories : Histories} {answers : List Answered} {n : ℕ} {t : Tenant} {r : Run} → IsRun s.fabrics histories answers n t r → stop_of n answers ≢ None → r.reason ≡ Stopped
stopped-so s {histories} {answers} {n} {t} {r} h some = by h.end
  where
    by : IsEnd r.origin (stop_of n answers) r.tick r.reason r.last → r.reason ≡ Stopped
    by (alone none ends) = absurd (some none)
    by (stopped at is boundary goes) = is

-- a tenant stands at its first tick
pub begun-at : (rs : List Ready) (ss : List Start) → AreBegun rs ss → (i : ℕ) (d : Start) → i < length ss
    → ticks_of (get_or ss i d).transit.parcel ≡ first_tick (run_of (get_or ss i d).transit.parcel).resume
begun-at [] [] h i d l = absurd (omega (arith, l))
begun-at [] (s ∷ ss) h i d l = absurd h
begun-at (r ∷ rs) [] h i d l = absurd h
begun-at (r ∷ rs) (s ∷ ss) h zero d l = h.0.ticks
begun-at (r ∷ rs) (s ∷ ss) h (suc i) d l = begun-at rs ss h.1 i d (omega (arith, l))

pub member : {X : Type 0} (xs : List X) (i : ℕ) → i < length xs → X
member [] i l = absurd (omega (arith, l))
member (x ∷ xs) i l = x
