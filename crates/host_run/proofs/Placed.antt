-- Labels and tenants as they are made, put together.
use Rattle.std.proofs.Common.{◌≡◌, ℕ, zero, suc, ◌+◌, ◌<◌, List, [], ◌∷◌, length, get_or, map, refl, sym, ap, ◌∙◌, subst, arith, Some, None, true, Result, Ok, Err}
use Rattle.std.specs.Prelude.{All, IfOk}
use Rattle.std.specs.declared.alloc.AllocError.{AllocError}
use Rattle.std.proofs.lemmas.List.Elements.{All-cons, All-nil}
use Rattle.host_text.specs.vl_design.specs.declared.capacity.Cost.{Cost}
use Rattle.host_text.specs.vl_design.specs.Costs.{saturated_cost}
use Rattle.host_text.specs.vl_design.specs.Cost.{cost}
use Rattle.host_text.specs.vl_design.specs.Alone as alone
use Rattle.host_judge.specs.ten_core.specs.declared.origin.Origin.{Origin}
use Rattle.host_judge.specs.ten_core.specs.Tenants.{origin_of}
use Rattle.fab_rounds.specs.ten_parcel.specs.Parcels.{cost_of}
use Rattle.elab_laws.specs.ten_plan.specs.Plans.{move_at}
use Rattle.fab_rounds.specs.ten_shell.specs.Shells.{CanRunOn}
use Rattle.host_text.specs.declared.script.FabricLine.{FabricLine}
use Rattle.host_report.specs.fab_model.specs.Fabrics.{within}
use Rattle.host_report.specs.fab_model.specs.Origins.{Origins}
use Rattle.fab_rounds.specs.fab_bay.specs.declared.noted.Label.{Label}
use Rattle.fab_rounds.specs.fab_orders.specs.declared.outcomes.Start.{Start}
use Rattle.fab_rounds.specs.fab_orders.specs.Starts.{origins_of, AreLabels, AreStarts, HasPlaceFor, IsStart, NamesOrigins}
use Rattle.host_form.specs.Origins.{has_room, Tenant}
use Rattle.host_judge.specs.declared.verdict.Ready.{Ready}
use Rattle.host_judge.specs.Judged.{AreReady, IsReady}
use Rattle.host_run.specs.declared.begun.Begun.{Begun}
use Rattle.host_run.specs.Rooms.{HaveRoom}
use Rattle.host_outcomes.specs.Begun.{AreBegun}
use Rattle.host_run.specs.Made.{AreLabelsOf, AreLoadedOn, IsLoadedOn, Names}
use Rattle.host_run.proofs.Rooms.{has_place}

abbrev pub origins_in : List Ready → List Origin
origins_in rs = map (λ r. r.origin) rs

abbrev pub fabrics_in : List Ready → List ℕ
fabrics_in rs = map (λ r. r.fabric) rs

-- ---- what is ready can run

pub can_run : (lines : List FabricLine) (rs : List Ready) → AreReady lines rs → All CanRunOn (origins_in rs)
can_run lines [] h = All-nil CanRunOn
can_run lines (r ∷ rs) h = All-cons CanRunOn r.origin (origins_in rs) h.0.1.can (can_run lines rs h.1)

-- ---- origins and labels

pub same_origins : (n : ℕ) (gs : List ℕ) (os : List Origin) (ss : List Start) → AreLoadedOn n gs os ss → (origins_of ss ≡ os) × (length ss ≡ length os)
same_origins n [] [] [] h = (refl, refl)
same_origins n [] [] (s ∷ ss) h = absurd h
same_origins n [] (o ∷ os) ss h = absurd h
same_origins n (g ∷ gs) [] ss h = absurd h
same_origins n (g ∷ gs) (o ∷ os) [] h = absurd h
same_origins n (g ∷ gs) (o ∷ os) (s ∷ ss) h =
    let i = same_origins (suc n) gs os ss h.1 in
    let e = h.0.loaded.origin in
    let a = i.0 in
    let b = i.1 in
    (cc, omega (arith, b))

names : (starts : List Start) (o : Origins) → Names (origins_of starts) o → NamesOrigins starts o
names starts None h = h
names starts (Some all) h = h

pub labelled : (os : List Origin) (starts : List Start) (labels : List Label) → origins_of starts ≡ os → length starts ≡ length os → AreLabelsOf os labels → AreLabels starts labels
labelled os starts labels e n a i d l =
    let x = get_or labels i d in
    let k = a i d l in
    let m = k.tenants in
    record {
      fabric = k.fabric;
      tenants = omega (arith, n, m);
      some = k.some;
      any_puts = k.any_puts;
      origins = names starts x.origins (subst (λ (u : List Origin). Names u x.origins) (sym e) k.origins);
    }

-- ---- tenants

pub are_begun : (n : ℕ) (rs : List Ready) (ss : List Start) → AreLoadedOn n (fabrics_in rs) (origins_in rs) ss → AreBegun rs ss
are_begun n [] [] h = tt
are_begun n [] (s ∷ ss) h = h
are_begun n (r ∷ rs) [] h = h
are_begun n (r ∷ rs) (s ∷ ss) h = (record { fabric = h.0.fabric; origin = h.0.loaded.origin; ticks = h.0.loaded.ticks }, are_begun (suc n) rs ss h.1)

-- there is a place for a tenant where a fabric has room for what it starts from
place : (lines : List FabricLine) (labels : List Label) (t : Tenant) (r : Ready) (n : ℕ) (s : Start) → HaveRoom lines labels → (ready : IsReady lines t r) → IsLoadedOn n r.fabric r.origin s
    → (g : ℕ) → has_room lines (cost ready.origin.flat) g ≡ true → HasPlaceFor labels g s.transit.parcel
place lines labels t r n s have ready h g m =
    let q = has_place lines labels have (cost ready.origin.flat) g m in
    let e : cost_of s.transit.parcel ≡ saturated_cost (cost ready.origin.flat) = ap (λ (x : Origin). saturated_cost (cost (origin_of x).flat)) h.loaded.origin ∙ ap saturated_cost ready.runs.cost in
    (q.0, λ d. ap (λ (c : Cost). within c (get_or labels g d).capacity) e ∙ q.1 d)

started : (lines : List FabricLine) (labels : List Label) (t : Tenant) (r : Ready) (n m : ℕ) (s : Start) → HaveRoom lines labels → IsReady lines t r → IsLoadedOn n r.fabric r.origin s → m ≡ n → IsStart labels m s
started lines labels t r n m s have ready h e = record {
  number = h.loaded.number ∙ sym e;
  parcel = h.loaded.parcel;
  free = h.loaded.free;
  stopped = h.loaded.stopped;
  moved = h.loaded.moved;
  stays = h.stays;
  place = place lines labels t r n s have ready h s.fabric (ap (has_room lines (cost ready.origin.flat)) (h.fabric ∙ ready.fabric) ∙ ready.is.room);
  moves = λ k g x. place lines labels t r n s have ready h g (ready.moves k g (
      ap (λ (p : alone.Plan). move_at k p.errands) (sym (ap (λ (o : Origin). (origin_of o).plan) h.loaded.origin ∙ ready.runs.plan)) ∙ x));
}

all_started : (lines : List FabricLine) (labels : List Label) → HaveRoom lines labels → (n : ℕ) (rs : List Ready) (ss : List Start) → AreReady lines rs → AreLoadedOn n (fabrics_in rs) (origins_in rs) ss
    → (i m : ℕ) (d : Start) → m ≡ n + i → i < length ss → IsStart labels m (get_or ss i d)
all_started lines labels have n rs [] a h i m d e l = absurd (omega arith)
all_started lines labels have n [] (s ∷ ss) a h i m d e l = absurd h
all_started lines labels have n (r ∷ rs) (s ∷ ss) a h zero m d e l = started lines labels a.0.0 r n m s have a.0.1 h.0 (omega (arith, e))
all_started lines labels have n (r ∷ rs) (s ∷ ss) a h (suc i) m d e l = all_started lines labels have (suc n) rs ss a.1 h.1 i m d (omega (arith, e)) (omega (arith, l))

pub are_starts : (lines : List FabricLine) (labels : List Label) (rs : List Ready) (ss : List Start) → HaveRoom lines labels → AreReady lines rs → AreLoadedOn 0 (fabrics_in rs) (origins_in rs) ss → AreStarts labels ss
are_starts lines labels rs ss have a h i d l = all_started lines labels have 0 rs ss a h i i d (omega arith) l

-- ---- what is made, if it is

pub labelled_as : (gs : List ℕ) (os : List Origin) (x : Result Begun AllocError) → IfOk x (λ b. AreLabelsOf os b.labels.items) → IfOk x (λ b. AreLoadedOn 0 gs os b.starts.items) → IfOk x (λ b. AreLabels b.starts.items b.labels.items)
labelled_as gs os (Err e) a h = tt
labelled_as gs os (Ok b) a h = let i = same_origins 0 gs os b.starts.items h in labelled os b.starts.items b.labels.items i.0 i.1 a

-- as it is loaded on these fabrics and from these origins
as_in : (rs : List Ready) (gs : List ℕ) (os : List Origin) (ss : List Start) → gs ≡ fabrics_in rs → os ≡ origins_in rs → AreLoadedOn 0 gs os ss → AreLoadedOn 0 (fabrics_in rs) (origins_in rs) ss
as_in rs gs os ss e f h = subst (λ (x : List Origin). AreLoadedOn 0 (fabrics_in rs) x ss) f (subst (λ (x : List ℕ). AreLoadedOn 0 x os ss) e h)

pub started_as : (lines : List FabricLine) (rs : List Ready) (gs : List ℕ) (os : List Origin) → gs ≡ fabrics_in rs → os ≡ origins_in rs → AreReady lines rs
    → (x : Result Begun AllocError) → IfOk x (λ b. AreLoadedOn 0 gs os b.starts.items) → IfOk x (λ b. HaveRoom lines b.labels.items) → IfOk x (λ b. AreStarts b.labels.items b.starts.items)
started_as lines rs gs os e f a (Err x) h have = tt
started_as lines rs gs os e f a (Ok b) h have = are_starts lines b.labels.items rs b.starts.items have a (as_in rs gs os b.starts.items e f h)

pub begun_as : (rs : List Ready) (gs : List ℕ) (os : List Origin) → gs ≡ fabrics_in rs → os ≡ origins_in rs → (x : Result Begun AllocError) → IfOk x (λ b. AreLoadedOn 0 gs os b.starts.items)
    → IfOk x (λ b. AreBegun rs b.starts.items)
begun_as rs gs os e f (Err x) h = tt
begun_as rs gs os e f (Ok b) h = are_begun 0 rs b.starts.items (as_in rs gs os b.starts.items e f h)
