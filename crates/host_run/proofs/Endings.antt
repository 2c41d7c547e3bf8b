-- What the report of a script's tenants comes to.
use Rattle.std.proofs.Common.{◌≡◌, ℕ, ◌<◌, ◌≤◌, Bool, List, length, filter, get_or, map, sym, ◌∙◌, subst, arith, Option, Ok, Err}
use Rattle.std.specs.Prelude.{not, IfOk, Result}
use Rattle.std.specs.List.{AllByRecursion}
use Rattle.host_form.specs.fab_io.specs.Outside.{Files}
use Rattle.host_text.specs.declared.script.FabricLine.{FabricLine}
use Rattle.host_text.specs.declared.script.Free.{Free}
use Rattle.host_text.specs.declared.script.Script.{Script}
use Rattle.host_text.specs.Laws.{IsSpelt, IsWithinLimits}
use Rattle.fab_rounds.specs.ten_parcel.specs.Parcels.{IsParcel}
use Rattle.fab_rounds.specs.fab_bay.specs.declared.noted.Label.{Label}
use Rattle.fab_rounds.specs.fab_bay.specs.declared.noted.NotedCore.{NotedCore}
use Rattle.fab_rounds.specs.fab_orders.specs.declared.outcomes.Outcome.{Outcome}
use Rattle.fab_rounds.specs.fab_orders.specs.declared.outcomes.Start.{Start}
use Rattle.fab_rounds.specs.fab_orders.specs.Orders.{AreOrders}
use Rattle.fab_rounds.specs.fab_orders.specs.Outcomes.{IsOutcome}
use Rattle.fab_rounds.specs.fab_orders.specs.Starts.{AreStarts}
use Rattle.host_files.specs.declared.loaded.Loaded.{Loaded}
use Rattle.host_files.specs.Reading.{AreLoaded}
use Rattle.host_form.specs.declared.refusal.Refusal.{Refusal}
use Rattle.host_files.specs.Kept.{CanBeKept}
use Rattle.host_report.specs.Ends.{is_refused}
use Rattle.host_report.specs.Telling.{AreTellable}
use Rattle.host_outcomes.specs.Given.{costs_begun, given}
use Rattle.host_run.specs.declared.reported.Reported.{Reported}
use Rattle.host_run.specs.Reported.{AreBays, IsReported}
use Rattle.host_run.specs.Rooms.{room_of}
use Rattle.host_run.specs.Steps.{orders_for, Begin, Says}
use Rattle.host_run.proofs.BaysOfScript.{all_each, are_bays, as_many, same_at}
use Rattle.host_run.proofs.Named.{given_named}
use Rattle.host_run.proofs.Reports.{as_many_starts, is_reported, AllAreReported, DoAsOrders, EndAtTheirCosts, MayBeGiven, OrdersAreSeen, TenantsAreRead}
use Rattle.host_run.proofs.Saves.{all_can, kept_count, MayBeReordered}
use Rattle.host_run.proofs.Tellable.{few, refusals_count, starts_count, tellable, tenants_count, AllAreNamed}

-- the same, of the refusals that were handed on
pub begin_on : (s : Script) (loaded : List Loaded) (refusals others : List (Option Refusal)) (labels : List Label) (starts : List Start) → others ≡ refusals
    → Begin s loaded refusals labels starts → Begin s loaded others labels starts
begin_on s loaded refusals others labels starts e b = subst (λ (rs : List (Option Refusal)). Begin s loaded rs labels starts) (sym e) b

pub outcome_on : (s : Script) (refusals others : List (Option Refusal)) (labels : List Label) (starts : List Start) (out : Outcome) → others ≡ refusals
    → IsOutcome labels starts (orders_for s refusals starts) out → IsOutcome labels starts (orders_for s others starts) out
outcome_on s refusals others labels starts out e o = subst (λ (rs : List (Option Refusal)). IsOutcome labels starts (orders_for s rs starts) out) (sym e) o

-- what a law says of orders that may be given
abbrev pub OrdersMayBeGiven : Type 0
OrdersMayBeGiven = (labels : List Label) (starts : List Start) (fabrics : List FabricLine) (refused : List Bool) (free : List Free) →
    length starts ≡ length (filter (λ r. not r) refused) → length labels ≡ length fabrics →
    ((g : ℕ) (l : Label) (f : FabricLine) → g < length labels → (get_or labels g l).capacity ≡
    record { regs = (get_or fabrics g f).capacity.registers; cells = (get_or fabrics g f).capacity.cells; mem = (get_or fabrics g f).capacity.memory }) →
    AreOrders labels starts (given fabrics refused (costs_begun starts) free)

-- ---- before the run

module _ (s : Script) (loaded : List Loaded) (refusals : List (Option Refusal)) (labels : List Label) (starts : List Start) (begin : Begin s loaded refusals labels starts) where
  pub as_many_refusals : length refusals ≡ length s.tenants
  as_many_refusals = refusals_count s.fabrics begin.tenants refusals begin.readies begin.judged ∙ tenants_count s.tenants loaded begin.tenants begin.are

  pub few_starts : length starts ≤ length s.tenants
  few_starts =
      let n = starts_count begin.readies starts begin.begun in
      let f = few s.fabrics begin.tenants refusals begin.readies begin.judged in
      let t = tenants_count s.tenants loaded begin.tenants begin.are in
      omega (arith, n, f, t)

  pub orders_may_be_given : OrdersMayBeGiven → AreOrders labels starts (orders_for s refusals starts)
  orders_may_be_given may =
      may labels starts s.fabrics (map is_refused refusals) s.free (as_many_starts s loaded refusals labels starts begin) (as_many s.fabrics labels begin.room)
      (λ g l f lt. same_at (λ (k : Label). k.capacity) (λ (x : FabricLine). room_of x.capacity) labels s.fabrics begin.room g l f (let n = as_many s.fabrics labels begin.room in omega (arith, lt, n)))

-- tenants that begin are parcels
pub all_parcels : (labels : List Label) (starts : List Start) → AreStarts labels starts → AllByRecursion (λ x. IsParcel x.transit.parcel) starts
all_parcels labels starts h = all_each (λ (x : Start). IsParcel x.transit.parcel) starts (λ i d l. (h i d l).parcel)

-- ---- behind it

module _ (s : Script) (loaded : List Loaded) (refusals : List (Option Refusal)) (labels : List Label) (starts : List Start) (out : Outcome)
    (begin : Begin s loaded refusals labels starts) (outcome : IsOutcome labels starts (orders_for s refusals starts) out) where
  pub all_tellable : AllAreNamed → IsSpelt s → AreTellable refusals out.ended.items
  all_tellable named spelt =
      tellable named s.fabrics begin.tenants refusals begin.readies labels starts (orders_for s refusals starts) out begin.judged begin.begun outcome
      (given_named s.fabrics (map is_refused refusals) (costs_begun starts) s.free spelt.free)

  module _ (limits : IsWithinLimits s) (read : TenantsAreRead) (cost : EndAtTheirCosts) (done : DoAsOrders) (may : MayBeGiven) (seen : OrdersAreSeen) (all : AllAreReported) (reordered : MayBeReordered) where
    pub report_ok : {E : Type 0} (result : Result Reported E) → IfOk result (λ r. Says s refusals out.ended.items out.answers.items r.refused r.blocks.items r.text.items r.kept.items)
        → IfOk result (λ r. r.bays.items ≡ out.bays.items) → IfOk result (λ r. (files : Files) → AreLoaded files s.tenants loaded → IsReported files s r)
    report_ok (Ok r) says same = λ files there. is_reported s loaded refusals labels starts out begin outcome limits read cost done may seen all reordered files r says same there
    report_ok (Err e) says same = tt

  pub bays_ok : {E : Type 0} (result : Result Reported E) → IfOk result (λ r. r.bays.items ≡ out.bays.items) → IfOk result (λ r. AreBays s r.bays.items)
  bays_ok (Ok r) same =
      subst (λ (bs : List NotedCore). AreBays s bs) (sym same)
      (are_bays labels starts (orders_for s refusals starts) out begin.labelled outcome s begin.room (few_starts s loaded refusals labels starts begin))
  bays_ok (Err e) same = tt

  pub kept_ok : {E : Type 0} (result : Result Reported E) → IfOk result (λ r. Says s refusals out.ended.items out.answers.items r.refused r.blocks.items r.text.items r.kept.items)
      → IfOk result (λ r. AllByRecursion CanBeKept r.kept.items)
  kept_ok (Ok r) says = all_can refusals out.ended.items r.kept.items says.keeps
  kept_ok (Err e) says = tt

  pub count_ok : {E : Type 0} (result : Result Reported E) → IfOk result (λ r. Says s refusals out.ended.items out.answers.items r.refused r.blocks.items r.text.items r.kept.items)
      → IfOk result (λ r. length r.kept.items ≡ length s.tenants)
  count_ok (Ok r) says = kept_count refusals out.ended.items r.kept.items says.keeps ∙ as_many_refusals s loaded refusals labels starts begin
  count_ok (Err e) says = tt
