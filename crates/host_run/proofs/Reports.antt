-- What was said of the tenants of a script is its report.
use Rattle.std.proofs.Common.{◌≡◌, ℕ, ◌<◌, Bool, List, [], length, get_or, map, refl, sym, ap, ◌∙◌, subst, Option}
use Rattle.std.specs.List.{AllByRecursion}
use Rattle.host_form.specs.fab_io.specs.Outside.{Files}
use Rattle.host_text.specs.vl_design.specs.Cost.{Cost}
use Rattle.host_text.specs.declared.block.Block.{Block}
use Rattle.host_text.specs.Report.{report}
use Rattle.host_text.specs.declared.script.FabricLine.{FabricLine}
use Rattle.host_text.specs.declared.script.Free.{Free}
use Rattle.host_text.specs.declared.script.Script.{Script}
use Rattle.host_text.specs.declared.script.TenantLine.{TenantLine}
use Rattle.host_text.specs.Laws.{IsWithinLimits}
use Rattle.host_report.specs.fab_model.specs.declared.transit.Transit.{Transit}
use Rattle.fab_rounds.specs.fab_bay.specs.declared.noted.Label.{Label}
use Rattle.fab_rounds.specs.fab_bay.specs.declared.noted.NotedCore.{NotedCore}
use Rattle.fab_rounds.specs.fab_bay.specs.Ways.{AreBelow}
use Rattle.fab_rounds.specs.fab_orders.specs.declared.outcomes.Answer.{Answer}
use Rattle.fab_rounds.specs.fab_orders.specs.declared.outcomes.Order.{Order}
use Rattle.fab_rounds.specs.fab_orders.specs.declared.outcomes.Outcome as rounds
use Rattle.fab_rounds.specs.fab_orders.specs.declared.outcomes.Start.{Start}
use Rattle.fab_rounds.specs.fab_orders.specs.Outcomes.{IsOutcome}
use Rattle.fab_rounds.specs.fab_orders.specs.Starts.{AreLabels, AreStarts}
use Rattle.host_form.specs.Histories.{Histories}
use Rattle.host_form.specs.Orders.{free_line, Answered}
use Rattle.host_form.specs.Origins.{Tenant}
use Rattle.host_form.specs.Replies.{AreAnswered}
use Rattle.host_form.specs.Reports.{blocks_of, AreOutcomes, AreRead}
use Rattle.host_form.specs.Runs.{Outcome}
use Rattle.host_form.specs.Saves.{AreSaved}
use Rattle.host_files.specs.declared.loaded.Loaded.{Loaded}
use Rattle.host_files.specs.Reading.{AreLoaded}
use Rattle.host_judge.specs.declared.verdict.Ready.{Ready}
use Rattle.host_form.specs.declared.refusal.Refusal.{Refusal}
use Rattle.host_judge.specs.Judged.{judged, AreJudged, AreTenants}
use Rattle.host_outcomes.specs.Begun.{AreBegun}
use Rattle.host_outcomes.specs.Ends.{is_refusal, AreTold, DidAs}
use Rattle.host_report.specs.Ends.{is_refused, AreEnds}
use Rattle.host_outcomes.specs.Reported.{histories_for, number_in, numbers_from, running, AreOfThoseThatRun}
use Rattle.host_outcomes.specs.Seen.{Sees}
use Rattle.host_files.specs.Writes.{after_writes, writes_of}
use Rattle.host_outcomes.specs.Given.{answered, costs_begun, costs_of, given}
use Rattle.host_run.specs.declared.reported.Reported.{Reported}
use Rattle.host_run.specs.Reported.{IsReported}
use Rattle.host_run.specs.Steps.{orders_for, AreAnswersTo, Begin, Says}
use Rattle.host_run.proofs.BaysOfScript.{all_below}
use Rattle.host_run.proofs.Saves.{are_saved, MayBeReordered}
use Rattle.host_run.proofs.Tellable.{lines_same, readies_count, refusals_count, starts_count, tenants_count}

-- ---- what the libraries below say

abbrev pub TenantsAreRead : Type 0
TenantsAreRead = (files : Files) (lines : List TenantLine) (loaded : List Loaded) (tenants : List Tenant) → AreLoaded files lines loaded → AreTenants lines loaded tenants → AreRead judged files lines tenants

abbrev pub AllAreReported : Type 0
AllAreReported = (s : Script) (tenants : List Tenant) (refusals : List (Option Refusal)) (readies : List Ready) (labels : List Label) (starts : List Start) (orders : List Order) (out : rounds.Outcome) (answers : List Answered) (xs : List Outcome) →
    AreJudged s.fabrics tenants refusals readies → AreBegun readies starts → AreLabels starts labels → AreStarts labels starts → IsOutcome labels starts orders out →
    DidAs (map is_refused refusals) answers out.answers.items → AreEnds refusals out.ended.items xs →
    (ys : List Outcome) × AreOutcomes s (histories_for (map is_refused refusals) out.bays.items) answers 0 tenants ys
    × (blocks_of s tenants ys ≡ blocks_of s tenants xs) × (map is_refusal ys ≡ map is_refused refusals) × AreTold answers 0 refusals out.ended.items ys

abbrev pub OrdersAreSeen : Type 0
OrdersAreSeen = (labels : List Label) (starts : List Start) (orders : List Order) (out : rounds.Outcome) (refused : List Bool) → AreLabels starts labels → AreStarts labels starts →
    IsOutcome labels starts orders out → (k n : ℕ) (d : Start) → k < length starts → k < length (numbers_from 0 refused) → number_in refused k ≡ n →
    Sees (histories_for refused out.bays.items) n k (get_or starts k d) out

abbrev pub EndAtTheirCosts : Type 0
EndAtTheirCosts = (labels : List Label) (starts : List Start) (orders : List Order) (out : rounds.Outcome) → IsOutcome labels starts orders out → costs_of out.ended.items ≡ costs_begun starts

abbrev pub DoAsOrders : Type 0
DoAsOrders = (fabrics : List FabricLine) (refused : List Bool) (costs : List Cost) (free : List Free) (theirs : List Answer) →
    map (λ a. a.order.value) theirs ≡ given fabrics refused costs free →
    DidAs refused (answered fabrics refused costs free theirs) theirs × (map (λ a. a.order) (answered fabrics refused costs free theirs) ≡ free)

abbrev pub MayBeGiven : Type 0
MayBeGiven = (s : Script) (tenants : List Tenant) (refusals : List (Option Refusal)) (readies : List Ready) (labels : List Label) (starts : List Start) (orders : List Order) (out : rounds.Outcome) (histories : Histories) (ys : List Outcome) →
    IsWithinLimits s → length tenants ≡ length s.tenants → AreBegun readies starts → IsOutcome labels starts orders out →
    orders ≡ given s.fabrics (map is_refused refusals) (costs_begun starts) s.free →
    ((k n : ℕ) (d : Start) → k < length starts → k < length (numbers_from 0 (map is_refused refusals)) → number_in (map is_refused refusals) k ≡ n →
    Sees histories n k (get_or starts k d) out) →
    AreOutcomes s histories (answered s.fabrics (map is_refused refusals) (costs_of out.ended.items) s.free out.answers.items) 0 tenants ys →
    AreTold (answered s.fabrics (map is_refused refusals) (costs_of out.ended.items) s.free out.answers.items) 0 refusals out.ended.items ys →
    AreAnswered s.fabrics histories ys [] (answered s.fabrics (map is_refused refusals) (costs_of out.ended.items) s.free out.answers.items)

-- ---- the report

module _ (s : Script) (loaded : List Loaded) (refusals : List (Option Refusal)) (labels : List Label) (starts : List Start) (begin : Begin s loaded refusals labels starts) where
  pub as_many_starts : length starts ≡ running (map is_refused refusals)
  as_many_starts = starts_count begin.readies starts begin.begun ∙ readies_count s.fabrics begin.tenants refusals begin.readies begin.judged

module _ (s : Script) (loaded : List Loaded) (refusals : List (Option Refusal)) (labels : List Label) (starts : List Start) (out : rounds.Outcome)
    (begin : Begin s loaded refusals labels starts) (outcome : IsOutcome labels starts (orders_for s refusals starts) out) where
  -- the orders that were given are answered
  pub are_answers : EndAtTheirCosts → AreAnswersTo s refusals out.ended.items out.answers.items
  are_answers cost =
      outcome.asked
      ∙ ap (λ (costs : List Cost). given s.fabrics (map is_refused refusals) costs s.free) (sym (cost labels starts (orders_for s refusals starts) out outcome))

  module _ (limits : IsWithinLimits s) (read : TenantsAreRead) (cost : EndAtTheirCosts) (done : DoAsOrders) (may : MayBeGiven) (seen : OrdersAreSeen) (all : AllAreReported) (reordered : MayBeReordered) where
    abbrev ended : List Transit
    ended = out.ended.items

    abbrev refused : List Bool
    refused = map is_refused refusals

    abbrev answers : List Answered
    answers = answered s.fabrics (map is_refused refusals) (costs_of out.ended.items) s.free out.answers.items

    abbrev orders : List Order
    orders = orders_for s refusals starts

    lines : map (λ t. t.line) begin.tenants ≡ s.tenants
    lines = lines_same s.tenants loaded begin.tenants begin.are

    did : DidAs refused answers out.answers.items × (map (λ a. a.order) answers ≡ s.free)
    did = done s.fabrics refused (costs_of ended) s.free out.answers.items (are_answers cost)

    sees : (bays : List NotedCore) → bays ≡ out.bays.items → (k n : ℕ) (d : Start) → k < length starts → k < length (numbers_from 0 refused) → number_in refused k ≡ n
        → Sees (histories_for refused bays) n k (get_or starts k d) out
    sees bays same k n d lt kl kn =
        subst (λ (bs : List NotedCore). Sees (histories_for refused bs) n k (get_or starts k d) out) (sym same)
        (seen labels starts orders out refused begin.labelled begin.placed outcome k n d lt kl kn)

    pub is_reported : (files : Files) (r : Reported) → Says s refusals out.ended.items out.answers.items r.refused r.blocks.items r.text.items r.kept.items → r.bays.items ≡ out.bays.items → AreLoaded files s.tenants loaded → IsReported files s r
    is_reported files r says same there =
        let told = all s begin.tenants refusals begin.readies labels starts orders out answers says.outcomes begin.judged begin.begun begin.labelled begin.placed outcome did.0 says.ends in
        let ys = told.0 in
        let comes : AreOutcomes s (histories_for refused r.bays.items) answers 0 begin.tenants ys =
        subst (λ (bays : List NotedCore). AreOutcomes s (histories_for refused bays) answers 0 begin.tenants ys) (sym same) told.1 in
        record {
          refusals = refused;
          report = record {
            tenants = begin.tenants;
            outcomes = ys;
            answers = answers;
            read = read files s.tenants loaded begin.tenants there begin.are;
            comes = comes;
            orders = did.1;
            replies = may s begin.tenants refusals begin.readies labels starts orders out (histories_for refused r.bays.items) ys limits (tenants_count s.tenants loaded begin.tenants begin.are)
                begin.begun outcome refl (sees r.bays.items same) comes told.4;
            is = says.is begin.tenants lines ∙ ap (λ (bs : List Block). report bs (map (free_line s) answers)) (sym told.2);
          };
          refused = told.3;
          those = subst (λ (bays : List NotedCore). AreOfThoseThatRun refused bays) (sym same)
              (subst (λ (n : ℕ). AllByRecursion (λ (b : NotedCore). AreBelow n b.notes.items) out.bays.items) (as_many_starts s loaded refusals labels starts begin)
              (all_below labels starts orders out begin.labelled outcome));
          blocks = says.told begin.tenants lines ∙ sym told.2;
          any = says.any;
          saves = subst (λ (ls : List TenantLine). AreSaved answers 0 begin.tenants ys files (after_writes (writes_of ls r.kept.items) files)) lines
              (are_saved reordered answers 0 begin.tenants refusals ended r.kept.items ys files (refusals_count s.fabrics begin.tenants refusals begin.readies begin.judged) told.4 says.keeps);
        }
