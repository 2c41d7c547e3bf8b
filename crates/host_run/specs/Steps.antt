-- What stands between the judging of a script's tenants and their report (own).
use Rattle.std.specs.Prelude.{◌≡◌, ℕ, Bool, List, map, Option}
use Rattle.std.specs.List.{list_any}
use Rattle.host_text.specs.declared.script.Script.{Script}
use Rattle.host_text.specs.declared.block.Block.{Block}
use Rattle.host_text.specs.Report.{report}
use Rattle.host_report.specs.fab_model.specs.declared.transit.Transit.{Transit}
use Rattle.fab_rounds.specs.fab_bay.specs.declared.noted.Label.{Label}
use Rattle.fab_rounds.specs.fab_orders.specs.declared.outcomes.Answer.{Answer}
use Rattle.fab_rounds.specs.fab_orders.specs.declared.outcomes.Order.{Order}
use Rattle.fab_rounds.specs.fab_orders.specs.declared.outcomes.Start.{Start}
use Rattle.fab_rounds.specs.fab_orders.specs.Starts.{AreLabels, AreStarts}
use Rattle.host_form.specs.Orders.{free_line}
use Rattle.host_form.specs.Origins.{Tenant}
use Rattle.host_form.specs.Reports.{blocks_of}
use Rattle.host_form.specs.Runs.{Outcome}
use Rattle.host_files.specs.declared.loaded.Loaded.{Loaded}
use Rattle.host_judge.specs.declared.verdict.Ready.{Ready}
use Rattle.host_form.specs.declared.refusal.Refusal.{Refusal}
use Rattle.host_judge.specs.Judged.{AreJudged, AreTenants}
use Rattle.host_run.specs.Rooms.{HaveRoom}
use Rattle.host_outcomes.specs.Begun.{AreBegun}
use Rattle.host_report.specs.Ends.{is_refused, AreEnds}
use Rattle.host_files.specs.declared.kept.Kept.{Kept}
use Rattle.host_report.specs.Telling.{AreKept}
use Rattle.host_outcomes.specs.Given.{answered, costs_begun, costs_of, given}

-- tenants are judged so, and those that run stand at the first boundaries of their runs, on fabrics of these labels
pub record Begin (s : Script) (loaded : List Loaded) (refusals : List (Option Refusal)) (labels : List Label) (starts : List Start) : Type 0 where
  pub tenants : List Tenant
  pub are : AreTenants s.tenants loaded tenants
  pub readies : List Ready
  pub judged : AreJudged s.fabrics tenants refusals readies
  pub begun : AreBegun readies starts
  pub labelled : AreLabels starts labels
  pub placed : AreStarts labels starts
  pub room : HaveRoom s.fabrics labels

-- the orders that are given to those that run
abbrev pub orders_for : Script → List (Option Refusal) → List Start → List Order
orders_for s refusals starts = given s.fabrics (map is_refused refusals) (costs_begun starts) s.free

-- these are answers to them, where those that run have ended so
abbrev pub AreAnswersTo : Script → List (Option Refusal) → List Transit → List Answer → Type 0
AreAnswersTo s refusals ended answers = map (λ a. a.order.value) answers ≡ given s.fabrics (map is_refused refusals) (costs_of ended) s.free

-- what is said of tenants that are refused so or have ended so, where orders have these answers
pub record Says (s : Script) (refusals : List (Option Refusal)) (ended : List Transit) (answers : List Answer) (refused : Bool) (blocks : List Block) (text : List ℕ) (kept : List (Option Kept)) : Type 0 where
  pub any : refused ≡ list_any (λ x. x) (map is_refused refusals)
  pub outcomes : List Outcome
  pub ends : AreEnds refusals ended outcomes
  pub told : (tenants : List Tenant) → map (λ t. t.line) tenants ≡ s.tenants → blocks ≡ blocks_of s tenants outcomes
  pub is : (tenants : List Tenant) → map (λ t. t.line) tenants ≡ s.tenants →
      text ≡ report (blocks_of s tenants outcomes) (map (free_line s) (answered s.fabrics (map is_refused refusals) (costs_of ended) s.free answers))
  pub keeps : AreKept refusals ended kept
