-- What is said of the tenants of a script.
use Rattle.std.proofs.Common.{◌≡◌, Bool, List, map, sym, ap, ◌∙◌, subst, Option, Ok, Err}
use Rattle.std.specs.Prelude.{IfOk, Result}
use Rattle.std.specs.List.{list_any}
use Rattle.host_text.specs.declared.block.Block.{Block}
use Rattle.host_text.specs.declared.block.FreeLine.{FreeLine}
use Rattle.host_text.specs.Report.{report}
use Rattle.host_text.specs.declared.script.Script.{Script}
use Rattle.host_report.specs.fab_model.specs.declared.transit.Transit.{Transit}
use Rattle.fab_rounds.specs.fab_orders.specs.declared.outcomes.Answer.{Answer}
use Rattle.host_form.specs.Orders.{free_line}
use Rattle.host_form.specs.Reports.{blocks_of}
use Rattle.host_form.specs.declared.refusal.Refusal.{Refusal}
use Rattle.host_report.specs.Ends.{is_refused}
use Rattle.host_files.specs.declared.kept.Kept.{Kept}
use Rattle.host_report.specs.declared.tell.Told.{Told}
use Rattle.host_report.specs.Telling.{AreKept, IsToldOf}
use Rattle.host_outcomes.specs.Given.{answered, costs_of}
use Rattle.host_run.specs.declared.said.Said.{Said}
use Rattle.host_run.specs.Steps.{Says}

module _ (s : Script) (refusals : List (Option Refusal)) (ended : List Transit) (answers : List Answer) (t : Told) (was : Bool) (lines : List FreeLine)
    (any : was ≡ list_any (λ x. x) (map is_refused refusals)) (free : lines ≡ map (free_line s) (answered s.fabrics (map is_refused refusals) (costs_of ended) s.free answers))
    (told : IsToldOf s refusals ended t) where
  pub says_ok : {E : Type 0} (result : Result Said E) → IfOk result (λ x. x.refused ≡ was) → IfOk result (λ x. x.blocks.items ≡ t.blocks.items) → IfOk result (λ x. x.text.items ≡ report t.blocks.items lines)
      → IfOk result (λ x. x.kept.items ≡ t.kept.items) → IfOk result (λ x. Says s refusals ended answers x.refused x.blocks.items x.text.items x.kept.items)
  says_ok (Ok x) a k b c = record {
    any = a ∙ any;
    outcomes = told.outcomes;
    ends = told.ends;
    told = λ tenants e. k ∙ told.blocks tenants e;
    is = λ tenants e.
        b ∙ ap (λ (bs : List Block). report bs lines) (told.blocks tenants e)
        ∙ ap (λ (ls : List FreeLine). report (blocks_of s tenants told.outcomes) ls) free;
    keeps = subst (λ (ks : List (Option Kept)). AreKept refusals ended ks) (sym c) told.kept;
  }
  says_ok (Err e) a k b c = tt
