-- A tenant that ends at once.
use Rattle.std.proofs.Common.{◌≡◌, ℕ, zero, suc, ◌==◌, List, [], ◌∷◌, filter, codes, Some, None, refl, sym, ap₂, ◌∙◌}
use Rattle.std.specs.Fmt.{digits}
use Rattle.std.specs.List.{AllByRecursion}
use Rattle.fab_io.specs.Outside.{Files}
use Rattle.host_text.specs.vl_design.specs.declared.design.End.TheVariants.{Budget}
use Rattle.host_text.specs.vl_design.specs.Queue.{Queue}
use Rattle.host_text.specs.vl_design.specs.Alone.{Ends}
use Rattle.host_text.specs.vl_design.specs.Examples.{greets}
use Rattle.host_text.specs.vl_design.proofs.Ending.{ends_by}
use Rattle.host_text.specs.declared.block.Status.TheVariants as status
use Rattle.host_text.specs.declared.block.Block.TheVariants as b
use Rattle.host_text.specs.Report.{report}
use Rattle.host_form.specs.Origins.{Source, Accepted, Tenant, anew}
use Rattle.host_form.proofs.Times.{each-by-lists}
use Rattle.host_form.specs.Histories.{history_of, lines_of, visits_on}
use Rattle.host_form.specs.Runs.{alone, RunsAsNoted, IsPutNowhere, at_once, Run, IsRun, Ran}
use Rattle.host_form.specs.Reports.{IsReport}
use Rattle.host_form.specs.Examples.{greeting_line, greeting_script, greeting_origin}
use Rattle.host_form.proofs.Tight.{nowhere as greeting-nowhere}

greeting-end : (q : Queue) × Ends greeting_origin 0 Budget q × (q.state.printed ≡ codes "hi\n") × (q.state.count ≡ 3)
unfolding digits
greeting-end = (_, ends_by greeting_origin 9 0 Budget _ refl refl refl refl, refl, refl)

greeting-each : (g : ℕ) → filter (λ v. v.fabric == g) [] ≡ visits_on ([] ∷ []) 0 g
greeting-each zero = refl
greeting-each (suc g) = refl

greeting-noted : (g : ℕ) → AllByRecursion (λ m. RunsAsNoted greeting_origin m.origin) (lines_of 0 (history_of ([] ∷ []) g))
greeting-noted zero = tt
greeting-noted (suc g) = tt

abbrev greeting-tenant : Tenant
greeting-tenant = record { line = greeting_line; source = Accepted greets; files = []; snapshot = None }

abbrev greeting-run : Run
greeting-run = record { origin = greeting_origin; tick = 0; reason = Budget; last = greeting-end.0; visits = [] }

greeting-runs : IsRun greeting_script.fabrics ([] ∷ []) [] 0 greeting-tenant greeting-run
greeting-runs = record {
  origin = record { design = refl; room = refl; files = refl; plan = refl; start = anew };
  end = alone refl greeting-end.1;
  visits = record { each = each-by-lists ([] ∷ []) 0 [] greeting-each; ordered = tt; chain = refl };
  lines = at_once refl refl greeting-nowhere;
  noted = greeting-noted;
}

abbrev greeting-report : List ℕ → ℕ → List ℕ
greeting-report printed count = report (b.Ran (record { name = codes "A"; status = status.Budget; ticks = 0; cycles = count; printed = printed; stays = [] }) ∷ []) []

greeting-bytes : greeting-report (codes "hi\n") 3 ≡ codes "tenant A budget 0 3 3\nhi\n\n"
unfolding digits
greeting-bytes = refl

pub greeting-reported : (judged : List ℕ → Source → Type 0) (told : Files) (text : List ℕ) → told (codes "m.v") ≡ Some text → judged text (Accepted greets)
    → IsReport judged told greeting_script ([] ∷ []) (codes "tenant A budget 0 3 3\nhi\n\n")
greeting-reported judged told text there is = record {
  tenants = greeting-tenant ∷ [];
  outcomes = Ran greeting-run ∷ [];
  answers = [];
  read = (record { text = text; is = refl; there = there; source = is; files = tt; snapshot = tt }, tt);
  comes = (greeting-runs, tt);
  orders = refl;
  replies = tt;
  is = sym (ap₂ greeting-report greeting-end.2 greeting-end.3 ∙ greeting-bytes);
}
