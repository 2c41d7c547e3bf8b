-- The tenants of a script, judged and begun.
use Rattle.std.proofs.Common.{◌≡◌, List, Option, sym, subst, Ok, Err}
use Rattle.std.specs.Prelude.{IfOk, Result}
use Rattle.host_text.specs.declared.script.Script.{Script}
use Rattle.fab_rounds.specs.fab_orders.specs.Starts.{AreLabels, AreStarts}
use Rattle.host_form.specs.Origins.{Tenant}
use Rattle.host_files.specs.declared.loaded.Loaded.{Loaded}
use Rattle.host_judge.specs.declared.verdict.Ready.{Ready}
use Rattle.host_form.specs.declared.refusal.Refusal.{Refusal}
use Rattle.host_judge.specs.Judged.{AreJudged, AreTenants}
use Rattle.host_run.specs.Rooms.{HaveRoom}
use Rattle.host_outcomes.specs.Begun.{AreBegun}
use Rattle.host_run.specs.declared.prepared.Prepared.{Prepared}
use Rattle.host_run.specs.Steps.{Begin}

module _ (s : Script) (loaded : List Loaded) (tenants : List Tenant) (refusals : List (Option Refusal)) (readies : List Ready)
    (are : AreTenants s.tenants loaded tenants) (j : AreJudged s.fabrics tenants refusals readies) where
  pub begins : {E : Type 0} (result : Result Prepared E) → IfOk result (λ p. p.refusals.items ≡ refusals) → IfOk result (λ p. AreLabels p.starts.items p.labels.items)
      → IfOk result (λ p. AreStarts p.labels.items p.starts.items) → IfOk result (λ p. AreBegun readies p.starts.items) → IfOk result (λ p. HaveRoom s.fabrics p.labels.items)
      → IfOk result (λ p. Begin s loaded p.refusals.items p.labels.items p.starts.items)
  begins (Ok p) same labels starts begun room = record {
    tenants = tenants;
    are = are;
    readies = readies;
    judged = subst (λ (rs : List (Option Refusal)). AreJudged s.fabrics tenants rs readies) (sym same) j;
    begun = begun;
    labelled = labels;
    placed = starts;
    room = room;
  }
  begins (Err e) same labels starts begun room = tt
