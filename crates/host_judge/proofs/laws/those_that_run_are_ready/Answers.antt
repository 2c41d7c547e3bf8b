use Rattle.std.proofs.Common.{List, [], ◌∷◌, Option, Some, None}
use Rattle.host_files.specs.host_text.specs.declared.script.FabricLine.{FabricLine}
use Rattle.host_files.specs.host_form.specs.Origins.{Tenant}
use Rattle.host_judge.specs.declared.verdict.Ready.{Ready}
use Rattle.host_files.specs.host_form.specs.declared.refusal.Refusal.{Refusal}
use Rattle.host_judge.specs.Judged.{AreJudged, AreReady}
use Rattle.host_judge.proofs.laws.those_that_run_are_ready.Goals as goal

are-ready : (fabrics : List FabricLine) (tenants : List Tenant) (refusals : List (Option Refusal)) (readies : List Ready) → AreJudged fabrics tenants refusals readies → AreReady fabrics readies
are-ready fabrics [] [] [] h = tt
are-ready fabrics [] [] (r ∷ readies) h = absurd h
are-ready fabrics [] (x ∷ refusals) readies h = absurd h
are-ready fabrics (t ∷ ts) [] readies h = absurd h
are-ready fabrics (t ∷ ts) (Some x ∷ refusals) readies h = are-ready fabrics ts refusals readies h.1
are-ready fabrics (t ∷ ts) (None ∷ refusals) [] h = absurd h
are-ready fabrics (t ∷ ts) (None ∷ refusals) (r ∷ readies) h = ((t, h.0), are-ready fabrics ts refusals readies h.1)

pub returns : goal.returns
returns c = are-ready
