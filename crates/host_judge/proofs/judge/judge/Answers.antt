use Rattle.std.proofs.Common.{ℕ, List, Err, refl, subst}
use Rattle.std.proofs.lemmas.Result.{IfOk-weaker}
use Rattle.vl_front.specs.Sources.{IsAcceptedOf, IsFront}
use Rattle.host_files.specs.host_form.specs.Origins.{Tenant}
use Rattle.host_files.specs.Reading.{bytes_in}
use Rattle.host_judge.specs.declared.judge.Verdict.{Verdict}
use Rattle.host_judge.specs.Judged.{IsTenantOf}
use Rattle.host_judge.specs.Deciding.{accepted, IsSourceRefused, IsVerdict, IsVerdictOf}
use Rattle.host_judge.proofs.Decided.{refused-source}
use Rattle.host_judge.proofs.judge.judge.Goals as goal

pub returns-in-Ok : goal.returns-in-Ok
returns-in-Ok c =
    let loaded = c.args.loaded in
    let line = c.args.line.now in
    let bytes = bytes_in loaded.snapshot in
    let is : IsAcceptedOf loaded.source.items c.in-Ok.accepted = subst (λ (t : List ℕ). IsAcceptedOf t c.in-Ok.accepted) c.deref.ensures.value (c.in-Ok.ensures {u = tt}) in
    IfOk-weaker c.judge_accepted.result
    (λ (v : Verdict). (text : List ℕ) → IsAcceptedOf text c.in-Ok.accepted → IsVerdictOf text c.args.fabrics.now line loaded.files bytes v)
    (λ (v : Verdict). (x : Tenant) × IsTenantOf line loaded x × IsVerdict c.args.fabrics.now x v)
    (λ v h.
    let told = h loaded.source.items is in
    (accepted line told.0 loaded.files bytes, record { is = refl; source = told.1; files = refl; snapshot = refl }, told.2))
    c.judge_accepted.ensures

pub returns : goal.returns
returns c =
    let here : IsFront c.args.loaded.source.items (Err c.in-Err.error) = subst (λ (t : List ℕ). IsFront t (Err c.in-Err.error)) c.deref.ensures.value (c.in-Err.ensures {u = tt}) in
    IfOk-weaker c.refused_source.result (IsSourceRefused c.in-Err.error)
    (λ (v : Verdict). (x : Tenant) × IsTenantOf c.args.line.now c.args.loaded x × IsVerdict c.args.fabrics.now x v)
    (λ v e. refused-source c.args.fabrics.now c.args.line.now c.args.loaded c.in-Err.error v here e)
    c.refused_source.ensures
