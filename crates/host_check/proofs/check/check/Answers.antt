use Rattle.std.proofs.Common.{ℕ, List, Err, subst}
use Rattle.std.proofs.lemmas.Result.{IfOk-weaker}
use Rattle.vl_front.specs.declared.fault.BuildError.{BuildError}
use Rattle.vl_front.specs.Sources.{IsFront, IsAcceptedOf}
use Rattle.host_check.specs.declared.check.Checked.{Checked}
use Rattle.host_check.specs.Checks.{HasChecked}
use Rattle.host_check.proofs.Sources.{refused-so}
use Rattle.host_check.proofs.check.check.Goals as goal

pub returns-in-Ok : goal.returns-in-Ok
returns-in-Ok c =
    let text = c.args.bytes.now in
    IfOk-weaker c.of_accepted.result (λ (x : Checked). (t : List ℕ) → IsAcceptedOf t c.in-Ok.design → HasChecked t x) (HasChecked text) (λ x h. h text c.in-Ok.ensures) c.of_accepted.ensures

pub returns-in-Err-Refused : goal.returns-in-Err-Refused
returns-in-Err-Refused c =
    let is = subst (λ (e : BuildError). IsFront c.args.bytes.now (Err e)) c.in-Err-Refused.field-0-is c.in-Err-Refused.ensures in
    refused-so c.refused.result c.args.bytes.now c.in-Err-Refused.place c.in-Err-Refused.kind is c.refused.ensures.status c.refused.ensures.text
