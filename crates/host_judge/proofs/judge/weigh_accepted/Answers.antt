use Rattle.std.proofs.Common.{◌≡◌, ℕ, List, Option}
use Rattle.std.proofs.lemmas.Result.{IfOk-weaker}
use Rattle.ten_core.specs.vl_design.specs.Costs.{saturated_cost}
use Rattle.ten_core.specs.vl_design.specs.Cost.{cost}
use Rattle.ten_core.specs.vl_design.specs.Syntax.{Flat}
use Rattle.vl_front.specs.Sources.{IsAcceptedOf}
use Rattle.host_files.specs.host_form.specs.declared.refusal.Refusal.{Refusal}
use Rattle.host_judge.specs.Deciding.{IsWeighed, IsWeighedOf}
use Rattle.host_judge.proofs.judge.weigh_accepted.Goals as goal

pub returns : goal.returns
returns c =
    let fabrics = c.args.fabrics.now in
    let line = c.args.line.now in
    IfOk-weaker c.weigh.result (λ (r : Option Refusal). (e : Flat) → c.in_ok-cost.cost ≡ saturated_cost (cost e) → IsWeighed fabrics line e r)
    (λ (r : Option Refusal). (text : List ℕ) → IsAcceptedOf text c.args.accepted.now → IsWeighedOf text fabrics line r)
    (λ r h text is. let told = c.in_ok-cost.ensures text is in (told.design, told.stands, h told.design told.is))
    c.weigh.ensures
