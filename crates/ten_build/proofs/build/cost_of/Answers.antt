use Rattle.std.proofs.Common.{◌≡◌, List, ℕ}
use Rattle.std.proofs.lemmas.Result.{IfOk-weaker}
use Rattle.vl_loops.specs.vl_design.specs.Costs.{saturated_cost}
use Rattle.vl_loops.specs.vl_design.specs.declared.capacity.Cost.{Cost}
use Rattle.vl_loops.specs.vl_design.specs.Cost as sums
use Rattle.vl_loops.specs.vl_design.specs.Trees.{flat_of}
use Rattle.vl_front.specs.Sources.{IsAcceptedOf}
use Rattle.ten_build.specs.Builds.{HasCost}
use Rattle.ten_build.proofs.Building.{is-unrolled, has-cost}
use Rattle.ten_build.proofs.build.cost_of.Goals as goal

pub cost-requires : goal.cost-requires
cost-requires c =
    let r = c.requires in
    is-unrolled r.0 c.args.accepted.now r.1 c.an_elaborated_design_is_fit_to_be_judged.ensures c.no_loop_is_left.ensures.design

pub returns : goal.returns
returns c =
    let a = c.args.accepted.now in
    IfOk-weaker c.cost.result (λ (x : Cost). x ≡ saturated_cost (sums.cost (flat_of a.design)))
    (λ (x : Cost). (text : List ℕ) → IsAcceptedOf text a → HasCost text x)
    (λ x e text is. has-cost text a is x c.an_elaborated_design_is_fit_to_be_judged.ensures c.costs_the_same.ensures e)
    c.cost.ensures
