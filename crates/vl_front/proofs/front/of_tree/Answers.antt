use Rattle.std.proofs.Common.{refl, ap}
use Rattle.vl_elab.specs.vl_design.specs.Seen.{placed}
use Rattle.vl_front.specs.declared.fault.Kind.TheVariants as k
use Rattle.vl_front.specs.Sources.{misbuilt, outgrown}
use Rattle.vl_front.proofs.Telling.{told}
use Rattle.vl_front.proofs.front.of_tree.Goals as goal

pub of_design-requires : goal.of_design-requires
of_design-requires c = record { fit = c.an_elaborated_design_is_fit_to_be_judged.ensures c.args.tree.now (placed c.in-Ok.design) c.in-Ok.ensures.elaborated }

pub returns-in-Ok : goal.returns-in-Ok
returns-in-Ok c = λ text is. c.of_design.ensures text (record { tree = c.args.tree.now; of = is; elaborated = c.in-Ok.ensures.elaborated })

pub returns-in-Err-Construct : goal.returns-in-Err-Construct
returns-in-Err-Construct c = λ text is.
    told text _ _ _ _ _ c.refused.ensures c.in-Err-Construct.place-is (ap (λ n. k.Construct n) c.in-Err-Construct.number-is)
    (misbuilt is (rw c.in-Err-Construct.field-0-is at c.in-Err-Construct.ensures.elaborated) refl)

pub returns-in-Err-Limit : goal.returns-in-Err-Limit
returns-in-Err-Limit c = λ text is.
    told text _ _ _ _ _ c.refused-in-Err-Limit.ensures c.in-Err-Limit.place-is (ap (λ n. k.Limit n) c.in-Err-Limit.number-is)
    (outgrown is (rw c.in-Err-Limit.field-0-is at c.in-Err-Limit.ensures.elaborated) refl)
