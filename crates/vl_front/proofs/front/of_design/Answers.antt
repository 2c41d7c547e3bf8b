use Rattle.std.proofs.Common.{refl, ap}
use Rattle.vl_front.specs.declared.fault.Kind.TheVariants as k
use Rattle.vl_front.specs.Sources.{unfit, too_large, looped}
use Rattle.vl_front.proofs.Telling.{told}
use Rattle.vl_front.proofs.front.of_design.Goals as goal

pub returns-in-Err-Construct : goal.returns-in-Err-Construct
returns-in-Err-Construct c = λ text is.
    told text _ _ _ _ _ c.refused.ensures c.in-Err-Construct.place-is (ap (λ n. k.Construct n) c.in-Err-Construct.number-is)
    (unfit is (rw c.in-Err-Construct.field-0-is at c.in-Err-Construct.ensures) refl)

pub returns-in-Err-Limit : goal.returns-in-Err-Limit
returns-in-Err-Limit c = λ text is.
    told text _ _ _ _ _ c.refused-in-Err-Limit.ensures c.in-Err-Limit.place-is (ap (λ n. k.Limit n) c.in-Err-Limit.number-is)
    (too_large is (rw c.in-Err-Limit.field-0-is at c.in-Err-Limit.ensures) refl)

pub returns-in-Err-Loop : goal.returns-in-Err-Loop
returns-in-Err-Loop c = λ text is.
    told text _ _ _ _ _ c.refused-in-Err-Loop.ensures c.in-Err-Loop.place-is refl
    (looped is (rw c.in-Err-Loop.field-0-is at c.in-Err-Loop.ensures) refl)
