use Rattle.std.proofs.Common.{refl, ap}
use Rattle.vl_front.specs.declared.fault.Kind.TheVariants as k
use Rattle.vl_front.specs.Sources.{fault, passed}
use Rattle.vl_front.proofs.Telling.{told}
use Rattle.vl_front.proofs.front.front.Goals as goal

pub returns-in-Err-At : goal.returns-in-Err-At
returns-in-Err-At c =
    told c.args.text.now _ _ _ _ _ c.refused.ensures c.in-Err-At.place-is (ap (λ n. k.Lex n) c.in-Err-At.cause-is)
    (fault (rw c.in-Err-At.field-0-is at c.in-Err-At.ensures.refused) refl)

pub returns-in-Err-Limit : goal.returns-in-Err-Limit
returns-in-Err-Limit c =
    told c.args.text.now _ _ _ _ _ c.refused-in-Err-Limit.ensures c.in-Err-Limit.place-is (ap (λ n. k.Limit n) c.in-Err-Limit.number-is)
    (passed (rw c.in-Err-Limit.field-0-is at c.in-Err-Limit.ensures.refused) refl)
