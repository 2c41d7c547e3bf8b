use Rattle.std.proofs.Common.{◌≡◌, map, length, subst, List}
use Rattle.std.specs.Prelude.{◌&&◌, not, nat_lt}
use Rattle.vl_check.specs.declared.calls.Save.{Save as Call}
use Rattle.vl_check.specs.Saves.{is_given}
use Rattle.vl_check.specs.SeenOfSaves.{save_of}
use Rattle.vl_check.proofs.Counting.{pushed-tells, kept-tells}
use Rattle.vl_check.proofs.saves.add_new.Goals as goal

pub returns-in_ok-push : goal.returns-in_ok-push
returns-in_ok-push c = pushed-tells c.args.ones.now.items c.push.new.self.items c.args.call.now c.is_new.result
    (subst (λ (zs : List Call). c.is_new.result ≡ (nat_lt (length zs) 17 && not (is_given (map save_of zs) (save_of c.args.call.now)))) c.as_slice.ensures.value c.is_new.ensures) c.if-is_new.true c.in_ok-push.ensures.items

pub returns-else-is_new : goal.returns-else-is_new
returns-else-is_new c = kept-tells c.args.ones.now.items c.args.call.now c.is_new.result
    (subst (λ (zs : List Call). c.is_new.result ≡ (nat_lt (length zs) 17 && not (is_given (map save_of zs) (save_of c.args.call.now)))) c.as_slice.ensures.value c.is_new.ensures) c.if-is_new.false
