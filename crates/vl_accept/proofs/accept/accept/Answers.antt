use Rattle.std.proofs.Common.{◌≡◌, refl, sym, subst, Result, Ok, Err}
use Rattle.std.specs.Prelude.{⊤, IsErrAnd}
use Rattle.vl_check.specs.vl_design.specs.Seen.{placed}
use Rattle.vl_accept.specs.Stopping.{fault_of}
use Rattle.vl_accept.specs.Accepted.{Accepts}
use Rattle.vl_accept.proofs.Fitting.{unrolls, stays, locals-wide}
use Rattle.vl_accept.proofs.Ends.{accepts-uses, accepts-limit, accepts-settled}
use Rattle.vl_accept.proofs.accept.accept.Goals as goal

pub unroll-requires-clause-fit : goal.unroll-requires-clause-fit
unroll-requires-clause-fit c = unrolls (placed c.args.design.now) c.requires c.in_ok-judge_uses.ensures

pub unroll-requires-clause-locals : goal.unroll-requires-clause-locals
unroll-requires-clause-locals c = locals-wide c.args.design.now.funcs c.requires.locals

pub accept_unrolled-requires : goal.accept_unrolled-requires
accept_unrolled-requires c = record { sound = stays (placed c.args.design.now) c.in_ok-unrolled.unrolled c.requires c.in_ok-judge_uses.ensures c.in_ok-unrolled.ensures.1 }

pub returns : goal.returns
returns c =
    accepts-settled (placed c.args.design.now) c.in_ok-judge_uses.ensures c.in_ok-unrolled.ensures.0 (placed c.in_ok-unrolled.unrolled) c.accept_unrolled.result c.in_ok-unrolled.ensures.1 c.accept_unrolled.ensures

err-as : {A E : Type 0} (Q : Result A E → Type 0) (P : E → Type 0) (r : Result A E) → IsErrAnd r P → ((f : E) → P f → Q (Err f)) → Q r
err-as Q P (Ok a) h k = absurd h
err-as Q P (Err f) h k = k f h

pub returns-in_err-judge_uses : goal.returns-in_err-judge_uses
returns-in_err-judge_uses c =
    let d = placed c.args.design.now in
    err-as (Accepts d) (λ f. f ≡ c.in_err-judge_uses.field-0.0) c.from_residual.result c.from_residual.ensures.1
    (λ f e. subst (λ z. Accepts d (Err z)) (sym e) (accepts-uses ⊤ d c.in_err-judge_uses.field-0.0 c.in_err-judge_uses.ensures))

pub returns-in_err-unrolled : goal.returns-in_err-unrolled
returns-in_err-unrolled c =
    let d = placed c.args.design.now in
    err-as (Accepts d) (λ f. f ≡ fault_of c.in_err-unrolled.field-0.0) c.from_residual-in_err-unrolled.result c.from_residual-in_err-unrolled.ensures.1
    (λ f e. accepts-limit d c.in_err-unrolled.field-0.0 f c.in_ok-judge_uses.ensures c.in_err-unrolled.ensures e)
