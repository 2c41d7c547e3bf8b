use Rattle.vl_parse.proofs.Judging.{ok_judged, fault_judged}
use Rattle.vl_parse.proofs.sources.parse.Goals as goal

pub returns-in-Ok : goal.returns-in-Ok
returns-in-Ok c =
    let j = ok_judged c.args.tokens.now c.args.end c.in-Ok.source c.in-Ok.ensures.reads in
    record { read = j.read; only = j.only; within = j.within; fault = j.fault; limit = j.limit; accepts = j.accepts; refuses = j.refuses; limits_statements = j.limits_statements; limits_expressions = j.limits_expressions }

pub returns-in-Err-At : goal.returns-in-Err-At
returns-in-Err-At c =
    let j = fault_judged c.args.tokens.now c.args.end c.in-Err-At.cause c.in-Err-At.rest.now (rw c.in-Err-At.field-0-is at c.in-Err-At.ensures.reads) in
    rw (c.fault_of.ensures, c.first_place_or.ensures) record { read = j.read; only = j.only; within = j.within; fault = j.fault; limit = j.limit; accepts = j.accepts; refuses = j.refuses; limits_statements = j.limits_statements; limits_expressions = j.limits_expressions }
