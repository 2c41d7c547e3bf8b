use Rattle.std.proofs.Common.{◌+◌, ◌∙◌, ap, length, take, min}
use Rattle.vl_pexpr.specs.declared.parse.TheConstants.{MOST_TOKENS}
use Rattle.vl_pexpr.proofs.Judging.{stuck_left, took_short, took_long, stuck_short, stuck_long, limit_judged}
use Rattle.vl_pexpr.proofs.parse.expression.Goals as goal

pub overflow_sub-count-in-Err-At : goal.overflow_sub-count-in-Err-At
overflow_sub-count-in-Err-At c = stuck_left c.args.tokens.now c.args.at c.requires c.args.end c.min-size.result (c.min-size.ensures ∙ ap (λ z. min (length z) (MOST_TOKENS + 1)) c.split_at.ensures.back) c.split_at-2.result.0.now (c.split_at-2.ensures.front ∙ ap (take c.min-size.result) c.split_at.ensures.back) c.in-Err-At.rest.now (rw c.in-Err-At.field-0-is at c.in-Err-At.ensures.reads)

pub returns-then-count-gt-MOST_TOKENS : goal.returns-then-count-gt-MOST_TOKENS
returns-then-count-gt-MOST_TOKENS c =
    let j = limit_judged c.args.tokens.now c.args.at c.requires c.args.end (took_long c.args.tokens.now c.args.at c.requires c.args.end c.min-size.result (c.min-size.ensures ∙ ap (λ z. min (length z) (MOST_TOKENS + 1)) c.split_at.ensures.back) c.split_at-2.result.0.now (c.split_at-2.ensures.front ∙ ap (take c.min-size.result) c.split_at.ensures.back) c.in-Ok.tree c.in-Ok.rest.now c.in-Ok.ensures.reads c.if-count-gt-MOST_TOKENS.true) in
    rw c.place_at.ensures record { read = j.read; only = j.only; reach = j.reach; fault = j.fault; limit = j.limit; accepts = j.accepts; refuses = j.refuses; limits = j.limits }

pub returns-then-count-gt-MOST_TOKENS-2 : goal.returns-then-count-gt-MOST_TOKENS-2
returns-then-count-gt-MOST_TOKENS-2 c =
    let j = limit_judged c.args.tokens.now c.args.at c.requires c.args.end (stuck_long c.args.tokens.now c.args.at c.requires c.args.end c.min-size.result (c.min-size.ensures ∙ ap (λ z. min (length z) (MOST_TOKENS + 1)) c.split_at.ensures.back) c.split_at-2.result.0.now (c.split_at-2.ensures.front ∙ ap (take c.min-size.result) c.split_at.ensures.back) c.in-Err-At.rest.now (rw c.in-Err-At.field-0-is at c.in-Err-At.ensures.reads) c.if-count-gt-MOST_TOKENS-2.true) in
    rw c.place_at-then-count-gt-MOST_TOKENS-2.ensures record { read = j.read; only = j.only; reach = j.reach; fault = j.fault; limit = j.limit; accepts = j.accepts; refuses = j.refuses; limits = j.limits }

pub returns-else-count-gt-MOST_TOKENS : goal.returns-else-count-gt-MOST_TOKENS
returns-else-count-gt-MOST_TOKENS c =
    let j = took_short c.args.tokens.now c.args.at c.requires c.args.end c.min-size.result (c.min-size.ensures ∙ ap (λ z. min (length z) (MOST_TOKENS + 1)) c.split_at.ensures.back) c.split_at-2.result.0.now (c.split_at-2.ensures.front ∙ ap (take c.min-size.result) c.split_at.ensures.back) c.in-Ok.tree c.in-Ok.rest.now c.in-Ok.ensures.reads c.if-count-gt-MOST_TOKENS.false in
    record { read = j.read; only = j.only; reach = j.reach; fault = j.fault; limit = j.limit; accepts = j.accepts; refuses = j.refuses; limits = j.limits }

pub returns-else-count-gt-MOST_TOKENS-2 : goal.returns-else-count-gt-MOST_TOKENS-2
returns-else-count-gt-MOST_TOKENS-2 c =
    let j = stuck_short c.args.tokens.now c.args.at c.requires c.args.end c.min-size.result (c.min-size.ensures ∙ ap (λ z. min (length z) (MOST_TOKENS + 1)) c.split_at.ensures.back) c.split_at-2.result.0.now (c.split_at-2.ensures.front ∙ ap (take c.min-size.result) c.split_at.ensures.back) c.in-Err-At.rest.now (rw c.in-Err-At.field-0-is at c.in-Err-At.ensures.reads) c.if-count-gt-MOST_TOKENS-2.false in
    rw c.place_at-in-Err-At.ensures record { read = j.read; only = j.only; reach = j.reach; fault = j.fault; limit = j.limit; accepts = j.accepts; refuses = j.refuses; limits = j.limits }
