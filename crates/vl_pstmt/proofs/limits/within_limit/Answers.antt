use Rattle.std.proofs.Common.{◌+◌, arith, length-take}
use Rattle.vl_tree.specs.Bounds.{most_tokens}
use Rattle.vl_pstmt.proofs.limits.within_limit.Goals as goal

pub past_limit-requires : goal.past_limit-requires
past_limit-requires g c = omega (arith, c.requires.sized, length-take (most_tokens + 1) c.args.tokens.now)

pub split_at-requires : goal.split_at-requires
split_at-requires g c = omega (arith, c.requires.sized, length-take (most_tokens + 1) c.args.tokens.now)

pub past_limit-requires-then-count-gt-MOST_TOKENS-2 : goal.past_limit-requires-then-count-gt-MOST_TOKENS-2
past_limit-requires-then-count-gt-MOST_TOKENS-2 g c = omega (arith, c.requires.sized, length-take (most_tokens + 1) c.args.tokens.now)

pub split_at-requires-in-Err-At : goal.split_at-requires-in-Err-At
split_at-requires-in-Err-At g c = omega (arith, c.requires.sized, length-take (most_tokens + 1) c.args.tokens.now)
