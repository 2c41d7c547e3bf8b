use Rattle.std.proofs.Common.{arith}
use Rattle.std.proofs.lemmas.Grind.{common_steps}
use Rattle.vl_names.specs.Seen.{look}
use Rattle.vl_names.proofs.Steps.{with_number-known, look-insert}
use Rattle.vl_names.proofs.numbers.number.Goals as goal

pub returns-then-contains_key-clause-numbers : goal.returns-then-contains_key-clause-numbers
unfolding look
returns-then-contains_key-clause-numbers c = with_number-known (look c.args.numbers.now) c.args.tree.now.name.name c.args.number (grind (arith, common_steps))

pub returns-clause-numbers : goal.returns-clause-numbers
unfolding look
returns-clause-numbers c = grind (arith, common_steps, look-insert c.args.numbers.now c.insert.new.self c.as_slice-text.result.now c.args.number (grind (arith, common_steps)) c.in_ok-insert.ensures.updates)
