use Rattle.std.proofs.Common.{arith}
use Rattle.vl_parse.proofs.Lists.{kept, another}
use Rattle.vl_parse.proofs.functions.optional_declaration.Goals as goal

pub returns-then-eq-clause-no_longer : goal.returns-then-eq-clause-no_longer
returns-then-eq-clause-no_longer c = kept _ _ _ (grind arith) (c.found.ensures.shorter _ _ c.input_declaration.ensures.shorter)

pub returns-then-eq-clause-shorter : goal.returns-then-eq-clause-shorter
returns-then-eq-clause-shorter c = another _ _ _ (grind arith) (c.found.ensures.shorter _ _ c.input_declaration.ensures.shorter)

pub returns-then-eq-2-clause-no_longer : goal.returns-then-eq-2-clause-no_longer
returns-then-eq-2-clause-no_longer c = kept _ _ _ (grind arith) (c.found-then-eq-2.ensures.shorter _ _ c.reg_declaration.ensures.shorter)

pub returns-then-eq-2-clause-shorter : goal.returns-then-eq-2-clause-shorter
returns-then-eq-2-clause-shorter c = another _ _ _ (grind arith) (c.found-then-eq-2.ensures.shorter _ _ c.reg_declaration.ensures.shorter)

pub returns-then-eq-3-clause-no_longer : goal.returns-then-eq-3-clause-no_longer
returns-then-eq-3-clause-no_longer c = kept _ _ _ (grind arith) (c.found-then-eq-3.ensures.shorter _ _ c.integer_declaration.ensures.shorter)

pub returns-then-eq-3-clause-shorter : goal.returns-then-eq-3-clause-shorter
returns-then-eq-3-clause-shorter c = another _ _ _ (grind arith) (c.found-then-eq-3.ensures.shorter _ _ c.integer_declaration.ensures.shorter)
