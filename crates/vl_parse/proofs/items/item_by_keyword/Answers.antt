use Rattle.vl_parse.proofs.items.item_by_keyword.Goals as goal

pub returns-then-eq-clause-shorter : goal.returns-then-eq-clause-shorter
returns-then-eq-clause-shorter c = c.found.ensures.shorter _ _ c.input_item.ensures.shorter

pub returns-then-eq-2-clause-shorter : goal.returns-then-eq-2-clause-shorter
returns-then-eq-2-clause-shorter c = c.found-then-eq-2.ensures.shorter _ _ c.output_item.ensures.shorter

pub returns-then-eq-3-clause-shorter : goal.returns-then-eq-3-clause-shorter
returns-then-eq-3-clause-shorter c = c.found-then-eq-3.ensures.shorter _ _ c.parameter_item.ensures.shorter

pub returns-then-eq-4-clause-shorter : goal.returns-then-eq-4-clause-shorter
returns-then-eq-4-clause-shorter c = c.found-then-eq-4.ensures.shorter _ _ c.parameter_item-then-eq-4.ensures.shorter

pub returns-then-eq-5-clause-shorter : goal.returns-then-eq-5-clause-shorter
returns-then-eq-5-clause-shorter c = c.found-then-eq-5.ensures.shorter _ _ c.wire_item.ensures.shorter

pub returns-then-eq-6-clause-shorter : goal.returns-then-eq-6-clause-shorter
returns-then-eq-6-clause-shorter c = c.found-then-eq-6.ensures.shorter _ _ c.reg_item.ensures.shorter

pub returns-then-eq-7-clause-shorter : goal.returns-then-eq-7-clause-shorter
returns-then-eq-7-clause-shorter c = c.found-then-eq-7.ensures.shorter _ _ c.integer_item.ensures.shorter

pub returns-then-eq-8-clause-shorter : goal.returns-then-eq-8-clause-shorter
returns-then-eq-8-clause-shorter c = c.found-then-eq-8.ensures.shorter _ _ c.assign_item.ensures.shorter

pub returns-then-eq-9-clause-shorter : goal.returns-then-eq-9-clause-shorter
returns-then-eq-9-clause-shorter c = c.found-then-eq-9.ensures.shorter _ _ c.initial_item.ensures.shorter

pub returns-then-eq-10-clause-shorter : goal.returns-then-eq-10-clause-shorter
returns-then-eq-10-clause-shorter c = c.found-then-eq-10.ensures.shorter _ _ c.always_item.ensures.shorter

pub returns-then-eq-11-clause-shorter : goal.returns-then-eq-11-clause-shorter
returns-then-eq-11-clause-shorter c = c.found-then-eq-11.ensures.shorter _ _ c.function_item.ensures.shorter
