use Rattle.vl_design.specs.Seen.{placed}
use Rattle.check_rows.proofs.checking.judge.answer_to_tree.Goals as goal

-- the law, at this tree and its design
pub answer_to_design-requires : goal.answer_to_design-requires
answer_to_design-requires c =
    c.an_elaborated_design_is_fit_to_be_judged.ensures c.args.tree.now (placed c.in-Ok.design) c.in-Ok.ensures.elaborated
