use Rattle.std.proofs.Common.{List, sym, subst, rules}
use Rattle.vl_design.specs.declared.design.CaseItem.{CaseItem}
use Rattle.vl_design.specs.declared.design.Stmt.{Stmt}
use Rattle.vl_design.specs.declared.design.StmtNode.{the_lemmas}
use Rattle.vl_design.specs.Seen as seen
use Rattle.vl_design.proofs.TreeLemmas.{placed-Seq}
use Rattle.vl_limits.specs.Walks.{items_of}
use Rattle.vl_limits.proofs.Counting.{case-of}
use Rattle.vl_cost.specs.Walks.{HasNoLoop, HaveNoLoop, ItemsHaveNoLoop}
use Rattle.vl_cost.proofs.Counting.{case-cells}
use Rattle.vl_cost.proofs.statements.+statements.Goals as goal

pub stm_cells-stms_cells-requires : goal.stm_cells-stms_cells-requires
stm_cells-stms_cells-requires t c =
    let h = subst (λ (z : List Stmt). HaveNoLoop (seen.stms_of z)) (sym c.as_slice.ensures.value) (subst HasNoLoop (placed-Seq c.args.a.now c.in-Seq.parts c.in-Seq.is) c.requires) in
    (search (rules, the_lemmas), h)

pub stm_cells-items_cells-requires : goal.stm_cells-items_cells-requires
stm_cells-items_cells-requires t c =
    let h = subst (λ (z : List CaseItem). ItemsHaveNoLoop (items_of z)) (sym c.as_slice-in-Case.ensures.value) (subst HasNoLoop (case-of c.args.a.now c.in-Case.subject c.in-Case.items c.in-Case.field-2 c.in-Case.is) c.requires) in
    (search (rules, the_lemmas), h)

pub stm_cells-returns-in-Case : goal.stm_cells-returns-in-Case
stm_cells-returns-in-Case t c =
    case-cells c.args.bodies.now c.args.a.now c.in-Case.subject c.in-Case.items c.in-Case.field-2 c.as_slice-in-Case.result.now c.exp_cells-tested.result c.items_cells.result c.plus-in-Case.result
    c.in-Case.is c.as_slice-in-Case.ensures.value c.exp_cells-tested.ensures c.items_cells.ensures c.plus-in-Case.ensures
