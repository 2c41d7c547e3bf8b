use Rattle.std.proofs.Common.{List, sym, subst, rules}
use Rattle.vl_design.specs.declared.design.CaseItem.{CaseItem}
use Rattle.vl_design.specs.declared.design.Stmt.{Stmt}
use Rattle.vl_design.specs.declared.design.StmtNode.{the_lemmas}
use Rattle.vl_design.specs.Seen as seen
use Rattle.vl_design.proofs.TreeLemmas.{placed-Seq}
use Rattle.vl_limits.specs.Walks.{items_of}
use Rattle.vl_limits.proofs.Counting.{case-of}
use Rattle.vl_cost.specs.Walks.{HasNoLoop, HaveNoLoop, ItemsHaveNoLoop}
use Rattle.vl_cost.proofs.registers.+registers.Goals as goal

pub stm_regs-stms_regs-requires : goal.stm_regs-stms_regs-requires
stm_regs-stms_regs-requires t c =
    let h = subst (λ (z : List Stmt). HaveNoLoop (seen.stms_of z)) (sym c.as_slice.ensures.value) (subst HasNoLoop (placed-Seq c.args.a.now c.in-Seq.parts c.in-Seq.is) c.requires) in
    (search (rules, the_lemmas), h)

pub stm_regs-items_regs-requires : goal.stm_regs-items_regs-requires
stm_regs-items_regs-requires t c =
    let h = subst (λ (z : List CaseItem). ItemsHaveNoLoop (items_of z)) (sym c.as_slice-in-Case.ensures.value) (subst HasNoLoop (case-of c.args.a.now c.in-Case.field-0 c.in-Case.items c.in-Case.field-2 c.in-Case.is) c.requires) in
    (search (rules, the_lemmas), h)
