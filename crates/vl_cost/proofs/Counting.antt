-- What statements and the items of cases count, part by part.
use Rattle.std.proofs.Common.{◌≡◌, refl, ap, ◌∙◌, arith, ℕ, ◌+◌, Bool, List, []}
use Rattle.std.specs.Prelude.{slice_index, map}
use Rattle.std.specs.declared.alloc.Global.{Global}
use Rattle.std.specs.declared.vec.Vec.{Vec}
use Rattle.vl_design.specs.declared.design.CaseItem.{CaseItem}
use Rattle.vl_design.specs.declared.design.Expr.{Expr}
use Rattle.vl_design.specs.declared.design.Signal.{Signal}
use Rattle.vl_design.specs.declared.design.Stmt.{Stmt}
use Rattle.vl_design.specs.declared.design.StmtNode as s
use Rattle.vl_design.specs.Cost.{exp_cells, stm_cells, items_cells, labels_cells, stm_regs, items_regs}
use Rattle.vl_design.specs.Placed as p
use Rattle.vl_design.specs.Plain.{plain_scope}
use Rattle.vl_design.specs.Plainly as plain
use Rattle.vl_design.specs.Functions.{fresh}
use Rattle.vl_design.specs.State.{State}
use Rattle.vl_design.specs.Syntax.{Stm, Items}
use Rattle.vl_design.specs.Rows.{row_of}
use Rattle.vl_design.specs.Trees.{exp_of, stm_of}
use Rattle.vl_design.specs.Width.{Scope}
use Rattle.vl_design.proofs.TreeLemmas.{placed-Seq, stm_of-Seq}
use Rattle.vl_limits.specs.Walks.{items_of}
use Rattle.vl_limits.proofs.Counting.{case-of}
use Rattle.vl_design.specs.Costs.{saturated}
use Rattle.vl_cost.specs.Walks.{called_cells, cells_of, item_cells_of, regs_of, item_regs_of}
use Rattle.vl_cost.proofs.Calling.{first-cells, first-regs}

module _ (scope : Scope) (body : ℕ → ℕ) where
  pub item-cells : (es : p.Exps) (a : Stm) (others : Items) (s : State) → items_cells scope body (plain.item es a others) s ≡ 4 + (labels_cells body (plain.exps es) + (stm_cells scope body a s + items_cells scope body others s))
  item-cells p.NoExps a others s = omega arith
  item-cells (p.MoreExps e es) a others s = refl

  pub item-regs : (es : p.Exps) (a : Stm) (others : Items) (s : State) → items_regs scope body (plain.item es a others) s ≡ stm_regs scope body a s + items_regs scope body others s
  item-regs p.NoExps a others s = refl
  item-regs (p.MoreExps e es) a others s = refl

pub called-first : (bodies : List ℕ) (e : p.Exp) (a : Stm) → cells_of bodies (plain.called_first [] e a) ≡ called_cells (λ f. slice_index bodies f) e + cells_of bodies a
called-first bodies e a = first-cells (plain_scope []) (λ f. slice_index bodies f) [] e a (fresh [])

pub called-regs : (signals : List Signal) (e : p.Exp) (a : Stm) → regs_of signals (plain.called_first [] e a) ≡ regs_of signals a
called-regs signals e a = first-regs (plain_scope (map row_of signals)) (λ f. 0) [] e a (fresh [])

pub one-item : (bodies : List ℕ) (es : p.Exps) (a : Stm) (others : Items) → item_cells_of bodies (plain.item es a others) ≡ 4 + (labels_cells (λ f. slice_index bodies f) (plain.exps es) + (cells_of bodies a + item_cells_of bodies others))
one-item bodies es a others = item-cells (plain_scope []) (λ f. slice_index bodies f) es a others (fresh [])

pub one-item-regs : (signals : List Signal) (es : p.Exps) (a : Stm) (others : Items) → item_regs_of signals (plain.item es a others) ≡ regs_of signals a + item_regs_of signals others
one-item-regs signals es a others = item-regs (plain_scope (map row_of signals)) (λ f. 0) es a others (fresh [])

-- a case counts its subject and its items
pub case-cells : (bodies : List ℕ) (x : Stmt) (subject : Expr) (v : Vec CaseItem Global) (wild : Bool) (given : List CaseItem) (tested rest r : ℕ) → x.node ≡ s.Case subject v wild → given ≡ v.items →
    tested ≡ saturated (exp_cells (λ f. slice_index bodies f) (exp_of subject)) → rest ≡ saturated (item_cells_of bodies (plain.items [] (items_of given))) → r ≡ saturated (tested + rest) → r ≡ saturated (cells_of bodies (stm_of [] x))
case-cells bodies x subject v wild given tested rest r is e h k i =
    let n : cells_of bodies (stm_of [] x) ≡ exp_cells (λ f. slice_index bodies f) (exp_of subject) + item_cells_of bodies (plain.items [] (items_of v.items)) = ap (λ z. cells_of bodies (plain.stm [] z)) (case-of x subject v wild is) in
    let m : rest ≡ saturated (item_cells_of bodies (plain.items [] (items_of v.items))) = k ∙ ap (λ z. saturated (item_cells_of bodies (plain.items [] (items_of z)))) e in
    omega (arith, n, m, h, i)

pub ruleset counts = (placed-Seq, stm_of-Seq, case-of, called-first, called-regs, one-item, one-item-regs)
