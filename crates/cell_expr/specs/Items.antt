-- One item of a case in cells (IEEE 1364-2005, clause 9.5).
use Rattle.std.specs.Prelude.{◌≡◌, ℕ, ◌==◌, if◌then◌else◌, length}
use Rattle.vl_design.specs.declared.design.Form.{Form}
use Rattle.vl_design.specs.Exec.{exec}
use Rattle.vl_design.specs.Placed as placed
use Rattle.vl_design.specs.Plainly as plain
use Rattle.vl_design.specs.Syntax.{Exps, Stm, Items}
use Rattle.vl_design.specs.Width.{Names, Scope}
use Rattle.cell_emit.specs.cell_form.specs.Data.{ListData}
use Rattle.cell_emit.specs.Slots.{held, Gives, Nothing}
use Rattle.cell_emit.specs.Envs.{Env, Fits, IsSlot}
use Rattle.cell_emit.specs.Paths.{Does}
use Rattle.cell_emit.specs.Cases.{Compares, Tries}
use Rattle.cell_emit.specs.Pendings.{PendingSlots, ArePending}
use Rattle.cell_emit.specs.Delays.{Leaves, LeavesItems}
use Rattle.cell_expr.specs.Counts.{labels_count, stm_count, items_count}

-- its labels are compared, then its path comes, and its body is executed on it; behind it is pending what the body leaves
pub record Item (names : Names) (scope : Scope) (body : ℕ → ℕ) (c : Form) (subject : ℕ) (es : Exps) (a : Stm) (before behind : ℕ) (at at' : Env) (p p' : PendingSlots) (old new : ListData) : Type 0 where
  pub compared : ListData
  pub ready : ListData
  pub taken : ℕ
  pub labels : Compares names (labels_count body es) scope c subject es before behind at old compared
  pub path : Gives Nothing 1 compared ready taken 1 (λ b. if held b compared behind == 0 then 1 else held b compared before)
  pub does : Does names (stm_count body a) (exec scope a) taken at at' ready new
  pub leaves : Leaves names (exec scope a) taken at p p' ready new

-- one item whose labels come first, if it has some: where the others are tried behind it, it and the others are
pub record Tried (names : Names) (scope : Scope) (body : ℕ → ℕ) (c : Form) (subject : ℕ) (es : placed.Exps) (a : Stm) (before behind : ℕ) (at at' : Env) (p p' : PendingSlots) (old new : ListData) : Type 0 where
  pub fits : Fits names new at'
  pub first : at'.first ≡ at.first
  pub slot : IsSlot new behind 1
  pub pending : ArePending names new p'
  pub many : length p'.update ≡ length p.update
  pub leads : (others : Items) (r : ℕ) (at2 : Env) (far : ListData) → Tries names (items_count body others) scope c subject others behind r at' at2 new far →
      Tries names (items_count body (plain.item es a others)) scope c subject (plain.item es a others) before r at at2 old far
  pub leaves : (others : Items) (r : ℕ) (at2 : Env) (p2 : PendingSlots) (far : ListData) → LeavesItems names scope c subject others behind r at' at2 p' p2 new far →
      LeavesItems names scope c subject (plain.item es a others) before r at at2 p p2 old far
