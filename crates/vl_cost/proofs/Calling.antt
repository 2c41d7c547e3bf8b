-- What a system call counts that comes before a statement, whatever the instance's path is.
use Rattle.std.proofs.Common.{◌≡◌, refl, ap, arith, ℕ, ◌+◌, Bool, true, false, List, []}
use Rattle.std.specs.Prelude.{if◌then◌else◌, codes}
use Rattle.std.specs.Str.{bytes_eq}
use Rattle.vl_design.specs.vl_base.specs.declared.bits.UnOp.TheVariants.{LogNot}
use Rattle.vl_design.specs.Calls.{task_of}
use Rattle.vl_design.specs.Cost.{task_cells, stm_cells, stm_regs}
use Rattle.vl_design.specs.Formats.{Arg, pieces_from}
use Rattle.vl_design.specs.Placed as p
use Rattle.vl_design.specs.Plainly as plain
use Rattle.vl_design.specs.State.{State}
use Rattle.vl_design.specs.Syntax.{Stm, Task, Print}
use Rattle.vl_design.specs.Width.{Scope}
use Rattle.vl_cost.specs.Walks.{called_cells}
use Rattle.vl_cost.proofs.Showing.{pieces-free}

pub task-free : (body : ℕ → ℕ) (path name : List ℕ) (given : List Arg) → task_cells body (task_of path name given) ≡ task_cells body (task_of [] name given)
task-free body path name given = at (bytes_eq name (codes "$display")) (bytes_eq name (codes "$write")) _
  where
    at : (a b : Bool) (other : Task) →
        task_cells body (if a then Print (pieces_from path 0 given) true else if b then Print (pieces_from path 0 given) false else other)
        ≡ task_cells body (if a then Print (pieces_from [] 0 given) true else if b then Print (pieces_from [] 0 given) false else other)
    at true b other = ap (λ n. 8 + n) (pieces-free body path 0 given)
    at false true other = ap (λ n. 8 + n) (pieces-free body path 0 given)
    at false false other = refl

module _ (scope : Scope) (body : ℕ → ℕ) where
  pub first-cells : (path : List ℕ) (e : p.Exp) (a : Stm) (s : State) → stm_cells scope body (plain.called_first path e a) s ≡ called_cells body e + stm_cells scope body a s
  first-cells path (p.Sys at name given) a s = ap (λ n. n + stm_cells scope body a s) (task-free body path name (plain.args given))
  first-cells path (p.Un at LogNot (p.Sys q name given)) a s = ap (λ n. n + stm_cells scope body a s) (task-free body path name (plain.args given))
  first-cells path e a s = omega arith

  pub first-regs : (path : List ℕ) (e : p.Exp) (a : Stm) (s : State) → stm_regs scope body (plain.called_first path e a) s ≡ stm_regs scope body a s
  first-regs path (p.Sys at name given) a s = omega arith
  first-regs path (p.Un at LogNot (p.Sys q name given)) a s = omega arith
  first-regs path e a s = refl
