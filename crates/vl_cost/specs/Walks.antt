-- Statements without loops: what they count depends on no values of signals.
use Rattle.std.specs.Prelude.{◌≡◌, ℕ, ◌+◌, ⊤, if◌then◌else◌, List, [], map, slice_index}
use Rattle.vl_design.specs.vl_base.specs.declared.bits.UnOp.TheVariants.{LogNot}
use Rattle.vl_design.specs.declared.design.Func.{Func}
use Rattle.vl_design.specs.declared.design.Process.{Process}
use Rattle.vl_design.specs.declared.design.Signal.{Signal}
use Rattle.vl_design.specs.Calls.{task_of}
use Rattle.vl_design.specs.Cost as d
use Rattle.vl_design.specs.Functions.{scope_of, fresh}
use Rattle.vl_design.specs.Placed as p
use Rattle.vl_design.specs.Plain.{plain_scope}
use Rattle.vl_design.specs.Plainly as plain
use Rattle.vl_design.specs.Queue.{is_init}
use Rattle.vl_design.specs.Rows.{row_of}
use Rattle.vl_design.specs.Syntax.{Stm, Items, Flat}
use Rattle.vl_design.specs.Trees.{stm_of}
use Rattle.vl_design.specs.Costs.{saturated}

abbrev mutual
  -- no loop stands in the statement
  pub HasNoLoop : p.Stm → Type 0
  HasNoLoop (p.Nop at) = ⊤
  HasNoLoop (p.Seq at as') = HaveNoLoop as'
  HasNoLoop (p.If at t a b) = HasNoLoop a × HasNoLoop b
  HasNoLoop (p.Case at x is wild) = ItemsHaveNoLoop is
  HasNoLoop (p.For at j start test step a) = ⊥
  HasNoLoop (p.Repeat at n a) = ⊥
  HasNoLoop (p.Set at t x) = ⊤
  HasNoLoop (p.Later at t x) = ⊤
  HasNoLoop (p.Task at name given) = ⊤

  pub HaveNoLoop : p.Stms → Type 0
  HaveNoLoop p.NoStms = ⊤
  HaveNoLoop (p.MoreStms a as') = HasNoLoop a × HaveNoLoop as'

  pub ItemsHaveNoLoop : p.Items → Type 0
  ItemsHaveNoLoop p.NoItems = ⊤
  ItemsHaveNoLoop (p.MoreItems es a others) = HasNoLoop a × ItemsHaveNoLoop others

-- what the call of a right side or a condition counts, also behind one `!`
abbrev pub called_cells : (ℕ → ℕ) → p.Exp → ℕ
called_cells body (p.Sys at name given) = d.task_cells body (task_of [] name (plain.args given))
called_cells body (p.Un at LogNot (p.Sys _ name given)) = d.task_cells body (task_of [] name (plain.args given))
called_cells body e = 0

-- what a statement without loops counts, by a table of what the bodies of functions count
abbrev pub cells_of : List ℕ → Stm → ℕ
cells_of bodies a = d.stm_cells (plain_scope []) (λ f. slice_index bodies f) a (fresh [])

abbrev pub item_cells_of : List ℕ → Items → ℕ
item_cells_of bodies items = d.items_cells (plain_scope []) (λ f. slice_index bodies f) items (fresh [])

-- the register bits of its nonblocking assignments to words of memories among these signals
abbrev pub regs_of : List Signal → Stm → ℕ
regs_of signals a = d.stm_regs (plain_scope (map row_of signals)) (λ f. 0) a (fresh [])

abbrev pub item_regs_of : List Signal → Items → ℕ
item_regs_of signals items = d.items_regs (plain_scope (map row_of signals)) (λ f. 0) items (fresh [])

-- what the body of a function counts, by a table of what the bodies count that it calls
abbrev pub next_cells : List ℕ → Func → ℕ
next_cells bodies f = saturated (cells_of bodies (stm_of [] f.body))

-- a table of what bodies count where calls nest at most so deep
abbrev pub AreBodies : Flat → ℕ → List ℕ → Type 0
AreBodies design n bodies = (f : ℕ) → slice_index bodies f ≡ saturated (d.body_within (scope_of design []) n f)

-- what a process counts, by such a table
abbrev pub process_cells : List ℕ → Process → ℕ
process_cells bodies a = if is_init a.kind then 0 else 4 + cells_of bodies (stm_of [] a.body)

abbrev pub process_regs : List Signal → Process → ℕ
process_regs signals a = if is_init a.kind then 0 else regs_of signals (stm_of [] a.body)
