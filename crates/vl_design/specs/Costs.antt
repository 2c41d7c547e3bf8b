-- Costs in numbers of 64 bits, and what fits (own).
use Rattle.std.specs.Prelude.{ℕ, ◌+◌, ◌≤◌, min}
use Rattle.vl_design.specs.Cost as d
use Rattle.vl_design.specs.declared.capacity.Cost.{Cost}

-- a number, or 2 ^ 64 - 1 where it is greater
abbrev pub saturated : ℕ → ℕ
saturated n = min 18446744073709551615 n

-- each number of a cost so
abbrev pub saturated_cost : d.Cost → Cost
saturated_cost c = record { regs = saturated c.regs; cells = saturated c.cells; mem = saturated c.mem }

-- with what is used there is no more than the capacity has, in each of the three numbers
pub record Fits (used more capacity : Cost) : Type 0 where
  pub regs : used.regs + more.regs ≤ capacity.regs
  pub cells : used.cells + more.cells ≤ capacity.cells
  pub mem : used.mem + more.mem ≤ capacity.mem
