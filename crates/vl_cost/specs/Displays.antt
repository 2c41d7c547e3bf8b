-- The arguments of displays as they are counted one by one (IEEE 1364-2005, clause 17.1.1).
use Rattle.std.specs.Prelude.{ℕ, List}
use Rattle.vl_design.specs.Cost.{exp_cells, pieces_cells}
use Rattle.vl_design.specs.Formats.{Arg}
use Rattle.vl_limits.specs.Displays.{shown_by}

-- what arguments count of which so many first ones are taken by items
abbrev pub shown_cells : (ℕ → ℕ) → ℕ → List Arg → ℕ
shown_cells body n args = shown_by (exp_cells body) (pieces_cells body) n args
