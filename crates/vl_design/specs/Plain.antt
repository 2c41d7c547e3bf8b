-- A run alone from time zero, without files (own).
use Rattle.std.specs.Prelude.{ℕ, List, [], None}
use Rattle.vl_design.specs.Syntax.{Row, Flat}
use Rattle.vl_design.specs.Width.{Scope}
use Rattle.vl_design.specs.Alone.{Origin}

-- a design alone from time zero, without files, for at most so many ticks
abbrev pub alone : Flat → ℕ → Origin
alone d budget = record { flat = d; files = []; plan = record { budget = budget; errands = [] }; resume = None }

-- the scope of a design without functions, over no files
abbrev pub plain_scope : List Row → Scope
plain_scope rows = record { names = record { rows = rows; signals = rows; funs = [] }; files = []; call = λ f args. 0 }
