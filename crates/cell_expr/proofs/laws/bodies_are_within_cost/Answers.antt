use Rattle.std.specs.Prelude.{[], length}
use Rattle.vl_design.specs.Functions.{scope_of}
use Rattle.cell_expr.proofs.Budget.{bodies-within}
use Rattle.cell_expr.proofs.laws.bodies_are_within_cost.Goals as goal

pub returns-clause-nested : goal.returns-clause-nested
returns-clause-nested c = λ scope n f sound. bodies-within scope sound n f

pub returns-clause-all : goal.returns-clause-all
returns-clause-all c = λ d f sound. bodies-within (scope_of d []) sound.funs (length d.funs) f
