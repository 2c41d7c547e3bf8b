use Rattle.sub_nodes.proofs.Beginning.{stands_rise, stands_none}
use Rattle.sub_nodes.proofs.laws.the_clock_rises_behind_a_boundary.Goals as goal

pub returns-clause-rises : goal.returns-clause-rises
returns-clause-rises c = λ d T i p t s. stands_rise d T t s

pub returns-clause-none : goal.returns-clause-none
returns-clause-none c = λ d T i p t s. stands_none d T t s
