use Rattle.sub_runs.proofs.Tabling.{none_rising, all_few}
use Rattle.sub_runs.proofs.Bounding.{cycle_lowers, serve_lowers}
use Rattle.sub_runs.proofs.ends_laws.each_tick_ends.Goals as goal

pub returns-clause-cycle : goal.returns-clause-cycle
returns-clause-cycle c = λ d files nets i l h r. cycle_lowers d files nets i l h r

pub returns-clause-serve : goal.returns-clause-serve
returns-clause-serve c = λ d scope i h. serve_lowers d scope i h

pub returns-clause-most : goal.returns-clause-most
returns-clause-most c = λ d n. all_few d n

pub returns-clause-none : goal.returns-clause-none
returns-clause-none c = λ d n h. none_rising d n h
