use Rattle.fab_model.proofs.Once.{once_arrived, once_left, once_rebuilt, once_residents, once_served, once_stepped, once_taken}
use Rattle.fab_model.proofs.laws.each_number_stays_once.Goals as goal

pub returns-clause-arrived : goal.returns-clause-arrived
returns-clause-arrived c = once_arrived

pub returns-clause-stepped : goal.returns-clause-stepped
returns-clause-stepped c = once_stepped

pub returns-clause-served : goal.returns-clause-served
returns-clause-served c = once_served

pub returns-clause-rebuilt : goal.returns-clause-rebuilt
returns-clause-rebuilt c = once_rebuilt

pub returns-clause-taken : goal.returns-clause-taken
returns-clause-taken c = once_taken

pub returns-clause-left : goal.returns-clause-left
returns-clause-left c = once_left

pub returns-clause-residents : goal.returns-clause-residents
returns-clause-residents c = once_residents
