use Rattle.reg_ports.proofs.Outcomes.{either-outcome, never-both, only-refusal}
use Rattle.reg_ports.proofs.laws.one_outcome.Goals as goal

pub returns-clause-either : goal.returns-clause-either
returns-clause-either c = either-outcome

pub returns-clause-never_both : goal.returns-clause-never_both
returns-clause-never_both c = never-both

pub returns-clause-only : goal.returns-clause-only
returns-clause-only c = only-refusal
