use Rattle.std.proofs.Common.{drop, map}
use Rattle.host_report.specs.Ends.{is_refused}
use Rattle.host_outcomes.specs.Given.{costs_of}
use Rattle.host_outcomes.specs.Steps.{AreMade}
use Rattle.host_outcomes.proofs.replies.replies.Given as goal

abbrev pub invariant-loop-order : goal.invariant-loop-order
invariant-loop-order l = AreMade l.script (map is_refused l.refusals) (costs_of l.ended) l.answers l.made.lines.items l.made.next (drop l.order-index l.order-items)
