use Rattle.std.proofs.Common.{map, rules}
use Rattle.vl_design.specs.Seen as seen
use Rattle.vl_sites.specs.Seen.{site_of}
use Rattle.vl_check.proofs.Following.{process-stop}
use Rattle.vl_check.proofs.processes.process_fault.Goals as goal

pub returns-clause-stop : goal.returns-clause-stop
returns-clause-stop c =
    process-stop (seen.placed c.args.design.now) (seen.process_of c.args.a.now) c.role_of.result c.as_slice-signals.result.now (map site_of c.deref-3.result.now) c.args.writers.now c.args.best c.in_ok-own.own c.trigger_fault-trigger.result c.writer_fault.result
    c.role_of.ensures c.as_slice-signals.ensures (search rules) c.in_ok-own.ensures c.trigger_fault-trigger.ensures.stop c.writer_fault.ensures.stop
