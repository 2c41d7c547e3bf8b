use Rattle.std.proofs.Common.{ap, Err}
use Rattle.host_files.specs.Reading.{counts_of}
use Rattle.host_run.proofs.Dues.{due-read, fault-due}
use Rattle.host_run.proofs.due.due_of_bytes.Goals as goal

pub returns-in-Ok-clause-due : goal.returns-in-Ok-clause-due
returns-in-Ok-clause-due g c =
    due-read c.due_of_script.result (g.S.Store.told c.args.store.now) (counts_of (g.S.Store.faults c.args.store.now) (g.S.Store.absences c.args.store.now))
    (counts_of (g.S.Store.faults c.due_of_script.new.store) (g.S.Store.absences c.due_of_script.new.store)) (g.S.Store.missed c.args.store.now)
    (g.S.Store.missed c.due_of_script.new.store) c.in-Ok.script c.args.bytes.now c.requires c.in-Ok.ensures.read
    c.due_of_script.ensures.due

pub returns-in_ok-fault-in-Err-At-clause-due : goal.returns-in_ok-fault-in-Err-At-clause-due
returns-in_ok-fault-in-Err-At-clause-due g c = λ words path command there.
    fault-due (g.S.Store.told c.args.store.now) (counts_of (g.S.Store.faults c.args.store.now) (g.S.Store.absences c.args.store.now))
    (counts_of (g.S.Store.faults c.args.store.now) (g.S.Store.absences c.args.store.now)) (g.S.Store.missed c.args.store.now) words c.only.result c.args.bytes.now c.only.ensures c.in_ok-fault-in-Err-At.ensures command there
    c.requires (c.in-Err-At.ensures.fault _ _ (ap Err c.in-Err-At.field-0-is))
