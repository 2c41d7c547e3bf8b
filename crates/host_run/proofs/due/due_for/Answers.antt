use Rattle.host_files.specs.Reading.{counts_of}
use Rattle.host_run.proofs.Dues.{due-shown, nothing-written}
use Rattle.host_run.proofs.due.due_for.Goals as goal

pub returns-in-Run-clause-due : goal.returns-in-Run-clause-due
returns-in-Run-clause-due g c = rw c.in-Run.is c.due_of_path.ensures.due

pub returns-in-Check-clause-due : goal.returns-in-Check-clause-due
returns-in-Check-clause-due g c = rw c.in-Check.is c.due_of_source_path.ensures.due

pub returns-in-Demo-clause-due : goal.returns-in-Demo-clause-due
returns-in-Demo-clause-due g c =
    let here = counts_of (g.S.Store.faults c.args.store.now) (g.S.Store.absences c.args.store.now) in
    rw c.in-Demo.is (due-shown c.due_of_demo.result (g.S.Store.told c.args.store.now) here here (g.S.Store.missed c.args.store.now) c.in-Demo.tenants c.due_of_demo.ensures.shown c.due_of_demo.ensures.nothing)

pub returns-in-Demo-clause-written : goal.returns-in-Demo-clause-written
returns-in-Demo-clause-written g c = nothing-written c.due_of_demo.result c.due_of_demo.ensures.nothing
