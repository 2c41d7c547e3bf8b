use Rattle.std.proofs.Common.{◌∙◌, ◌++◌, ap, Err}
use Rattle.host_files.specs.Reading.{counts_of, missed_in}
use Rattle.host_files.proofs.Causes.{none-noted}
use Rattle.host_run.proofs.Dues.{run-due, run-written, unread-file-due}
use Rattle.host_run.proofs.due.due_of_script.Goals as goal

pub load-requires-clause-limits : goal.load-requires-clause-limits
load-requires-clause-limits g c = c.a_script_keeps_to_its_limits.ensures.limits c.requires.0 c.args.script c.requires.1

pub load-requires-clause-spelt : goal.load-requires-clause-spelt
load-requires-clause-spelt g c = c.words_of_a_script_are_spelt.ensures c.requires.0 c.args.script c.requires.1

pub returns-in-Ok-clause-due : goal.returns-in-Ok-clause-due
returns-in-Ok-clause-due g c = λ words path bytes command there short reads.
    let due = c.due_of_run.ensures in
    let run = c.in_ok-reported-in-Ok.ensures in
    run-due (g.S.Store.told c.args.store.now) (counts_of (g.S.Store.faults c.args.store.now) (g.S.Store.absences c.args.store.now))
    (counts_of (g.S.Store.faults c.load.new.store) (g.S.Store.absences c.load.new.store)) (g.S.Store.missed c.args.store.now) (g.S.Store.missed c.load.new.store) words c.args.script c.in-Ok.loaded.items c.in_ok-reported-in-Ok.reported c.due_of_run.result bytes
    due.status due.text due.tenants due.kept due.bays command there short reads run.bays c.in-Ok.ensures.loaded c.in-Ok.ensures.within run.report
    (none-noted _ _ _ _ c.in-Ok.is c.load.ensures.noted)

pub returns-in-Ok-clause-written : goal.returns-in-Ok-clause-written
returns-in-Ok-clause-written g c =
    let due = c.due_of_run.ensures in
    let run = c.in_ok-reported-in-Ok.ensures in
    let spelt = c.words_of_a_script_are_spelt.ensures c.requires.0 c.args.script c.requires.1 in
    run-written c.args.script c.in_ok-reported-in-Ok.reported c.due_of_run.result due.tenants due.kept spelt run.count run.kept

pub returns-in-Err-Unread-clause-due : goal.returns-in-Err-Unread-clause-due
returns-in-Err-Unread-clause-due g c = λ words path bytes command there short reads.
    let why = c.in-Err-Unread.why in
    unread-file-due (g.S.Store.told c.args.store.now) (counts_of (g.S.Store.faults c.args.store.now) (g.S.Store.absences c.args.store.now))
    (counts_of (g.S.Store.faults c.load.new.store) (g.S.Store.absences c.load.new.store)) (g.S.Store.missed c.args.store.now) (g.S.Store.missed c.load.new.store) words c.args.script c.only.result bytes c.in-Err-Unread.path why c.only.ensures
    c.in_ok-line-in-Err-Unread.ensures c.as_slice.ensures command there short reads (c.in-Err-Unread.ensures.missed _ why (ap Err c.in-Err-Unread.field-0-is))
    (c.load.ensures.noted ∙ ap (λ r. g.S.Store.missed c.args.store.now ++ missed_in r) (c.in-Err-Unread.is ∙ ap Err c.in-Err-Unread.field-0-is))
