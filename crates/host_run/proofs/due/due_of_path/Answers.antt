use Rattle.std.proofs.Common.{ap, Err, refl}
use Rattle.host_files.specs.Reading.{counts_of}
use Rattle.host_run.specs.Words.{Run}
use Rattle.host_run.proofs.Dues.{due-told, due-unread, not-noted}
use Rattle.host_run.proofs.due.due_of_path.Goals as goal

pub returns-in-Ok-clause-due : goal.returns-in-Ok-clause-due
returns-in-Ok-clause-due g c =
    due-told c.due_of_bytes.result (g.S.Store.told c.args.store.now) (g.S.Store.told c.read.new.self)
    (counts_of (g.S.Store.faults c.args.store.now) (g.S.Store.absences c.args.store.now)) (counts_of (g.S.Store.faults c.read.new.self) (g.S.Store.absences c.read.new.self))
    (counts_of (g.S.Store.faults c.due_of_bytes.new.store) (g.S.Store.absences c.due_of_bytes.new.store)) (g.S.Store.missed c.args.store.now) (g.S.Store.missed c.read.new.self)
    (g.S.Store.missed c.due_of_bytes.new.store) c.args.path.now c.deref.result.now c.read.ensures.told c.read.ensures.faults c.read.ensures.absences
    (not-noted _ _ _ _ _ c.in-Ok.is c.read.ensures.missed) (rw c.deref.ensures.value c.in-Ok.ensures.bytes) c.due_of_bytes.ensures.due

pub returns-in-Err-clause-due : goal.returns-in-Err-clause-due
returns-in-Err-clause-due g c =
    let failed = c.in-Err.ensures in
    let only = rw c.as_bytes.ensures.value at c.due_of_unread.ensures.only in
    due-unread c.due_of_unread.result c.read.result (g.S.Store.told c.args.store.now) (counts_of (g.S.Store.faults c.args.store.now) (g.S.Store.absences c.args.store.now))
    (counts_of (g.S.Store.faults c.read.new.self) (g.S.Store.absences c.read.new.self)) (g.S.Store.missed c.args.store.now) (g.S.Store.missed c.read.new.self) (Run c.args.path.now)
    c.args.path.now c.in-Err.why refl c.in-Err.is c.read.ensures.missed c.due_of_unread.ensures.why only (λ e. failed.not_there (ap Err e)) (λ e. failed.too_long (ap Err e))
    (λ e. failed.failed (ap Err e))
