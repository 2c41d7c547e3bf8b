use Rattle.std.proofs.Common.{ap, Err, refl}
use Rattle.host_files.specs.Reading.{counts_of}
use Rattle.host_run.specs.Words.{Check}
use Rattle.host_run.proofs.Dues.{due-checked, due-unread, not-noted}
use Rattle.host_run.proofs.due.due_of_source_path.Goals as goal

pub returns-in-Ok-clause-due : goal.returns-in-Ok-clause-due
returns-in-Ok-clause-due g c =
    due-checked c.due_of_source.result (g.S.Store.told c.args.store.now) (counts_of (g.S.Store.faults c.args.store.now) (g.S.Store.absences c.args.store.now))
    (counts_of (g.S.Store.faults c.read.new.self) (g.S.Store.absences c.read.new.self)) (g.S.Store.missed c.args.store.now) (g.S.Store.missed c.read.new.self) c.args.path.now
    c.deref.result.now (not-noted _ _ _ _ _ c.in-Ok.is c.read.ensures.missed) c.due_of_source.ensures.only
    c.due_of_source.ensures.check (rw c.deref.ensures.value c.in-Ok.ensures.bytes) (rw c.deref.ensures.value c.in-Ok.ensures.short)

pub returns-in-Err-clause-due : goal.returns-in-Err-clause-due
returns-in-Err-clause-due g c =
    let failed = c.in-Err.ensures in
    let only = rw c.as_bytes.ensures.value at c.due_of_unread.ensures.only in
    due-unread c.due_of_unread.result c.read.result (g.S.Store.told c.args.store.now) (counts_of (g.S.Store.faults c.args.store.now) (g.S.Store.absences c.args.store.now))
    (counts_of (g.S.Store.faults c.read.new.self) (g.S.Store.absences c.read.new.self)) (g.S.Store.missed c.args.store.now) (g.S.Store.missed c.read.new.self) (Check c.args.path.now)
    c.args.path.now c.in-Err.why refl c.in-Err.is c.read.ensures.missed c.due_of_unread.ensures.why only (λ e. failed.not_there (ap Err e)) (λ e. failed.too_long (ap Err e))
    (λ e. failed.failed (ap Err e))
