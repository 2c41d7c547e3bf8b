use Rattle.std.proofs.Common.{ap, Err, refl}
use Rattle.host_run.proofs.Serving.{put-failed, saves-came}
use Rattle.host_run.proofs.host.write_due.Goals as goal

pub returns-in-Err-clause-wrote : goal.returns-in-Err-clause-wrote
returns-in-Err-clause-wrote g c =
    put-failed (Unit {0}) c.in-Err.error (rw c.deref.ensures.value at c.in-Err.ensures.front) refl (λ e. c.in-Err.ensures.failed (ap Err e)) c.status_of.ensures

pub returns-clause-wrote : goal.returns-clause-wrote
returns-clause-wrote g c =
    let write = c.write_all.ensures in
    saves-came c.write_all.result (rw c.deref.ensures.value at c.in_default.ensures.whole) (rw c.as_slice.ensures at write.all) (rw c.as_slice.ensures at write.front) (rw c.as_slice.ensures at write.lost) write.failed
    c.status_of-2.ensures
