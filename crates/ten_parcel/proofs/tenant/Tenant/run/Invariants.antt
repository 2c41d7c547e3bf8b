use Rattle.ten_parcel.proofs.Running.{coming, GoesAlong}
use Rattle.ten_parcel.proofs.tenant.Tenant.run.Given as goal

-- it is on its way, with all snapshots made
abbrev pub invariant-acts : goal.invariant-acts
invariant-acts l = GoesAlong l.fn.self l.self

abbrev pub decreases-acts : goal.decreases-acts
decreases-acts l = coming l.self.shell.engine
