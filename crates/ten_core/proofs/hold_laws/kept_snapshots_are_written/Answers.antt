use Rattle.ten_core.proofs.Keeping.{state-written, kept-written}
use Rattle.ten_core.proofs.hold_laws.kept_snapshots_are_written.Goals as goal

pub returns : goal.returns
returns c = λ o free k saved can rows set fine table keeps.
    kept-written o free
    (λ j q at. state-written o.flat o.files q.state can rows set (c.values_stay_in_range.ensures o j q fine at) (c.open_files_stay_in_order.ensures.boundary o j q table at)) k saved keeps
