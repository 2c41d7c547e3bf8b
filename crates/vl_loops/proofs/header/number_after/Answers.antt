use Rattle.std.proofs.Common.{ap}
use Rattle.vl_design.specs.Seen.{node_stm, target_of, exp_of, stm_of}
use Rattle.vl_loops.specs.Rooms.{rows_of}
use Rattle.vl_loops.proofs.SteppingOfHeader.{step-state}
use Rattle.vl_loops.proofs.header.number_after.Goals as goal

pub returns-in-Set-clause-state : goal.returns-in-Set-clause-state
returns-in-Set-clause-state c =
    let s = c.args.s.now in
    step-state (rows_of c.args.room.now) c.args.numbers.now c.args.variable c.number_assigned.result (stm_of s) s.place (target_of c.in-Set.field-0) (exp_of c.in-Set.source)
    (ap (node_stm s.place) c.in-Set.is) c.requires.head c.requires.loops c.requires.numbers c.number_assigned.ensures.value c.number_assigned.ensures.fits
