use Rattle.fab_desk.proofs.Crosses.{crosses}
use Rattle.machine_rows.proofs.fabrics.desks.Wanted.TheSendSync as wanted
use Rattle.machine_rows.proofs.fabrics.race.both.Goals as goal

pub join-one-requires-send-F : goal.join-one-requires-send-F
join-one-requires-send-F g c κs within = search (crosses, wanted.the_send) depth 40

pub join-one-requires-send-A : goal.join-one-requires-send-A
join-one-requires-send-A g c κs within = search crosses depth 40
