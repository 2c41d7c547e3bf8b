use denote.Param.Send.{IsSync, sendable}
use Rattle.std.specs.contracts.alloc.Global as Heap
use Rattle.fab_desk.proofs.Crosses.{Desk-sync}
use Rattle.fab_rounds.proofs.Crosses.{Crew-send}
use Rattle.fab_rounds.proofs.rounds.turned_beside.Goals as goal

heap_sync : IsSync Heap.the_row
heap_sync = search sendable depth 20

pub join-requires-send-F : goal.join-requires-send-F
join-requires-send-F g c κs = λ h. search (sendable, Desk-sync, heap_sync, Crew-send, c.type_bounds) depth 20

pub join-requires-send-A : goal.join-requires-send-A
join-requires-send-A g c κs = λ h. search (sendable, Crew-send) depth 20
