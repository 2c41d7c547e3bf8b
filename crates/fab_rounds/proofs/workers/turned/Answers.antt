use denote.Param.Send.{IsSync, sendable}
use Rattle.std.specs.contracts.alloc.Global as Heap
use Rattle.fab_desk.proofs.Crosses.{Desk-sync}
use Rattle.fab_rounds.proofs.Crosses.{Worker-send}
use Rattle.fab_rounds.proofs.workers.turned.Goals as goal

pub map_vec-requires-send-J : goal.map_vec-requires-send-J
map_vec-requires-send-J g c κs = search (sendable, Worker-send) depth 20

pub map_vec-requires-send-X : goal.map_vec-requires-send-X
map_vec-requires-send-X g c κs = search (sendable, Worker-send) depth 20

heap_sync : IsSync Heap.the_row
heap_sync = search sendable depth 20

pub map_vec-requires-sync-F : goal.map_vec-requires-sync-F
map_vec-requires-sync-F g c κs = λ h. search (sendable, Desk-sync, heap_sync, c.type_bounds) depth 20
