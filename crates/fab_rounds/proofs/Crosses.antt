-- A thread may be given a worker, and what it has.
use denote.RattleType.{RattleType}
use denote.Hole.{as_row}
use denote.Builtin.{bool, u32, u64}
use denote.Param.Send.{IsSend, sendable}
use denote.Param.SendFields.{declared_send, as_row_send}
use Rattle.std.proofs.Crossing.{Vec-send}
use Rattle.std.specs.contracts.alloc.Global as Heap
use Rattle.std.specs.contracts.impls.GlobalAllocator.TheImpl.{ghosts}
use Rattle.std.specs.contracts.vec.Vec as Vec
use Rattle.fab_desk.specs.fab_bay.specs.contracts.leaving.Leaving as Leaving
use Rattle.fab_desk.specs.fab_bay.proofs.Crosses.{Leaving-send}
use Rattle.fab_desk.proofs.Crosses.{DeskSeat-send}
use Rattle.fab_rounds.specs.contracts.workers.Crew as Crew
use Rattle.fab_rounds.specs.contracts.workers.Worker as Worker

bool_send : IsSend bool
bool_send = search sendable

u32_send : IsSend u32
u32_send = search sendable

u64_send : IsSend u64
u64_send = search sendable

vec_send : (R : RattleType) → IsSend R → IsSend (as_row (Vec.the_field R Heap.the_row ghosts))
vec_send R s = as_row_send (Vec.the_field R Heap.the_row ghosts) (Vec-send R s)

pile_send : IsSend (as_row (Vec.the_field Leaving.the_row Heap.the_row ghosts))
pile_send = vec_send Leaving.the_row Leaving-send

piles_send : IsSend (as_row (Vec.the_field (as_row (Vec.the_field Leaving.the_row Heap.the_row ghosts)) Heap.the_row ghosts))
piles_send = vec_send (as_row (Vec.the_field Leaving.the_row Heap.the_row ghosts)) pile_send

pub Worker-send : IsSend Worker.the_row
Worker-send = declared_send Worker.the_type (u32_send, (DeskSeat-send, (piles_send, (u64_send, (bool_send, tt)))))

workers_send : IsSend (as_row (Vec.the_field Worker.the_row Heap.the_row ghosts))
workers_send = vec_send Worker.the_row Worker-send

pub Crew-send : IsSend Crew.the_row
Crew-send = declared_send Crew.the_type (workers_send, tt)
