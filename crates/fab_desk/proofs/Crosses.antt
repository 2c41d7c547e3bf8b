-- Threads may share a desk, and be given it and its seats. `crosses` has what callers need, with what a bay's calls take and answer: where a
-- goal is that a type with one of these in it is `Send` or `Sync`, an answer is `search crosses depth 40`.
use denote.Builtin.{u32}
use denote.Param.Send.{IsSend, IsSync, sendable, view_send, view_sync}
use denote.Param.SendFields.{declared_send, declared_sync}
use Rattle.fab_bay.specs.fab_lock.proofs.lock.Lock.TheSendSync as lock
use Rattle.fab_bay.specs.fab_lock.proofs.seat.LockSeat.TheSendSync as seat
use Rattle.fab_bay.specs.fab_lock.specs.contracts.lock.Lock as Lock
use Rattle.fab_bay.specs.fab_lock.specs.contracts.seat.LockSeat as LockSeat
use Rattle.fab_bay.specs.fab_model.specs.contracts.note.Note as Note
use Rattle.fab_bay.proofs.Crosses as bays
use Rattle.fab_bay.proofs.Crosses.{Bay-send}
use Rattle.fab_bay.specs.contracts.bay.Bay as Bay
use Rattle.fab_bay.specs.contracts.bay.BayKept.TheImpl.{ghosts}
use Rattle.fab_bay.specs.contracts.noted.Label as Label
use Rattle.fab_desk.specs.contracts.desk.Desk as Desk
use Rattle.fab_desk.specs.contracts.desk.Desk.TheInside as DeskInside
use Rattle.fab_desk.specs.contracts.desk.DeskSeat as DeskSeat
use Rattle.fab_desk.specs.contracts.desk.DeskSeat.TheInside as SeatInside

lock_send : IsSend (Lock.the_row Bay.the_row Label.the_row Note.the_row ghosts)
lock_send = lock.the_send Bay.the_row Label.the_row Note.the_row ghosts Bay-send

lock_sync : IsSync (Lock.the_row Bay.the_row Label.the_row Note.the_row ghosts)
lock_sync = lock.the_sync Bay.the_row Label.the_row Note.the_row ghosts Bay-send

lock_seat_send : IsSend (LockSeat.the_row Bay.the_row Label.the_row Note.the_row ghosts)
lock_seat_send = seat.the_send Bay.the_row Label.the_row Note.the_row ghosts Bay-send

desk_send : IsSend DeskInside.the_row
desk_send = declared_send DeskInside.the_type (lock_send, (search sendable, tt))

desk_sync : IsSync DeskInside.the_row
desk_sync = declared_sync DeskInside.the_type (lock_sync, (search sendable, tt))

seat_send : IsSend SeatInside.the_row
seat_send = declared_send SeatInside.the_type (lock_seat_send, tt)

pub Desk-send : IsSend Desk.the_row
Desk-send = view_send _ _ _ _ _ desk_send

pub Desk-sync : IsSync Desk.the_row
Desk-sync = view_sync _ _ _ _ _ desk_sync

pub DeskSeat-send : IsSend DeskSeat.the_row
DeskSeat-send = view_send _ _ _ _ _ seat_send

pub ruleset crosses = (bays.crosses, Desk-send, Desk-sync, DeskSeat-send)
