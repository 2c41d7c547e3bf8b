-- A thread may be given a bay, and what its calls take and answer. The prover shows this by itself of each type that holds no tree of a
-- design, and gives up at those that do, so it is shown of these field by field, from a design up. `crosses` has what callers need: where a
-- goal is that a type with one of these in it is `Send`, an answer is `search crosses depth 40`.
use denote.RattleType.{RattleType}
use denote.Hole.{as_row}
use denote.Builtin.{bool, u8, u32, u64, usize}
use denote.Struct.Field.{row_field}
use denote.Param.Send.{IsSend, IsSync, sendable, view_send}
use denote.Param.SendFields.{declared_send, declared_sync, variants_send, as_row_send, as_row_sync}
use Rattle.std.proofs.Crossing.{crosses as owners, Box-send, Box-sync, Vec-send, Vec-sync, Arc-send, Arc-sync}
use Rattle.std.specs.contracts.alloc.Global as Heap
use Rattle.std.specs.contracts.impls.GlobalAllocator.TheImpl.{ghosts}
use Rattle.std.specs.contracts.option.Option as Option
use Rattle.std.specs.contracts.snapshot.Snapshot as Snapshot
use Rattle.std.specs.contracts.sync.Arc as Arc
use Rattle.std.specs.contracts.vec.Vec as Vec
use Rattle.vl_design.specs.vl_base.specs.contracts.items.Items as Items
use Rattle.vl_design.specs.vl_base.proofs.bits.BinOp.TheSendSync as binary
use Rattle.vl_design.specs.vl_base.proofs.bits.Bits.TheSendSync as bits
use Rattle.vl_design.specs.vl_base.proofs.bits.UnOp.TheSendSync as unary
use Rattle.vl_design.specs.vl_base.proofs.files.FileSet.TheSendSync as files
use Rattle.vl_design.specs.vl_base.proofs.items.Items.TheSendSync as items
use Rattle.vl_design.specs.vl_base.proofs.number.Number.TheSendSync as number
use Rattle.vl_design.specs.vl_base.proofs.place.Place.TheSendSync as place
use Rattle.vl_design.proofs.design.LowestBit.TheSendSync as lowest
use Rattle.vl_design.proofs.design.Event.TheSendSync as event
use Rattle.vl_design.proofs.design.ProcKind.TheSendSync as kind
use Rattle.vl_design.proofs.design.Signal.TheSendSync as signal
use Rattle.vl_design.proofs.design.ExprNode.TheLaws.TheKnot as expr
use Rattle.vl_design.proofs.design.TargetNode.TheLaws.TheKnot as target
use Rattle.vl_design.proofs.design.StmtNode.TheLaws.TheKnot as stmt
use Rattle.vl_design.specs.contracts.design.Design as Design
use Rattle.vl_design.specs.contracts.design.Event as Event
use Rattle.vl_design.specs.contracts.design.Expr as Expr
use Rattle.vl_design.specs.contracts.design.Func as Func
use Rattle.vl_design.specs.contracts.design.Process as Process
use Rattle.vl_design.specs.contracts.design.Signal as Signal
use Rattle.vl_design.specs.contracts.design.Stmt as Stmt
use Rattle.vl_design.specs.contracts.design.SysCall as SysCall
use Rattle.vl_design.specs.contracts.design.Target as Target
use Rattle.vl_design.proofs.capacity.Cost.TheSendSync as cost
use Rattle.ten_core.specs.cell_form.proofs.bank.Bank.TheSendSync as bank
use Rattle.ten_core.specs.cell_form.proofs.bank.PortMap.TheSendSync as ports
use Rattle.ten_core.specs.cell_form.proofs.table.StateTable.TheSendSync as states
use Rattle.ten_core.specs.ten_files.proofs.table.Table.TheSendSync as table
use Rattle.ten_core.specs.ten_plan.proofs.held.FreeSave.TheSendSync as free
use Rattle.ten_core.specs.ten_plan.proofs.held.Held.TheSendSync as held
use Rattle.ten_core.specs.ten_plan.proofs.held.Saved.TheSendSync as saved
use Rattle.ten_core.specs.ten_plan.proofs.plan.Plan.TheSendSync as plan
use Rattle.ten_core.specs.ten_plan.specs.contracts.held.FreeSave as FreeSave
use Rattle.ten_core.specs.ten_plan.specs.contracts.held.Held as Held
use Rattle.ten_core.specs.ten_plan.specs.contracts.held.Saved as Saved
use Rattle.fab_core.specs.ten_zero.proofs.early.Early.TheSendSync as early
use Rattle.fab_core.specs.fab_join.proofs.joined.Joined.TheSendSync as joined
use Rattle.fab_core.specs.fab_lock.proofs.entry.Entry.TheSendSync as entry
use Rattle.fab_core.specs.fab_lock.specs.contracts.entry.Entry as Entry
use Rattle.ten_core.specs.contracts.image.Image as Image
use Rattle.ten_core.specs.contracts.origin.Origin as Origin
use Rattle.ten_core.specs.contracts.engine.Engine as Engine
use Rattle.fab_core.specs.ten_shell.specs.contracts.shell.Shell as Shell
use Rattle.fab_core.specs.ten_shell.proofs.shell.Why.TheSendSync as why
use Rattle.fab_core.specs.ten_parcel.specs.contracts.tenant.Tenant as Tenant
use Rattle.fab_core.specs.ten_parcel.specs.contracts.parcel.Over as Over
use Rattle.fab_core.specs.ten_parcel.specs.contracts.parcel.Parcel as Parcel
use Rattle.fab_core.specs.fab_model.proofs.transit.Stay.TheSendSync as stay
use Rattle.fab_core.specs.fab_model.specs.contracts.transit.Stay as Stay
use Rattle.fab_core.specs.fab_model.specs.contracts.transit.Transit as Transit
use Rattle.fab_core.specs.fab_model.specs.contracts.note.Note as Note
use Rattle.fab_core.specs.contracts.resident.Resident as Resident
use Rattle.fab_core.specs.contracts.cores.FabCore as FabCore
use Rattle.fab_bay.specs.contracts.noted.Label as Label
use Rattle.fab_bay.proofs.leaving.DeskError.TheSendSync as refusal
use Rattle.fab_bay.specs.contracts.berth.Berth as Berth
use Rattle.fab_bay.specs.contracts.noted.NotedCore as NotedCore
use Rattle.fab_bay.specs.contracts.bay.Bay as Bay
use Rattle.fab_bay.specs.contracts.bay.Bay.TheInside as Inside
use Rattle.fab_bay.specs.contracts.leaving.Leaving as Leaving
use Rattle.fab_bay.specs.contracts.leaving.Refused as Refused
use Rattle.fab_bay.specs.contracts.leaving.Turn as Turn
use Rattle.fab_bay.specs.contracts.leaving.Found as Found
use Rattle.fab_bay.specs.contracts.leaving.Taken as Taken

bool_send : IsSend bool
bool_send = search sendable

u8_send : IsSend u8
u8_send = search sendable

u32_send : IsSend u32
u32_send = search sendable

Text-send : IsSend (Items.the_row u8)
Text-send = items.the_send u8 u8_send

items_send : (R : RattleType) → IsSend R → IsSend (as_row (row_field (Items.the_row R)))
items_send R s = as_row_send (row_field (Items.the_row R)) (items.the_send R s)

vec_send : (R : RattleType) → IsSend R → IsSend (as_row (Vec.the_field R Heap.the_row ghosts))
vec_send R s = as_row_send (Vec.the_field R Heap.the_row ghosts) (Vec-send R s)

Expr-send : IsSend (Expr.the_field).row
Expr-send = expr.send-Expr bits.the_field_send bool_send number.the_field_send u32_send Box-send lowest.the_field_send u8_send (search sendable) unary.the_field_send binary.the_field_send Vec-send Text-send place.the_field_send

exprs_send : IsSend (Vec.the_field Expr.the_row Heap.the_row ghosts).row
exprs_send = Vec-send Expr.the_row (as_row_send Expr.the_field Expr-send)

SysCall-send : IsSend (SysCall.the_field).row
SysCall-send = expr.send-SysCall bits.the_field_send bool_send number.the_field_send u32_send Box-send lowest.the_field_send u8_send (search sendable) unary.the_field_send binary.the_field_send Vec-send Text-send place.the_field_send

Target-send : IsSend (Target.the_field).row
Target-send = target.send-Target u32_send (Box-send Expr.the_row (as_row_send Expr.the_field Expr-send)) Box-send lowest.the_field_send u8_send (search sendable) Vec-send place.the_field_send

Stmt-send : IsSend (Stmt.the_field).row
Stmt-send = stmt.send-Stmt Vec-send Expr-send Box-send bool_send u32_send Target-send SysCall-send exprs_send place.the_field_send

Process-send : IsSend Process.the_row
Process-send = declared_send Process.the_type (place.the_send, (items_send u8 u8_send, (kind.the_send, (items_send Event.the_row event.the_send, (as_row_send Stmt.the_field Stmt-send, tt)))))

Func-send : IsSend Func.the_row
Func-send = declared_send Func.the_type (items_send u8 u8_send, (place.the_send, (items_send u32 u32_send, (u32_send, (items_send Signal.the_row signal.the_send, (as_row_send Stmt.the_field Stmt-send, tt))))))

Design-send : IsSend Design.the_row
Design-send = declared_send Design.the_type (items_send u8 u8_send, (items_send Signal.the_row signal.the_send, (items_send Func.the_row Func-send, (items_send Process.the_row Process-send, tt))))

Image-send : IsSend Image.the_row
Image-send = declared_send Image.the_type (Design-send, (vec_send u32 u32_send, (states.the_send, (u32_send, (u32_send, (u32_send, (ports.the_send, (cost.the_send, tt))))))))

held_send : IsSend (as_row (Option.the_field Held.the_row))
held_send = search (sendable, held.the_send) depth 20

Origin-send : IsSend Origin.the_row
Origin-send = declared_send Origin.the_type (Image-send, (files.the_send, (plan.the_send, (held_send, tt))))

bool_sync : IsSync bool
bool_sync = search sendable

u8_sync : IsSync u8
u8_sync = search sendable

u32_sync : IsSync u32
u32_sync = search sendable

Text-sync : IsSync (Items.the_row u8)
Text-sync = items.the_sync u8 u8_sync

items_sync : (R : RattleType) → IsSync R → IsSync (as_row (row_field (Items.the_row R)))
items_sync R s = as_row_sync (row_field (Items.the_row R)) (items.the_sync R s)

vec_sync : (R : RattleType) → IsSync R → IsSync (as_row (Vec.the_field R Heap.the_row ghosts))
vec_sync R s = as_row_sync (Vec.the_field R Heap.the_row ghosts) (Vec-sync R s)

Expr-sync : IsSync (Expr.the_field).row
Expr-sync = expr.sync-Expr bits.the_field_sync bool_sync number.the_field_sync u32_sync Box-sync lowest.the_field_sync u8_sync (search sendable) unary.the_field_sync binary.the_field_sync Vec-sync Text-sync place.the_field_sync

exprs_sync : IsSync (Vec.the_field Expr.the_row Heap.the_row ghosts).row
exprs_sync = Vec-sync Expr.the_row (as_row_sync Expr.the_field Expr-sync)

SysCall-sync : IsSync (SysCall.the_field).row
SysCall-sync = expr.sync-SysCall bits.the_field_sync bool_sync number.the_field_sync u32_sync Box-sync lowest.the_field_sync u8_sync (search sendable) unary.the_field_sync binary.the_field_sync Vec-sync Text-sync place.the_field_sync

Target-sync : IsSync (Target.the_field).row
Target-sync = target.sync-Target u32_sync (Box-sync Expr.the_row (as_row_sync Expr.the_field Expr-sync)) Box-sync lowest.the_field_sync u8_sync (search sendable) Vec-sync place.the_field_sync

Stmt-sync : IsSync (Stmt.the_field).row
Stmt-sync = stmt.sync-Stmt Vec-sync Expr-sync Box-sync bool_sync u32_sync Target-sync SysCall-sync exprs_sync place.the_field_sync

Process-sync : IsSync Process.the_row
Process-sync = declared_sync Process.the_type (place.the_sync, (items_sync u8 u8_sync, (kind.the_sync, (items_sync Event.the_row event.the_sync, (as_row_sync Stmt.the_field Stmt-sync, tt)))))

Func-sync : IsSync Func.the_row
Func-sync = declared_sync Func.the_type (items_sync u8 u8_sync, (place.the_sync, (items_sync u32 u32_sync, (u32_sync, (items_sync Signal.the_row signal.the_sync, (as_row_sync Stmt.the_field Stmt-sync, tt))))))

Design-sync : IsSync Design.the_row
Design-sync = declared_sync Design.the_type (items_sync u8 u8_sync, (items_sync Signal.the_row signal.the_sync, (items_sync Func.the_row Func-sync, (items_sync Process.the_row Process-sync, tt))))

Image-sync : IsSync Image.the_row
Image-sync = declared_sync Image.the_type (Design-sync, (vec_sync u32 u32_sync, (states.the_sync, (u32_sync, (u32_sync, (u32_sync, (ports.the_sync, (cost.the_sync, tt))))))))

held_sync : IsSync (as_row (Option.the_field Held.the_row))
held_sync = search (sendable, held.the_sync) depth 20

Origin-sync : IsSync Origin.the_row
Origin-sync = declared_sync Origin.the_type (Image-sync, (files.the_sync, (plan.the_sync, (held_sync, tt))))

u64_send : IsSend u64
u64_send = search sendable

usize_send : IsSend usize
usize_send = search sendable

origin_send : IsSend (as_row (Arc.the_field Origin.the_row Heap.the_row ghosts))
origin_send = as_row_send (Arc.the_field Origin.the_row Heap.the_row ghosts) (Arc-send Origin.the_row Origin-send Origin-sync)

Engine-send : IsSend Engine.the_row
Engine-send = declared_send Engine.the_type (origin_send, (table.the_send, (vec_send u8 u8_send, (vec_send (Items.the_row u8) Text-send, (u64_send, (u64_send, (u32_send, (bool_send, (bool_send, tt)))))))))

Shell-send : IsSend Shell.the_row
Shell-send = declared_send Shell.the_type (u32_send, (Engine-send, (vec_send Saved.the_row saved.the_send, (usize_send, (usize_send, (vec_send FreeSave.the_row free.the_send, (bool_send, (bool_send, tt))))))))

Tenant-send : IsSend Tenant.the_row
Tenant-send = declared_send Tenant.the_type (Shell-send, (bank.the_send, tt))

Over-send : IsSend Over.the_row
Over-send = declared_send Over.the_type (u32_send, (origin_send, (early.the_send, tt)))

pub Parcel-send : IsSend Parcel.the_row
Parcel-send = variants_send Parcel.enum ((Tenant-send, tt), ((Over-send, tt), tt))

stays_send : IsSend (as_row (Vec.the_field Stay.the_row Heap.the_row ghosts))
stays_send = vec_send Stay.the_row stay.the_send

pub Transit-send : IsSend Transit.the_row
Transit-send = declared_send Transit.the_type (Parcel-send, (stays_send, (bool_send, tt)))

snapshot_send : IsSend (Snapshot.the_row Transit.the_row)
snapshot_send = search owners

known_send : IsSend (as_row (Option.the_field (Snapshot.the_row Transit.the_row)))
known_send = search (sendable, snapshot_send) depth 20

pub Note-send : IsSend Note.the_row
Note-send = declared_send Note.the_type (entry.the_send, (known_send, tt))

Berth-send : IsSend Berth.the_row
Berth-send = declared_send Berth.the_type (u32_send, (u64_send, (u64_send, (bool_send, (stays_send, (snapshot_send, tt))))))

Resident-send : IsSend Resident.the_row
Resident-send = declared_send Resident.the_type (Tenant-send, (u32_send, tt))

FabCore-send : IsSend FabCore.the_row
FabCore-send = declared_send FabCore.the_type (cost.the_send, (cost.the_send, (vec_send Resident.the_row Resident-send, (vec_send Tenant.the_row Tenant-send, (bool_send, (joined.the_send, tt))))))

entries_send : IsSend (as_row (Vec.the_field Entry.the_row Heap.the_row ghosts))
entries_send = vec_send Entry.the_row entry.the_send

named_send : IsSend (Snapshot.the_row (as_row (Vec.the_field Origin.the_row Heap.the_row ghosts)))
named_send = search owners

origins_send : IsSend (as_row (Option.the_field (Snapshot.the_row (as_row (Vec.the_field Origin.the_row Heap.the_row ghosts)))))
origins_send = search (sendable, named_send) depth 20

Label-send : IsSend Label.the_row
Label-send = declared_send Label.the_type (u32_send, (cost.the_send, (u32_send, (bool_send, (origins_send, tt)))))

NotedCore-send : IsSend NotedCore.the_row
NotedCore-send = declared_send NotedCore.the_type (Label-send, (FabCore-send, (vec_send Berth.the_row Berth-send, (vec_send Berth.the_row Berth-send, (vec_send Note.the_row Note-send, (entries_send, tt))))))

inside_send : IsSend Inside.the_row
inside_send = declared_send Inside.the_type (NotedCore-send, tt)

pub Bay-send : IsSend Bay.the_row
Bay-send = view_send _ _ _ _ _ inside_send

-- what a bay's calls answer
pub Leaving-send : IsSend Leaving.the_row
Leaving-send = declared_send Leaving.the_type (Transit-send, (why.the_send, tt))

pub Refused-send : IsSend Refused.the_row
Refused-send = declared_send Refused.the_type (refusal.the_send, (Transit-send, tt))

pub Turn-send : IsSend Turn.the_row
Turn-send = declared_send Turn.the_type (entries_send, (vec_send Leaving.the_row Leaving-send, (bool_send, (bool_send, tt))))

pub Found-send : IsSend Found.the_row
Found-send = variants_send Found.enum ((Transit-send, tt), (tt, (tt, tt)))

pub Taken-send : IsSend Taken.the_row
Taken-send = declared_send Taken.the_type (entries_send, (Found-send, tt))

pub ruleset crosses = (sendable, owners, Transit-send, Parcel-send, Note-send, Bay-send, Leaving-send, Refused-send, Turn-send, Found-send, Taken-send)
