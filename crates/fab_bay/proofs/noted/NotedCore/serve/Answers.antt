use Rattle.std.proofs.Common.{◌+◌, ◌<◌, length, refl, sym, ap, ◌∙◌, subst}
use Rattle.std.specs.declared.alloc.Global.{Global}
use Rattle.std.specs.declared.vec.Vec.{Vec}
use Rattle.ten_core.specs.sub_nodes.specs.Code.{table_of}
use Rattle.ten_core.specs.sub_nodes.specs.Stands.{at_trap}
use Rattle.fab_core.specs.fab_model.specs.Points.{run_in}
use Rattle.fab_core.specs.declared.cores.FabCore.{FabCore}
use Rattle.fab_core.specs.fab_model.specs.Fabrics.{all_served}
use Rattle.fab_bay.specs.declared.berth.Berth.{Berth}
use Rattle.fab_bay.specs.Acts.{acts_in, saves_in}
use Rattle.fab_bay.specs.Standing.{HasRoomFor}
use Rattle.fab_bay.proofs.Acts.{call-nearer, save-along, save-fewer, still-by, trap-by}
use Rattle.fab_bay.proofs.Events.{first-served, goes-core, goes-same, goes-serve, on-ok, room-by, same-back, same-noted, serve-noted}
use Rattle.fab_bay.proofs.Near.{none-same, none-served, none-still, none-then}
use Rattle.fab_bay.proofs.Onward.{goes-then}
use Rattle.fab_bay.proofs.Saves.{goes-saved}
use Rattle.fab_bay.proofs.Wanted.{rests-by}
use Rattle.fab_bay.proofs.noted.NotedCore.serve.Goals as goal

pub returns-then-is_err-clause-goes : goal.returns-then-is_err-clause-goes
returns-then-is_err-clause-goes c = λ out. goes-same c.args.number c.args.self.now c.prepare.new.self out c.prepare.ensures.same

pub returns-then-is_err-clause-room : goal.returns-then-is_err-clause-room
returns-then-is_err-clause-room c =
    let x = c.args.self.now in
    let y = c.prepare.new.self in
    room-by (length x.berths.items) (length y.berths.items) y (ap (λ (v : Vec Berth Global). length v.items) (sym c.prepare.ensures.same.berths)) (c.prepare.ensures.kept (length x.berths.items) c.requires.room)

pub serve-requires : goal.serve-requires
serve-requires c =
    let f = c.requires.fabric.0 in
    let h = c.requires.fabric.1 in
    let w = c.requires.waits f h in
    (f, w.0, (same-noted c.args.self.now c.prepare.new.self f c.prepare.ensures.same h).core, w.1, w.2)

pub saved_one-requires-clause-fabric : goal.saved_one-requires-clause-fabric
saved_one-requires-clause-fabric c =
    let f = c.requires.fabric.0 in
    let h = c.requires.fabric.1 in
    let w = c.requires.waits f h in
    let y = c.prepare.new.self in
    let k = same-noted c.args.self.now y f c.prepare.ensures.same h in
    let r = first-served c.args.tenant f.residents w.0 w.1 in (
      all_served c.args.tenant f,
      r.0,
      serve-noted c.each_act_comes_nearer.ensures.call_ticks c.args.tenant y (record y { core = c.serve.new.self }) f (record { label = refl; berths = refl; waiting = refl; notes = refl; told = refl })
          (c.in-Ok.ensures.fabric f k.core) k,
      r.1,
    )

pub returns-in-Err-clause-goes : goal.returns-in-Err-clause-goes
returns-in-Err-clause-goes c = λ out.
    let x = c.args.self.now in
    let y = c.prepare.new.self in
    let z = record y { core = c.serve.new.self } in
    goes-then c.args.number 0 0 x y z out out out (goes-same c.args.number x y out c.prepare.ensures.same)
    (goes-core c.args.number y z out (record { label = refl; berths = refl; waiting = refl; notes = refl; told = refl }) c.in-Err.ensures.err)

pub returns-else-saved-clause-goes : goal.returns-else-saved-clause-goes
returns-else-saved-clause-goes c = λ out.
    let x = c.args.self.now in
    let y = c.prepare.new.self in
    let z = record y { core = c.serve.new.self } in
    goes-then c.args.number 0 0 x y z out out out (goes-same c.args.number x y out c.prepare.ensures.same)
    (goes-serve c.each_act_comes_nearer.ensures.call_ticks c.args.number c.args.tenant y z out (record { label = refl; berths = refl; waiting = refl; notes = refl; told = refl }) c.in-Ok.ensures.fabric
    (λ f h.
    let w = c.requires.waits f (same-noted y x f (same-back x y c.prepare.ensures.same) h) in
    (w.0, w.1, w.2, trap-by c.in-Ok.saved (at_trap (table_of (run_in w.0).flat) w.0.stage) (c.in-Ok.ensures.which f w.0 h.core w.1) c.if-saved.false)))

pub returns-then-saved-clause-goes : goal.returns-then-saved-clause-goes
returns-then-saved-clause-goes c = λ out.
    let x = c.args.self.now in
    let y = c.prepare.new.self in
    let z = record y { core = c.serve.new.self } in
    let u = c.saved_one.new.self in
    let n = c.saved_one.ensures.written in
    goes-then c.args.number 0 0 x y u out out out (goes-same c.args.number x y out c.prepare.ensures.same)
    (goes-saved c.each_act_comes_nearer.ensures.call_ticks c.args.number c.args.tenant n.0 y z u out (record { label = refl; berths = refl; waiting = refl; notes = refl; told = refl }) c.in-Ok.ensures.fabric
    (λ f h.
    let w = c.requires.waits f (same-noted y x f (same-back x y c.prepare.ensures.same) h) in
    (w.0, w.1, w.2, still-by c.in-Ok.saved (at_trap (table_of (run_in w.0).flat) w.0.stage) (c.in-Ok.ensures.which f w.0 h.core w.1) c.if-saved.true))
    n.1 c.saved_one.ensures.closed c.saved_one.ensures.kept n.2)

pub returns-then-saved-clause-room : goal.returns-then-saved-clause-room
returns-then-saved-clause-room c =
    let x = c.args.self.now in
    let y = c.prepare.new.self in
    let u = c.saved_one.new.self in
    let n = length x.berths.items in
    let r : HasRoomFor (n + 2) y = on-ok (HasRoomFor (n + 2) y) c.prepare.result (sym c.is_err.ensures.value ∙ c.if-is_err.false) c.prepare.ensures.room in
    room-by n (length u.berths.items) u (sym (c.saved_one.ensures.long ∙ ap (λ (v : Vec Berth Global). length v.items) c.prepare.ensures.same.berths)) (c.saved_one.ensures.room n (record { notes = r.notes; told = r.told }))

pub returns-then-is_err-clause-near : goal.returns-then-is_err-clause-near
returns-then-is_err-clause-near c = none-same c.args.self.now c.prepare.new.self c.prepare.ensures.same.core

pub returns-then-is_err-clause-rests : goal.returns-then-is_err-clause-rests
returns-then-is_err-clause-rests c =
    let s = c.prepare.ensures.same in
    rests-by c.args.self.now c.prepare.new.self (ap (λ (v : Vec Berth Global). length v.items) s.berths) (ap (λ (v : Vec Berth Global). length v.items) s.waiting) (ap (λ (k : FabCore). k.holding) s.core)

pub returns-in-Err-clause-near : goal.returns-in-Err-clause-near
returns-in-Err-clause-near c =
    let x = c.args.self.now in
    let y = c.prepare.new.self in
    let s = c.prepare.ensures.same in
    let f = c.requires.fabric.0 in
    let k = same-noted x y f s c.requires.fabric.1 in
    let z = record y { core = c.serve.new.self } in
    none-then x y z (none-same x y s.core) (none-still y z f k.core (c.in-Err.ensures.err f k.core))

pub returns-in-Err-clause-rests : goal.returns-in-Err-clause-rests
returns-in-Err-clause-rests c =
    let x = c.args.self.now in
    let y = c.prepare.new.self in
    let s = c.prepare.ensures.same in
    let f = c.requires.fabric.0 in
    let h = c.requires.fabric.1 in
    let k = same-noted x y f s h in
    rests-by x (record y { core = c.serve.new.self }) (ap (λ (v : Vec Berth Global). length v.items) s.berths) (ap (λ (v : Vec Berth Global). length v.items) s.waiting)
    ((c.in-Err.ensures.err f k.core).holding ∙ sym h.core.holding)

pub returns-else-saved-clause-near : goal.returns-else-saved-clause-near
returns-else-saved-clause-near c =
    let x = c.args.self.now in
    let y = c.prepare.new.self in
    let s = c.prepare.ensures.same in
    let f = c.requires.fabric.0 in
    let k = same-noted x y f s c.requires.fabric.1 in
    let z = record y { core = c.serve.new.self } in
    none-then x y z (none-same x y s.core) (none-served c.each_act_comes_nearer.ensures.call_ticks c.args.tenant y z f k.core (c.in-Ok.ensures.fabric f k.core))

pub returns-else-saved-clause-rests : goal.returns-else-saved-clause-rests
returns-else-saved-clause-rests c =
    let x = c.args.self.now in
    let y = c.prepare.new.self in
    let s = c.prepare.ensures.same in
    let f = c.requires.fabric.0 in
    let h = c.requires.fabric.1 in
    let k = same-noted x y f s h in
    rests-by x (record y { core = c.serve.new.self }) (ap (λ (v : Vec Berth Global). length v.items) s.berths) (ap (λ (v : Vec Berth Global). length v.items) s.waiting)
    ((c.in-Ok.ensures.fabric f k.core).holding ∙ sym h.core.holding)

pub returns-then-saved-clause-near : goal.returns-then-saved-clause-near
returns-then-saved-clause-near c =
    let x = c.args.self.now in
    let y = c.prepare.new.self in
    let s = c.prepare.ensures.same in
    let f = c.requires.fabric.0 in
    let k = same-noted x y f s c.requires.fabric.1 in
    let z = record y { core = c.serve.new.self } in
    let u = c.saved_one.new.self in
    none-then x z u (none-then x y z (none-same x y s.core) (none-served c.each_act_comes_nearer.ensures.call_ticks c.args.tenant y z f k.core (c.in-Ok.ensures.fabric f k.core)))
    (none-same z u c.saved_one.ensures.core)

pub returns-then-saved-clause-rests : goal.returns-then-saved-clause-rests
returns-then-saved-clause-rests c =
    let x = c.args.self.now in
    let y = c.prepare.new.self in
    let s = c.prepare.ensures.same in
    let f = c.requires.fabric.0 in
    let h = c.requires.fabric.1 in
    let k = same-noted x y f s h in
    rests-by x c.saved_one.new.self (c.saved_one.ensures.long ∙ ap (λ (v : Vec Berth Global). length v.items) s.berths)
    (ap (λ (v : Vec Berth Global). length v.items) c.saved_one.ensures.waiting ∙ ap (λ (v : Vec Berth Global). length v.items) s.waiting)
    (ap (λ (w : FabCore). w.holding) c.saved_one.ensures.core ∙ (c.in-Ok.ensures.fabric f k.core).holding ∙ sym h.core.holding)

pub returns-else-saved-clause-call : goal.returns-else-saved-clause-call
returns-else-saved-clause-call c = λ e.
    let x = c.args.self.now in
    let y = c.prepare.new.self in
    let s = c.prepare.ensures.same in
    let f = c.requires.fabric.0 in
    let w = c.requires.waits f c.requires.fabric.1 in
    let k = same-noted x y f s c.requires.fabric.1 in
    let trap = trap-by c.in-Ok.saved (at_trap (table_of (run_in w.0).flat) w.0.stage) (c.in-Ok.ensures.which f w.0 k.core w.1) e in
    let fewer = call-nearer c.each_act_comes_nearer.ensures.call_nearer c.args.tenant y.core c.serve.new.self f w.0 k.core (c.in-Ok.ensures.fabric f k.core) w.1 trap in
    subst (λ (a : FabCore). acts_in c.serve.new.self.residents.items < acts_in a.residents.items) s.core fewer

pub returns-then-saved-clause-save : goal.returns-then-saved-clause-save
returns-then-saved-clause-save c = λ e.
    let x = c.args.self.now in
    let y = c.prepare.new.self in
    let s = c.prepare.ensures.same in
    let f = c.requires.fabric.0 in
    let w = c.requires.waits f c.requires.fabric.1 in
    let k = same-noted x y f s c.requires.fabric.1 in
    let still = still-by c.in-Ok.saved (at_trap (table_of (run_in w.0).flat) w.0.stage) (c.in-Ok.ensures.which f w.0 k.core w.1) e in
    let along = save-along c.args.tenant y.core c.serve.new.self f w.0 k.core (c.in-Ok.ensures.fabric f k.core) w.1 still in
    let fewer = save-fewer c.args.tenant y.core c.serve.new.self f w.0 k.core (c.in-Ok.ensures.fabric f k.core) w.1 still w.2 in
    let last = c.saved_one.ensures.core in (
      ap (λ (a : FabCore). acts_in a.residents.items) last ∙ (along ∙ ap (λ (a : FabCore). acts_in a.residents.items) s.core),
      subst (λ (a : FabCore). saves_in a.residents.items < saves_in x.core.residents.items) (sym last)
          (subst (λ (a : FabCore). saves_in c.serve.new.self.residents.items < saves_in a.residents.items) s.core fewer),
    )
