use Rattle.std.proofs.Common.{ap, sym, ◌∙◌, subst, arith, get_or}
use Rattle.fab_core.specs.fab_model.specs.Points.{Point}
use Rattle.fab_core.specs.fab_model.specs.Fabrics.{has, taken}
use Rattle.fab_core.specs.ten_parcel.specs.declared.parcel.Parcel.{Parcel}
use Rattle.fab_core.specs.declared.cores.FabCore.{FabCore}
use Rattle.fab_core.specs.Standing.{IsFabric, IsPointOf}
use Rattle.fab_bay.proofs.Gone.{for_none, goes_gone_take, gone_line, has_waiter, line_taker, line_waiter, ready_of, room_stays, waiter_there, withdrawn_closed, withdrawn_keeps, withdrawn_number, withdrawn_out, withdrawn_written, yes-no, IsReady, IsWithdrawn}
use Rattle.fab_bay.proofs.Leavers.{leaver_ticks}
use Rattle.fab_bay.proofs.Near.{came-within, none-taken}
use Rattle.fab_bay.proofs.noted.NotedCore.take_waiter.Goals as goal

pub take-requires : goal.take-requires
take-requires c =
    let f = c.requires.fabric.0 in
    let h = c.requires.fabric.1 in
    (f, h.core, c.requires.rest f h)

pub unreachable-requires : goal.unreachable-requires
unreachable-requires c =
    let x = c.args.self.now in
    let f = c.requires.fabric.0 in
    let h = c.requires.fabric.1 in
    yes-no (has c.args.tenant f) (has_waiter c.args.tenant c.args.place x f c.requires.place h) (c.in_default.ensures.none f h.core)

pub remove-berth-requires : goal.remove-berth-requires
remove-berth-requires c =
    let x = c.args.self.now in
    let f = c.requires.fabric.0 in
    let h = c.requires.fabric.1 in
    let l = waiter_there c.args.tenant c.args.place x f c.requires.place h in
    let k = x.waiting.ok.0 in
    omega (arith, l, k)

pub into_withdrawn-transit-requires : goal.into_withdrawn-transit-requires
into_withdrawn-transit-requires c =
    let x = c.args.self.now in
    let f = c.requires.fabric.0 in
    let h = c.requires.fabric.1 in
    let t = c.args.tenant in
    let b = c.remove-berth.result in
    let q = c.in-Some.parcel in
    let i = c.args.place in
    let o = c.in-Some.ensures.some f h.core in
    let w = line_waiter t i x b c.requires.none c.requires.place c.remove-berth.ensures.value f h o.0 in
    let l = line_taker t i x b c.requires.none c.requires.place c.remove-berth.ensures.value f h q o.0 o.1 o.2 in
    let p : Point = get_or f.line i o.0 in
    let z : IsReady b q = ready_of x.label.tenants b p for_none q w.berth w.noted l in
    record { since = w.since ∙ (sym w.noted ∙ sym (leaver_ticks x.label.tenants b p for_none q w.berth w.noted l)); chained = z.chained; end = z.end }

pub write-requires : goal.write-requires
write-requires c =
    let x = c.args.self.now in
    let r = c.requires.room in
    let a = r.notes in
    let b = r.told in
    record { room = record { notes = omega (arith, a); told = omega (arith, b) } }

pub returns : goal.returns
returns c =
    let x = c.args.self.now in
    let z = c.write.new.self in
    let t = c.args.tenant in
    let i = c.args.place in
    let b = c.remove-berth.result in
    let s = c.into_withdrawn-transit.result in
    let n = c.left-note.result in
    let k = c.args.number in
    let o : IsWithdrawn k t i x z b s n = record {
      none = c.requires.none;
      there = c.requires.place;
      read = c.remove-berth.ensures.value;
      label = c.write.ensures.label;
      notes = c.write.ensures.notes;
      told = c.write.ensures.told;
      berths = ap (λ v. v.items) c.write.ensures.berths;
      waiting = ap (λ v. v.items) c.write.ensures.waiting ∙ c.remove-berth.ensures.items;
      note = record { entry = c.left-note.ensures.entry; deed = c.left-note.ensures.deed };
      stays = c.into_withdrawn-transit.ensures.stays;
      resident = c.into_withdrawn-transit.ensures.resident;
    } in
    let f = c.requires.fabric.0 in
    let h = c.requires.fabric.1 in
    let out = c.in-Some.ensures.some f h.core in
    let at : IsPointOf s.parcel out.0 = subst (λ (a : Parcel). IsPointOf a out.0) (sym c.into_withdrawn-transit.ensures.parcel) out.2 in
    record {
      goes = λ outs. goes_gone_take k t x z s outs (withdrawn_written k t i x z b s n o f h out.0 out.1 at) (withdrawn_closed k t i x z b s n o f h out.0 out.1 at) (λ g j.
          let u = c.in-Some.ensures.some g j.core in
          gone_line k t i x z b s n o g j u.0 u.1 (subst (λ (a : Parcel). IsPointOf a u.0) (sym c.into_withdrawn-transit.ensures.parcel) u.2) (c.requires.rest g j)
          (subst (λ (a : FabCore). IsFabric a (taken t g)) (sym c.write.ensures.core) (c.take.ensures.fabric g j.core)));
      number = withdrawn_number k t i x z b s n o f h out.0 out.1 at;
      flag = withdrawn_keeps k t i x z b s n o f h out.0 out.1 at;
      withdrawn = withdrawn_out k t i x z b s n o f h out.0 out.1 at;
      within = came-within t x f s.parcel out.0 h.core out.1 at;
      near = none-taken t x z f h.core (subst (λ (a : FabCore). IsFabric a (taken t f)) (sym c.write.ensures.core) (c.take.ensures.fabric f h.core));
      room = room_stays x z o.berths c.requires.room (λ a j. c.write.ensures.room a (record { notes = j.notes; told = j.told }));
    }
