use Rattle.std.proofs.Common.{◌++◌, ◌∷◌, [], ◌+◌, suc, length, ap, sym, ◌∙◌, subst, arith, get_or}
use Rattle.fab_core.specs.fab_model.specs.Fabrics.{has, taken}
use Rattle.fab_core.specs.ten_parcel.specs.declared.parcel.Parcel.{Parcel}
use Rattle.fab_core.specs.ten_parcel.specs.Parcels.{ticks_of}
use Rattle.fab_core.specs.declared.cores.FabCore.{FabCore}
use Rattle.fab_core.specs.Standing.{IsFabric, IsPointOf}
use Rattle.fab_bay.proofs.Events.{berthed}
use Rattle.fab_bay.proofs.Gone.{goes_gone_take, gone_take, has_resident, out_keeps, out_closed, out_number, out_withdrawn, out_written, place_there, ran_berth, ran_noted, ran_still, ready_of, room_left, for_none, taker_of, yes-no, IsOut, IsRan, IsReady}
use Rattle.fab_bay.proofs.Near.{came-within, none-taken}
use Rattle.fab_bay.proofs.Places.{berths_many}
use Rattle.fab_bay.proofs.Ran.{room_less}
use Rattle.fab_bay.proofs.noted.NotedCore.take_resident.Goals as goal

pub ran_one-requires : goal.ran_one-requires
ran_one-requires c =
    let x = c.args.self.now in
    let f = c.requires.fabric.0 in
    let h = c.requires.fabric.1 in
    record {
      fabric = (f, h);
      place = place_there c.args.tenant c.args.place x f c.requires.place h;
      room = room_less 1 (length x.berths.items + 2) x (omega arith) c.requires.room;
    }

pub take-requires : goal.take-requires
take-requires c =
    let f = c.requires.fabric.0 in
    let h = c.requires.fabric.1 in
    (f, (c.ran_one.ensures.kept f h).core, c.requires.rest f h)

pub unreachable-requires : goal.unreachable-requires
unreachable-requires c =
    let x = c.args.self.now in
    let f = c.requires.fabric.0 in
    let h = c.requires.fabric.1 in
    yes-no (has c.args.tenant f) (has_resident c.args.tenant c.args.place x f c.requires.place h) (c.in_default.ensures.none f (c.ran_one.ensures.kept f h).core)

pub remove-berth-requires : goal.remove-berth-requires
remove-berth-requires c =
    let x = c.args.self.now in
    let y = c.ran_one.new.self in
    let f = c.requires.fabric.0 in
    let h = c.requires.fabric.1 in
    let v = c.ran_one.ensures.kept f h in
    let l = place_there c.args.tenant c.args.place x f c.requires.place h in
    let m = berths_many x.label.tenants x.berths.items f.residents h.residents in
    let n = berths_many y.label.tenants y.berths.items f.residents v.residents in
    let k = y.berths.ok.0 in
    omega (arith, l, m, n, k)

pub into_leaver-transit-requires : goal.into_leaver-transit-requires
into_leaver-transit-requires c =
    let x = c.args.self.now in
    let y = c.ran_one.new.self in
    let f = c.requires.fabric.0 in
    let h = c.requires.fabric.1 in
    let t = c.args.tenant in
    let b = c.remove-berth.result in
    let q = c.in-Some.parcel in
    let i = c.args.place in
    let r : IsRan t i x y b = record { kept = c.ran_one.ensures.kept; noted = c.ran_one.ensures.noted; found = c.requires.place; read = c.remove-berth.ensures.value } in
    let o = c.in-Some.ensures.some f (c.ran_one.ensures.kept f h).core in
    let z : IsReady b q = ready_of y.label.tenants b (get_or f.residents i o.0) for_none q (ran_berth t i x y b r f h o.0) (ran_noted t i x y b r f h o.0) (taker_of t i x f c.requires.place h q o.0 o.1 o.2) in
    record { order = z.order; chained = z.chained; end = z.end; room = z.room }

pub write-requires : goal.write-requires
write-requires c =
    let x = c.args.self.now in
    let r = c.ran_one.ensures.room (length x.berths.items + 1) (room_less (suc (length x.berths.items + 1)) (length x.berths.items + 2) x (omega arith) c.requires.room) in
    let a = r.notes in
    let b = r.told in
    record { room = record { notes = omega (arith, a); told = omega (arith, b) } }

pub returns : goal.returns
returns c =
    let x = c.args.self.now in
    let y = c.ran_one.new.self in
    let z = c.write.new.self in
    let t = c.args.tenant in
    let i = c.args.place in
    let b = c.remove-berth.result in
    let q = c.in-Some.parcel in
    let s = c.into_leaver-transit.result in
    let n = c.left-note.result in
    let k = c.args.number in
    let r : IsRan t i x y b = record { kept = c.ran_one.ensures.kept; noted = c.ran_one.ensures.noted; found = c.requires.place; read = c.remove-berth.ensures.value } in
    let o : IsOut k t i x y z b s n = record {
      ran = r;
      goes = c.ran_one.ensures.goes [];
      runs = let d = c.ran_one.ensures.goes [] in c.ran_one.ensures.runs d.added d.notes;
      run = let d = c.ran_one.ensures.goes [] in c.ran_one.ensures.one t d.added (berthed t x i c.requires.place).tenant d.notes;
      label = c.write.ensures.label;
      notes = c.write.ensures.notes;
      told = c.write.ensures.told;
      berths = ap (λ v. v.items) c.write.ensures.berths ∙ c.remove-berth.ensures.items;
      waiting = ap (λ v. v.items) c.write.ensures.waiting;
      note = record { entry = c.left-note.ensures.entry; deed = c.left-note.ensures.deed };
      stays = c.into_leaver-transit.ensures.stays ∙ ap (λ (a : Parcel). b.stays.items ++ record { fabric = y.label.fabric; from = b.since; to = ticks_of a; by_move = b.by_move } ∷ []) (sym c.into_leaver-transit.ensures.parcel);
      resident = c.into_leaver-transit.ensures.resident;
    } in
    let f = c.requires.fabric.0 in
    let h = c.requires.fabric.1 in
    let out = c.in-Some.ensures.some f (c.ran_one.ensures.kept f h).core in
    let at : IsPointOf s.parcel out.0 = subst (λ (a : Parcel). IsPointOf a out.0) (sym c.into_leaver-transit.ensures.parcel) out.2 in
    let l = taker_of t i x f c.requires.place h s.parcel out.0 out.1 at in
    let m = berths_many x.label.tenants x.berths.items f.residents h.residents in
    let m2 = berths_many y.label.tenants y.berths.items f.residents (r.kept f h).residents in
    record {
      goes = λ outs. goes_gone_take k t x z s outs (out_written k t i x y z b s n o f for_none out.0 h l) (out_closed k t i x y z b s n o f for_none out.0 h l) (λ g j.
          let u = c.in-Some.ensures.some g (c.ran_one.ensures.kept g j).core in
          gone_take k t i x y z b s n o g j (c.requires.rest g j) u.0 u.1 (subst (λ (a : Parcel). IsPointOf a u.0) (sym c.into_leaver-transit.ensures.parcel) u.2)
          (subst (λ (a : FabCore). IsFabric a (taken t g)) (sym c.write.ensures.core) (c.take.ensures.fabric g (c.ran_one.ensures.kept g j).core)));
      number = out_number k t i x y z b s n o f for_none out.0 h l;
      flag = out_keeps k t i x y z b s n o f out.0 h l;
      withdrawn = out_withdrawn k t i x y z b s n o f out.0 h l;
      within = came-within t x f s.parcel out.0 h.core out.1 at;
      near = none-taken t x z f h.core (subst (λ (a : FabCore). IsFabric a (taken t f)) (sym c.write.ensures.core) (c.take.ensures.fabric f (c.ran_one.ensures.kept f h).core));
      room = room_left x y z i (ran_still t i x y b r f h) (m2 ∙ sym m) o.berths
          (c.ran_one.ensures.room (length x.berths.items + 1) (room_less (suc (length x.berths.items + 1)) (length x.berths.items + 2) x (omega arith) c.requires.room))
          (λ a j. c.write.ensures.room a (record { notes = j.notes; told = j.told }));
    }
