use Rattle.std.proofs.Common.{Some, refl, ◌≡◌, false, ◌++◌, ◌∷◌, [], ◌+◌, suc, length, List, ap, sym, ◌∙◌, subst, arith, get_or}
use Rattle.std.specs.Prelude.{◌==◌, position}
use Rattle.std.specs.declared.alloc.Global.{Global}
use Rattle.std.specs.declared.vec.Vec.{Vec}
use Rattle.fab_core.specs.fab_model.specs.Points.{departed, due, Point}
use Rattle.fab_core.specs.fab_model.specs.Fabrics.{left}
use Rattle.fab_core.specs.ten_parcel.specs.declared.parcel.Parcel.{Parcel}
use Rattle.fab_core.specs.ten_parcel.specs.Parcels.{ticks_of}
use Rattle.fab_core.specs.declared.cores.FabCore.{FabCore}
use Rattle.fab_core.specs.Standing.{IsFabric, IsPointOf}
use Rattle.fab_bay.specs.declared.berth.Berth.{Berth}
use Rattle.fab_bay.proofs.Events.{berthed}
use Rattle.fab_bay.proofs.Gone.{goes_gone_leave, gone_leave, out_closed, out_written, place_first, place_some, place_there, ran_berth, ran_noted, ran_still, ready_of, rests_if, room_left, IsOut, IsRan, IsReady}
use Rattle.fab_bay.specs.Ways.{IsLast}
use Rattle.fab_bay.proofs.Leavers.{leaver_last, IsLeaver}
use Rattle.fab_bay.proofs.Places.{berths_many, removed_many, some-equal}
use Rattle.fab_bay.proofs.Ran.{room_less}
use Rattle.fab_bay.proofs.noted.NotedCore.leave_with_room.Goals as goal

pub unreachable-requires : goal.unreachable-requires
unreachable-requires c =
    let x = c.args.self.now in
    let f = c.requires.fabric.0 in
    let h = c.requires.fabric.1 in
    let d = c.requires.due f h in
    place_some c.args.tenant x f d.0 (ap (λ (bs : List Berth). position (λ b. b.tenant == c.args.tenant) bs) (sym c.deref.ensures.value) ∙ (sym c.berth_of.ensures ∙ c.in_default.is)) h d.2

pub ran_one-requires : goal.ran_one-requires
ran_one-requires c =
    let x = c.args.self.now in
    let f = c.requires.fabric.0 in
    let h = c.requires.fabric.1 in
    let e = ap (λ (bs : List Berth). position (λ b. b.tenant == c.args.tenant) bs) (sym c.deref.ensures.value) ∙ (sym c.berth_of.ensures ∙ c.in-Some.is) in
    record {
      fabric = (f, h);
      place = place_there c.args.tenant c.in-Some.place x f e h;
      room = room_less 1 (length x.berths.items + 2) x (omega arith) c.requires.room;
    }

pub leave-leaver-requires : goal.leave-leaver-requires
leave-leaver-requires c =
    let f = c.requires.fabric.0 in
    let h = c.requires.fabric.1 in
    let d = c.requires.due f h in
    (f, d.0, d.1, (c.ran_one.ensures.kept f h).core, c.requires.rest f h, d.2, d.3)

pub remove-berth-requires : goal.remove-berth-requires
remove-berth-requires c =
    let x = c.args.self.now in
    let y = c.ran_one.new.self in
    let f = c.requires.fabric.0 in
    let h = c.requires.fabric.1 in
    let v = c.ran_one.ensures.kept f h in
    let e = ap (λ (bs : List Berth). position (λ b. b.tenant == c.args.tenant) bs) (sym c.deref.ensures.value) ∙ (sym c.berth_of.ensures ∙ c.in-Some.is) in
    let l = place_there c.args.tenant c.in-Some.place x f e h in
    let m = berths_many x.label.tenants x.berths.items f.residents h.residents in
    let n = berths_many y.label.tenants y.berths.items f.residents v.residents in
    let k = y.berths.ok.0 in
    omega (arith, l, m, n, k)

pub into_leaver-transit-requires : goal.into_leaver-transit-requires
into_leaver-transit-requires c =
    let x = c.args.self.now in
    let y = c.ran_one.new.self in
    let f = c.requires.fabric.0 in
    let h = c.requires.fabric.1 in
    let d = c.requires.due f h in
    let p = d.0 in
    let w = c.leave-leaver.result.why in
    let t = c.args.tenant in
    let b = c.remove-berth.result in
    let q = c.leave-leaver.result.parcel in
    let i = c.in-Some.place in
    let e = ap (λ (bs : List Berth). position (λ b. b.tenant == c.args.tenant) bs) (sym c.deref.ensures.value) ∙ (sym c.berth_of.ensures ∙ c.in-Some.is) in
    let r : IsRan t i x y b = record { kept = c.ran_one.ensures.kept; noted = c.ran_one.ensures.noted; found = e; read = c.remove-berth.ensures.value } in
    let o = c.leave-leaver.ensures.out f p (c.ran_one.ensures.kept f h).core d.2 in
    let same : p ≡ get_or f.residents i p = some-equal p (get_or f.residents i p) (sym d.2 ∙ (place_first t i x f e h).first p) in
    let l : IsLeaver w p q = record { at = o.1; rests = rests_if p w o.0; move = λ to z. o.0 } in
    let z : IsReady b q = ready_of y.label.tenants b (get_or f.residents i p) w q (ran_berth t i x y b r f h p) (ran_noted t i x y b r f h p) (subst (λ (s : Point). IsLeaver w s q) same l) in
    record { order = z.order; chained = z.chained; end = z.end; room = z.room }

pub write-requires : goal.write-requires
write-requires c =
    let x = c.args.self.now in
    let r = c.ran_one.ensures.room (length x.berths.items + 1) (room_less (suc (length x.berths.items + 1)) (length x.berths.items + 2) x (omega arith) c.requires.room) in
    let a = r.notes in
    let b = r.told in
    record { room = record { notes = omega (arith, a); told = omega (arith, b) } }

pub returns : goal.returns
returns c =
    let x = c.args.self.now in
    let y = c.ran_one.new.self in
    let z = c.write.new.self in
    let t = c.args.tenant in
    let i = c.in-Some.place in
    let b = c.remove-berth.result in
    let w = c.leave-leaver.result.why in
    let q = c.leave-leaver.result.parcel in
    let s = c.into_leaver-transit.result in
    let n = c.left-note.result in
    let k = c.args.number in
    let e = ap (λ (bs : List Berth). position (λ b. b.tenant == c.args.tenant) bs) (sym c.deref.ensures.value) ∙ (sym c.berth_of.ensures ∙ c.in-Some.is) in
    let r : IsRan t i x y b = record { kept = c.ran_one.ensures.kept; noted = c.ran_one.ensures.noted; found = e; read = c.remove-berth.ensures.value } in
    let o : IsOut k t i x y z b s n = record {
      ran = r;
      goes = c.ran_one.ensures.goes [];
      runs = let d = c.ran_one.ensures.goes [] in c.ran_one.ensures.runs d.added d.notes;
      run = let d = c.ran_one.ensures.goes [] in c.ran_one.ensures.one t d.added (berthed t x i e).tenant d.notes;
      label = c.write.ensures.label;
      notes = c.write.ensures.notes;
      told = c.write.ensures.told;
      berths = ap (λ v. v.items) c.write.ensures.berths ∙ c.remove-berth.ensures.items;
      waiting = ap (λ v. v.items) c.write.ensures.waiting;
      note = record { entry = c.left-note.ensures.entry; deed = c.left-note.ensures.deed };
      stays = c.into_leaver-transit.ensures.stays ∙ ap (λ (a : Parcel). b.stays.items ++ record { fabric = y.label.fabric; from = b.since; to = ticks_of a; by_move = b.by_move } ∷ []) (sym c.into_leaver-transit.ensures.parcel);
      resident = c.into_leaver-transit.ensures.resident;
    } in
    let f = c.requires.fabric.0 in
    let h = c.requires.fabric.1 in
    let d = c.requires.due f h in
    let p = d.0 in
    let out = c.leave-leaver.ensures.out f p (c.ran_one.ensures.kept f h).core d.2 in
    let at : IsPointOf s.parcel (departed w p) = subst (λ (a : Parcel). IsPointOf a (departed w p)) (sym c.into_leaver-transit.ensures.parcel) out.1 in
    let same : p ≡ get_or f.residents i p = some-equal p (get_or f.residents i p) (sym d.2 ∙ (place_first t i x f e h).first p) in
    let l : IsLeaver w p s.parcel = record { at = at; rests = rests_if p w out.0; move = λ to z. out.0 } in
    let q2 = get_or f.residents i p in
    let l2 : IsLeaver w q2 s.parcel = subst (λ (a : Point). IsLeaver w a s.parcel) same l in
    let last : IsLast (record { transit = s; why = w }) =
    leaver_last y.label.tenants b q2 w s.parcel (ran_berth t i x y b r f h p) (ran_noted t i x y b r f h p) l2 y.label.fabric (record { transit = s; why = w }) (subst (λ (a : Point). due a ≡ Some w) same out.0) refl refl o.stays o.resident in
    let written = out_written k t i x y z b s n o f w p h (subst (λ (a : Point). IsLeaver w a s.parcel) same l) in
    let m = berths_many x.label.tenants x.berths.items f.residents h.residents in
    let m2 = berths_many y.label.tenants y.berths.items f.residents (r.kept f h).residents in
    record {
      goes = λ outs. goes_gone_leave k t x z s outs written (out_closed k t i x y z b s n o f w p h l2) (λ g j.
          let v = c.requires.due g j in
          let u = c.leave-leaver.ensures.out g v.0 (c.ran_one.ensures.kept g j).core v.2 in
          gone_leave k t i x y z b s n o g j (c.requires.rest g j) w v.0 v.2 u.0 (subst (λ (a : Parcel). IsPointOf a (departed w v.0)) (sym c.into_leaver-transit.ensures.parcel) u.1)
          (subst (λ (a : FabCore). IsFabric a (left t g)) (sym c.write.ensures.core) (c.leave-leaver.ensures.fabric g (c.ran_one.ensures.kept g j).core)));
      moves =
          let a = ap length o.berths in
          let q = removed_many y.berths.items i (ran_still t i x y b r f h) in
          let u = ap (λ (v : Vec Berth Global). length v.items) c.ran_one.ensures.waiting in
          let v = ap length o.waiting in
          omega (arith, a, q, m, m2, u, v);
      left = (p, at, out.0, subst (λ (a : Point). a.stopped ≡ false) (sym same) (ran_berth t i x y b r f h p).lives, last);
      why = λ g a j first. (c.leave-leaver.ensures.out g a (c.ran_one.ensures.kept g j).core first).0;
      room = room_left x y z i (ran_still t i x y b r f h) (m2 ∙ sym m) o.berths
          (c.ran_one.ensures.room (length x.berths.items + 1) (room_less (suc (length x.berths.items + 1)) (length x.berths.items + 2) x (omega arith) c.requires.room))
          (λ a j. c.write.ensures.room a (record { notes = j.notes; told = j.told }));
    }
