use Rattle.std.proofs.Common.{◌+◌, length, ap, arith}
use Rattle.std.proofs.lemmas.Result.{on_ok_weaker}
use Rattle.fab_bay.proofs.Gone.{room_same}
use Rattle.fab_bay.proofs.Kept.{still_back, still_goes, still_noted, still_of, still_then}
use Rattle.fab_bay.proofs.Near.{none-same, none-then}
use Rattle.fab_bay.proofs.Ran.{room_less}
use Rattle.fab_bay.proofs.noted.NotedCore.rebuild.Goals as goal

pub rebuild_with_room-requires : goal.rebuild_with_room-requires
rebuild_with_room-requires c =
    let x = c.args.self.now in
    let y = c.prepare.new.self in
    let s = c.prepare.ensures.same in
    let f = c.requires.fabric.0 in
    let a = ap (λ v. length v.items) s.berths in
    let b = ap (λ v. length v.items) s.waiting in
    let k = c.len-most.ensures in
    let o = x.waiting.ok.0 in
    record {
      fabric = (f, still_noted x y f (still_of x y s) c.requires.fabric.1);
      rest = λ g h. c.requires.rest g (still_noted y x g (still_back x y s) h);
      room = room_less (length y.berths.items + length y.waiting.items + length y.waiting.items) _ y (omega (arith, a, b, k, o)) c.in-Ok.ensures.room;
    }

pub returns-in-Err : goal.returns-in-Err
returns-in-Err c =
    let x = c.args.self.now in
    let y = c.prepare.new.self in
    let s = c.prepare.ensures.same in
    record {
      goes = λ out. still_goes c.args.number x y out (still_of x y s);
      near = none-same x y s.core;
      rebuilt = tt;
      room = room_same x y s c.prepare.ensures.kept c.requires.room;
    }

pub returns-in-Ok : goal.returns-in-Ok
returns-in-Ok c =
    let x = c.args.self.now in
    let y = c.prepare.new.self in
    let z = c.rebuild_with_room.new.self in
    let s = c.prepare.ensures.same in
    record {
      goes = λ out. still_then c.args.number 0 x y z out out (still_of x y s) (c.rebuild_with_room.ensures.goes out);
      near = none-then x y z (none-same x y s.core) c.rebuild_with_room.ensures.near;
      rebuilt = on_ok_weaker c.rebuild_with_room.result (λ g f n. g f (still_noted x y f (still_of x y s) n)) c.rebuild_with_room.ensures.rebuilt;
      room = c.rebuild_with_room.ensures.room;
    }
