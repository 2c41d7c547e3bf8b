use Rattle.std.proofs.Common.{length, ap, arith}
use Rattle.std.specs.declared.alloc.Global.{Global}
use Rattle.std.specs.declared.vec.Vec.{Vec}
use Rattle.fab_bay.specs.declared.berth.Berth.{Berth}
use Rattle.fab_bay.proofs.Gone.{room_kept, room_same}
use Rattle.fab_bay.proofs.Kept.{still_back, still_goes, still_noted, still_of, still_then}
use Rattle.fab_bay.proofs.noted.NotedCore.leave.Goals as goal

pub leave_with_room-requires : goal.leave_with_room-requires
leave_with_room-requires c =
    let x = c.args.self.now in
    let y = c.prepare.new.self in
    let s = c.prepare.ensures.same in
    let f = c.requires.fabric.0 in
    record {
      fabric = (f, still_noted x y f (still_of x y s) c.requires.fabric.1);
      rest = λ g h. c.requires.rest g (still_noted y x g (still_back x y s) h);
      due = λ g h. c.requires.due g (still_noted y x g (still_back x y s) h);
      room = room_kept 2 x y s c.in-Ok.ensures.room;
    }

pub returns-in-Err : goal.returns-in-Err
returns-in-Err c =
    let x = c.args.self.now in
    let y = c.prepare.new.self in
    let s = c.prepare.ensures.same in
    record {
      goes = tt;
      err = λ out. still_goes c.args.number x y out (still_of x y s);
      why = tt;
      left = tt;
      moves = tt;
      room = room_same x y s c.prepare.ensures.kept c.requires.room;
    }

pub returns-in-Ok : goal.returns-in-Ok
returns-in-Ok c =
    let x = c.args.self.now in
    let y = c.prepare.new.self in
    let z = c.leave_with_room.new.self in
    let s = c.prepare.ensures.same in
    let e = c.leave_with_room.ensures in
    record {
      goes = λ out. still_then c.args.number 0 x y z out _ (still_of x y s) (e.goes out);
      err = tt;
      why = λ f p h first. e.why f p (still_noted x y f (still_of x y s) h) first;
      left = e.left;
      moves =
          let a = ap (λ (v : Vec Berth Global). length v.items) s.berths in
          let b = ap (λ (v : Vec Berth Global). length v.items) s.waiting in
          let m = e.moves in
          omega (arith, a, b, m);
      room = e.room;
    }
