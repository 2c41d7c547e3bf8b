use Rattle.fab_bay.proofs.Flags.{keeps-same}
use Rattle.fab_bay.proofs.Gone.{room_kept, room_same}
use Rattle.fab_bay.proofs.Kept.{still_back, still_goes, still_noted, still_of, still_then}
use Rattle.fab_bay.proofs.Near.{none-same, none-then}
use Rattle.fab_bay.proofs.noted.NotedCore.take_out.Goals as goal

pub take_with_room-requires : goal.take_with_room-requires
take_with_room-requires c =
    let x = c.args.self.now in
    let y = c.prepare.new.self in
    let s = c.prepare.ensures.same in
    let f = c.requires.fabric.0 in
    record {
      fabric = (f, still_noted x y f (still_of x y s) c.requires.fabric.1);
      rest = λ g h. c.requires.rest g (still_noted y x g (still_back x y s) h);
      there = λ g h. c.requires.there g (still_noted y x g (still_back x y s) h);
      room = room_kept 2 x y s c.in-Ok.ensures.room;
    }

pub returns-in-Err : goal.returns-in-Err
returns-in-Err c =
    let x = c.args.self.now in
    let y = c.prepare.new.self in
    let s = c.prepare.ensures.same in
    record {
      goes = tt;
      number = tt;
      flag = tt;
      withdrawn = tt;
      err = λ out. still_goes c.args.number x y out (still_of x y s);
      within = tt;
      near = none-same x y s.core;
      room = room_same x y s c.prepare.ensures.kept c.requires.room;
    }

pub returns-in-Ok : goal.returns-in-Ok
returns-in-Ok c =
    let x = c.args.self.now in
    let y = c.prepare.new.self in
    let z = c.take_with_room.new.self in
    let s = c.prepare.ensures.same in
    let e = c.take_with_room.ensures in
    record {
      goes = λ out. still_then c.args.number 0 x y z out _ (still_of x y s) (e.goes out);
      number = e.number;
      flag = keeps-same x y c.take_with_room.result s.notes e.flag;
      withdrawn = e.withdrawn;
      err = tt;
      within = λ most w. e.within most (none-same x y s.core most w);
      near = none-then x y z (none-same x y s.core) e.near;
      room = e.room;
    }
