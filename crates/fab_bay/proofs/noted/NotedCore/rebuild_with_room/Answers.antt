use Rattle.std.proofs.Common.{length, ap, sym, refl, arith}
use Rattle.std.proofs.lemmas.Result.{on_ok_weaker}
use Rattle.fab_bay.specs.declared.noted.NotedCore.{NotedCore}
use Rattle.fab_bay.proofs.Kept.{still_goes, still_noted, still_then, IsStill}
use Rattle.fab_bay.proofs.Near.{none-same, none-then}
use Rattle.fab_bay.proofs.noted.NotedCore.rebuild_with_room.Goals as goal

pub join-requires : goal.join-requires
join-requires c =
    let x = c.args.self.now in
    let y : NotedCore = record x { berths = c.reserve.new.self } in
    let s : IsStill x y = record { label = refl; core = λ f h. h; berths = c.reserve.ensures.items; waiting = refl; notes = refl; told = refl } in
    let u : IsStill y x = record { label = refl; core = λ f h. h; berths = sym c.reserve.ensures.items; waiting = refl; notes = refl; told = refl } in
    let f = c.requires.fabric.0 in
    let r = c.requires.room in
    let a = r.notes in
    let b = r.told in
    let e = ap length c.reserve.ensures.items in
    let k = c.len-most.ensures in
    let o = x.waiting.ok.0 in
    let free = c.in-Ok.ensures.ok in
    record {
      fabric = (f, still_noted x y f s c.requires.fabric.1);
      rest = λ g h. c.requires.rest g (still_noted y x g u h);
      room = record { notes = omega (arith, a, e); told = omega (arith, b, e) };
      free = omega (arith, free, k, o);
    }

pub returns-in-Err : goal.returns-in-Err
returns-in-Err c =
    let x = c.args.self.now in
    let y : NotedCore = record x { berths = c.reserve.new.self } in
    let s : IsStill x y = record { label = refl; core = λ f h. h; berths = c.reserve.ensures.items; waiting = refl; notes = refl; told = refl } in
    let r = c.requires.room in
    let a = r.notes in
    let b = r.told in
    let e = ap length c.reserve.ensures.items in
    record {
      goes = λ out. still_goes c.args.number x y out s;
      near = none-same x y refl;
      rebuilt = tt;
      room = record { notes = omega (arith, a, e); told = omega (arith, b, e) };
    }

pub returns-in-Ok : goal.returns-in-Ok
returns-in-Ok c =
    let x = c.args.self.now in
    let y : NotedCore = record x { berths = c.reserve.new.self } in
    let s : IsStill x y = record { label = refl; core = λ f h. h; berths = c.reserve.ensures.items; waiting = refl; notes = refl; told = refl } in
    record {
      goes = λ out. still_then c.args.number 0 x y c.join.new.self out out s (c.join.ensures.goes out);
      near = none-then x y c.join.new.self (none-same x y refl) c.join.ensures.near;
      rebuilt = on_ok_weaker c.join.result (λ g f n. g f (still_noted x y f s n)) c.join.ensures.rebuilt;
      room = c.join.ensures.room;
    }
