use Rattle.std.proofs.Common.{rules, ◌≡◌, false, refl, arith}
use Rattle.std.specs.List.{insert}
use Rattle.fab_rounds.specs.declared.workers.Worker.{Worker}
use Rattle.fab_rounds.proofs.Opens.{first_low, opens, other_low}
use Rattle.fab_rounds.proofs.posts.Opened.open.Goals as goal

pub returns : goal.returns
returns c =
    let o = c.args.self.now in let label = c.args.label in
    let desk = c.in_ok-desk.desk in let first = c.seat-seat.new.seat in let seat = c.seat-seat.result in
    let w : Worker = record { fabric = label.fabric; seat = seat; out = c.new-2.result; turns = 0; failed = false } in
    let a : c.insert.new.self.items ≡ insert o.desks.items 0 desk = search rules in
    let b : c.insert-2.new.self.items ≡ insert o.firsts.items 0 first = search rules in
    let d : c.insert-3.new.self.items ≡ insert o.workers.items 0 w = search rules in
    let v = c.in_ok-desk.ensures.view in
    let low = first_low label label.tenants c.in_ok-desk.first.view first.view v c.seat-seat.ensures.lower in
    let high = other_low label label.tenants c.in_ok-desk.first.view seat.view v c.seat-seat.ensures.upper in
    opens label o c.insert.new.self c.insert-2.new.self c.insert-3.new.self desk first w c.requires.seated a b d c.in_ok-desk.ensures.label (c.seat-seat.ensures.seat, low.0) low.1 c.seat-seat.ensures.new_seat
    (λ e. let x = high.0 in omega (arith, x, e)) high.1 c.new-2.ensures.items refl
