use Rattle.std.proofs.Common.{◌≡◌, refl}
use Rattle.fab_desk.specs.fab_bay.specs.declared.leaving.Found.TheVariants.{Here, Absent}
use Rattle.fab_rounds.proofs.Looks.{seeks_one, takes_one}
use Rattle.fab_rounds.proofs.ledgers.Ledger.take_at.Goals as goal

pub returns-in-Here : goal.returns-in-Here
returns-in-Here g c =
    let a = c.in_ok-found.found-is in let b = c.in-Here.is in let e : c.in_ok-found.field-0.found ≡ Here c.in-Here.transit = cc in
    takes_one c.args.desks.now c.args.self.now c.requires.ledger c.args.place c.requires.place c.index-desks-place.result c.index-desks-place.is c.index_mut.result.now c.take.new.seat c.index_mut.ensures.value c.take.ensures.seat
    c.args.tenant c.in_ok-found.field-0 c.in_ok-found.ensures.taken c.in-Here.transit e _ refl

pub returns-in-Absent : goal.returns-in-Absent
returns-in-Absent g c =
    let a = c.in_ok-found.found-is in let b = c.in-Absent.is in let e : c.in_ok-found.field-0.found ≡ Absent = cc in
    seeks_one c.args.desks.now c.args.self.now c.requires.ledger c.args.place c.requires.place c.index-desks-place.result c.index-desks-place.is c.index_mut.result.now c.take.new.seat c.index_mut.ensures.value c.take.ensures.seat
    c.args.tenant c.in_ok-found.field-0 c.in_ok-found.ensures.taken e _ refl
