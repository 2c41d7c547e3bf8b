use Rattle.std.proofs.Common.{◌<◌, length, get_or, ap, ◌∙◌, subst, arith}
use Rattle.std.proofs.lemmas.List.{get_or_default, take_all}
use Rattle.fab_model.specs.Fabrics.{steppers}
use Rattle.fab_core.specs.declared.resident.Resident.{Resident}
use Rattle.fab_core.specs.Standing.{AreStanding}
use Rattle.fab_core.proofs.Residents.{Changes, apart-set, some-point, standing-long}
use Rattle.fab_core.proofs.Steps.{standing-next, stepped-all, stepped_first, steps-next}
use Rattle.fab_core.proofs.cycle.cycle_all.Goals as goal

pub step-stepped-requires : goal.step-stepped-requires
step-stepped-requires c =
    let xs = c.loop-place.residents in
    let i = c.loop-place.place in
    let x : Resident = get_or xs i c.index-residents-place.result in
    let lt : i < length xs = omega arith in
    let ps = c.requires.standing.0 in
    let s = some-point c.loop-place.joined xs (stepped_first c.args.holding i ps) i x lt (get_or_default xs i c.index-residents-place.result x lt) (c.loop-place.invariant.standing ps c.requires.standing.1) in
    (s.point, s.stands)

pub loop-place-preserved : goal.loop-place-preserved
loop-place-preserved c =
    let xs = c.loop-place.residents in
    let i = c.loop-place.place in
    let x : Resident = get_or xs i c.index-residents-place.result in
    let lt : i < length xs = omega arith in
    let j = c.loop-place.joined in
    let new = c.step-stepped.new.joined in
    let r = c.step-stepped.new.self in
    let e = c.step-stepped.ensures in
    let ch : Changes j new xs i x r = record { there = lt; read = get_or_default xs i c.index-residents-place.result x lt; part = e.part; others = e.others } in
    record {
      standing = λ ps h. standing-next c.args.holding j new xs i x r ch ps (c.loop-place.invariant.standing ps h) c.loop-place.invariant.apart e.stands;
      counted = λ ps h.
          steps-next c.args.holding j new xs i x r ch ps (c.loop-place.invariant.standing ps h) c.loop-place.count c.one_more-count.result c.step-stepped.result c.one_more-count.ensures.value e.answer
          (c.loop-place.invariant.counted ps h);
      small = let a = c.one_more-count.ensures.small in let b = c.loop-place.invariant.small in omega arith;
      apart = apart-set j new xs i x r ch c.loop-place.invariant.apart;
    }

pub returns-clause-count : goal.returns-clause-count
returns-clause-count c = λ ps h.
    let long = standing-long c.args.joined.now c.args.residents.now ps h in
    let past = c.loop-place-test.false in
    c.loop-place.invariant.counted ps h ∙ ap (steppers c.args.holding) (take_all c.loop-place.place ps (omega (arith, long, past)))

pub returns-clause-standing : goal.returns-clause-standing
returns-clause-standing c = λ ps h.
    let long = standing-long c.args.joined.now c.args.residents.now ps h in
    let past = c.loop-place-test.false in
    subst (AreStanding c.loop-place.joined c.loop-place.residents) (stepped-all c.args.holding c.loop-place.place ps (omega (arith, long, past))) (c.loop-place.invariant.standing ps h)
