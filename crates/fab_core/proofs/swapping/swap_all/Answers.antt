use Rattle.std.proofs.Common.{◌<◌, length, get_or, arith}
use Rattle.std.proofs.lemmas.List.{get_or_default}
use Rattle.fab_core.specs.declared.resident.Resident.{Resident}
use Rattle.fab_core.proofs.Exchanged.{swapped_alone, swapped_more, swapped_standing}
use Rattle.fab_core.proofs.swapping.swap_all.Goals as goal

pub loop-place-preserved : goal.loop-place-preserved
loop-place-preserved c =
    let rs = c.loop-place.residents in
    let lt : c.loop-place.place < length rs = omega arith in
    let old : Resident = get_or rs c.loop-place.place c.index-residents-place.result in
    swapped_more c.args.joined.now c.loop-place.joined c.swap.new.joined c.args.residents.now rs c.loop-place.place old c.swap.new.self lt
    (get_or_default rs c.loop-place.place c.index-residents-place.result old lt) c.requires.parts c.requires.apart c.swap.ensures c.loop-place.invariant

pub returns-clause-alone : goal.returns-clause-alone
returns-clause-alone c =
    swapped_alone c.args.joined.now c.loop-place.joined c.args.residents.now c.loop-place.residents c.loop-place.place (omega arith) c.loop-place.invariant

pub returns-clause-standing : goal.returns-clause-standing
returns-clause-standing c =
    swapped_standing c.args.joined.now c.loop-place.joined c.args.residents.now c.loop-place.residents c.loop-place.place (omega arith) c.loop-place.invariant c.requires.parts
