use Rattle.std.proofs.Common.{◌+◌, ◌*◌, map, ap, ◌∙◌, arith}
use Rattle.std.proofs.lemmas.List.{length-map}
use Rattle.std.specs.Prelude.{◌&&◌, unwrap_or, Some}
use Rattle.ten_form.specs.vl_design.specs.Trees.{row_of}
use Rattle.cell_emit.proofs.Reading.{row-at}
use Rattle.cell_waves.specs.Copies.{is_written, each_one, with_write}
use Rattle.cell_waves.proofs.Setting.{sets-none, sets-more, sets-all}
use Rattle.cell_waves.proofs.writes.write_all.Goals as goal

pub loop-number-init : goal.loop-number-init
loop-number-init c = sets-none (map row_of c.args.signals.now) c.args.copy c.args.after.now c.args.here each_one c.args.sets.now.items

pub loop-number-preserved : goal.loop-number-preserved
loop-number-preserved c =
    let signals = c.args.signals.now in
    let rows = map row_of signals in
    let copy = c.args.copy in
    let after = c.args.after.now in
    let here = c.args.here in
    let n = c.loop-number.number in
    let x = c.index-signals-number.result in
    let mid = c.loop-number.sets.items in
    let slot = c.unwrap_or-slot.ensures ∙ ap (λ e. unwrap_or e here) c.entry.ensures in
    sets-more rows copy after here each_one c.args.sets.now.items n mid c.loop-number.invariant (row_of x) c.write_one.new.sets.items c.requires.copy (row-at signals n x c.loop-number-test.true c.index-signals-number.is)
    (c.in_ok-write_one.ensures ∙ ap (λ s. with_write (is_written copy (Some (row_of x)) && each_one n) (4 * n + copy) s mid) slot)

pub returns : goal.returns
returns c =
    let signals = c.args.signals.now in
    let long = length-map signals row_of in
    let over = c.loop-number-test.false in
    sets-all (map row_of signals) c.args.copy c.args.after.now c.args.here each_one c.args.sets.now.items c.loop-number.number c.loop-number.sets.items (omega (arith, long, over)) c.loop-number.invariant
