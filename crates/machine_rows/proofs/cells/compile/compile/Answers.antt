use Rattle.std.proofs.Common.{◌<◌, length, arith}
use Rattle.vl_design.specs.Trees.{flat_of}
use Rattle.vl_design.specs.Width.{names_of}
use Rattle.cell_emit.specs.cell_form.specs.Views.{list_of}
use Rattle.cell_emit.specs.Envs.{env_of}
use Rattle.machine_rows.proofs.Walking.{block-body, walked-more}
use Rattle.machine_rows.proofs.cells.compile.compile.Goals as goal

pub add-requires-clause-body : goal.add-requires-clause-body
add-requires-clause-body c =
    let xs = c.as_slice-process-items.result.now in
    let i = c.loop-process.process-index in
    let lt : i < length xs = omega arith in
    block-body c.args.design.now xs i c.process-item.result c.as_slice-process-items.ensures lt c.process-item.is c.requires.sound c.requires.checked

pub loop-process-preserved : goal.loop-process-preserved
loop-process-preserved c =
    let b = c.args.bench.now in
    let before = c.loop-process.all in
    let behind = c.add.new.all in
    walked-more (names_of (flat_of c.args.design.now)) b.places.items b.time b.answer (env_of before.at) (env_of behind.at) (list_of before.cells) (list_of behind.cells) c.loop-process.invariant c.in_ok-add.ensures
