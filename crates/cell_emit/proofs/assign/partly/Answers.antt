use Rattle.cell_form.specs.Views.{list_of}
use Rattle.cell_emit.proofs.Frames.{grows-then}
use Rattle.cell_emit.proofs.Newest.{ok-gives}
use Rattle.cell_emit.specs.Paths.{low_of}
use Rattle.cell_emit.proofs.Staying.{always-stays}
use Rattle.cell_emit.proofs.Assigning.{gives-partly}
use Rattle.cell_emit.proofs.assign.partly.Goals as goal

pub with_part-requires-clause-zero : goal.with_part-requires-clause-zero
with_part-requires-clause-zero c = always-stays (list_of c.args.cells.now) (list_of c.begun.new.cells) c.args.here 0 c.in_ok-before.ensures.grows c.requires.here.there c.requires.zero

pub on_path-requires-clause-zero : goal.on_path-requires-clause-zero
on_path-requires-clause-zero c =
    let g = grows-then (list_of c.args.cells.now) (list_of c.begun.new.cells) (list_of c.with_part.new.cells) c.in_ok-before.ensures.grows c.in_ok-after.ensures.grows in
    always-stays (list_of c.args.cells.now) (list_of c.with_part.new.cells) c.args.here 0 g c.requires.here.there c.requires.zero

pub returns-clause-gives : goal.returns-clause-gives
returns-clause-gives c =
    ok-gives c.on_path.result _ _
    (λ r g. gives-partly c.args.wide c.args.entry (low_of c.args.low) c.args.part c.args.off c.in_ok-before.before c.in_ok-after.after r
    (list_of c.args.cells.now) (list_of c.begun.new.cells) (list_of c.with_part.new.cells) (list_of c.on_path.new.cells)
    c.requires.part c.requires.low c.requires.off c.in_ok-before.ensures.gives c.in_ok-after.ensures.gives g)
    c.on_path.ensures.gives
