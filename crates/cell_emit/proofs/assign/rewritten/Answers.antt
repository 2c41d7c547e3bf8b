use Rattle.cell_form.specs.Views.{list_of}
use Rattle.cell_emit.proofs.Newest.{ok-gives}
use Rattle.cell_emit.specs.Paths.{low_of}
use Rattle.cell_emit.proofs.Placing.{gives-rewritten}
use Rattle.cell_emit.proofs.Staying.{always-stays}
use Rattle.cell_emit.proofs.assign.rewritten.Goals as goal

pub on_path-requires-clause-zero : goal.on_path-requires-clause-zero
on_path-requires-clause-zero c = always-stays (list_of c.args.cells.now) (list_of c.with_part.new.cells) c.args.here 0 c.in_ok-after.ensures.grows c.requires.here.there c.requires.zero

pub returns-clause-gives : goal.returns-clause-gives
returns-clause-gives c =
    ok-gives c.on_path.result _ _
    (λ r g. gives-rewritten (low_of c.args.low) c.args.part c.args.off c.args.before c.in_ok-after.after r (list_of c.args.cells.now) (list_of c.with_part.new.cells) (list_of c.on_path.new.cells)
    c.requires.off c.requires.before c.in_ok-after.ensures.gives g)
    c.on_path.ensures.gives
