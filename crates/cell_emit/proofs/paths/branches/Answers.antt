use Rattle.cell_form.specs.Views.{list_of}
use Rattle.cell_emit.specs.Slots.{Nothing}
use Rattle.cell_emit.proofs.Frames.{gives-then}
use Rattle.cell_emit.proofs.Staying.{always-stays}
use Rattle.cell_emit.proofs.Testing.{gives-second}
use Rattle.cell_emit.proofs.paths.branches.Goals as goal

pub where_clear-requires-clause-never : goal.where_clear-requires-clause-never
where_clear-requires-clause-never c =
    always-stays (list_of c.args.cells.now) (list_of c.where_set.new.cells) c.args.at.now.away 1 c.in_ok-first.ensures.grows c.requires.away.there c.requires.never

pub returns-clause-first : goal.returns-clause-first
returns-clause-first c =
    gives-then Nothing 1 1 (list_of c.args.cells.now) (list_of c.where_set.new.cells) (list_of c.where_clear.new.cells) c.in_ok-first.first 1 _ c.in_ok-first.ensures.gives c.in_ok-second.ensures.gives.longer

pub returns-clause-second : goal.returns-clause-second
returns-clause-second c =
    gives-second c.args.test c.args.off c.in_ok-first.first c.in_ok-second.second _ (list_of c.args.cells.now) (list_of c.where_set.new.cells) (list_of c.where_clear.new.cells)
    c.requires.test c.requires.off.there c.in_ok-first.ensures.gives c.in_ok-second.ensures.gives
