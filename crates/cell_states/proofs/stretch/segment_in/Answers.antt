use Rattle.std.proofs.Common.{map}
use Rattle.vl_design.specs.Trees.{flat_of}
use Rattle.cell_emit.specs.cell_form.specs.Views.{list_of}
use Rattle.cell_emit.specs.Envs.{env_of}
use Rattle.cell_emit.specs.Pendings.{slots_of}
use Rattle.ten_form.specs.sub_split.specs.Views.{piece_view}
use Rattle.cell_states.proofs.Stretching.{risen-fits, risen-pending, segment-does}
use Rattle.cell_states.proofs.stretch.segment_in.Goals as goal

pub stretch-requires-clause-fits : goal.stretch-requires-clause-fits
stretch-requires-clause-fits c =
    risen-fits (flat_of c.args.design.now) (env_of c.args.begun.now.at) (env_of c.risen.new.at) (list_of c.args.cells.now) (list_of c.risen.new.cells) (slots_of c.args.begun.now.pending) c.args.segment.now.rises c.in_ok-ticks.ticks c.in_ok-ticks.ensures.rises c.requires.fits

pub stretch-requires-clause-pending : goal.stretch-requires-clause-pending
stretch-requires-clause-pending c =
    risen-pending (flat_of c.args.design.now) (env_of c.args.begun.now.at) (env_of c.risen.new.at) (list_of c.args.cells.now) (list_of c.risen.new.cells) (slots_of c.args.begun.now.pending) c.args.segment.now.rises c.in_ok-ticks.ticks c.in_ok-ticks.ensures.rises c.requires.pending

pub returns-clause-does : goal.returns-clause-does
returns-clause-does c =
    let does = rw c.deref.ensures.value at c.in_ok-stretch.ensures.does in
    segment-does (flat_of c.args.design.now) (env_of c.args.begun.now.at) (env_of c.risen.new.at) (list_of c.args.cells.now) (list_of c.risen.new.cells) (slots_of c.args.begun.now.pending) c.args.segment.now.rises c.in_ok-ticks.ticks (map piece_view c.args.segment.now.statements.items)
    (env_of c.stretch.new.begun.at) (slots_of c.stretch.new.begun.pending) (list_of c.stretch.new.cells) c.requires.fits c.requires.pending c.in_ok-ticks.ensures.rises does
