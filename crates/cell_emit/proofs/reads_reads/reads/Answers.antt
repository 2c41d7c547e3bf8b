use Rattle.vl_sites.specs.vl_design.specs.Trees.{flat_of}
use Rattle.vl_sites.specs.vl_design.specs.Width.{names_of}
use Rattle.cell_form.specs.Views.{list_of}
use Rattle.cell_emit.proofs.Frames.{grows-then}
use Rattle.cell_emit.proofs.Reading.{longer-of, reads-of}
use Rattle.cell_emit.proofs.Samples.{all-longer, all-fits, all-memories, all-stands}
use Rattle.cell_emit.proofs.reads_reads.reads.Goals as goal

pub returns-clause-grows : goal.returns-clause-grows
returns-clause-grows c =
    let l0 = list_of c.args.cells.now in
    let l1 = list_of c.constant.new.cells in
    let l2 = list_of c.constant-2.new.cells in
    let l3 = list_of c.register.new.cells in
    let l4 = list_of c.register-2.new.cells in
    let l5 = list_of c.entries.new.cells in
    grows-then l0 l1 l5 c.in_ok-here.ensures.grows (grows-then l1 l2 l5 c.in_ok-away.ensures.grows (grows-then l2 l3 l5 c.in_ok-ticks.ensures.grows (grows-then l3 l4 l5 c.in_ok-last.ensures.grows c.in_ok-slots.ensures.grows)))

pub returns-clause-longer : goal.returns-clause-longer
returns-clause-longer c =
    all-longer (names_of (flat_of c.args.design.now)) c.args.places.now c.args.time c.args.answer _ _ _ _ _ _ _ c.in_ok-here.here c.in_ok-away.away c.in_ok-ticks.ticks c.in_ok-last.last c.in_ok-slots.slots.items
    c.in_ok-here.ensures.gives c.in_ok-away.ensures.gives c.in_ok-ticks.ensures.gives c.in_ok-last.ensures.gives (longer-of _ _ _ _ _ c.as_slice.ensures c.in_ok-slots.ensures.longer) (reads-of _ _ _ _ _ c.as_slice.ensures c.in_ok-slots.ensures.reads)

pub returns-clause-fits : goal.returns-clause-fits
returns-clause-fits c =
    all-fits (names_of (flat_of c.args.design.now)) c.args.places.now c.args.time c.args.answer _ _ _ _ _ _ _ c.in_ok-here.here c.in_ok-away.away c.in_ok-ticks.ticks c.in_ok-last.last c.in_ok-slots.slots.items
    c.in_ok-here.ensures.gives c.in_ok-away.ensures.gives c.in_ok-ticks.ensures.gives c.in_ok-last.ensures.gives (longer-of _ _ _ _ _ c.as_slice.ensures c.in_ok-slots.ensures.longer) (reads-of _ _ _ _ _ c.as_slice.ensures c.in_ok-slots.ensures.reads)

pub returns-clause-memories : goal.returns-clause-memories
returns-clause-memories c =
    all-memories (names_of (flat_of c.args.design.now)) c.args.places.now c.args.time c.args.answer _ _ _ _ _ _ _ c.in_ok-here.here c.in_ok-away.away c.in_ok-ticks.ticks c.in_ok-last.last c.in_ok-slots.slots.items
    c.in_ok-here.ensures.gives c.in_ok-away.ensures.gives c.in_ok-ticks.ensures.gives c.in_ok-last.ensures.gives (longer-of _ _ _ _ _ c.as_slice.ensures c.in_ok-slots.ensures.longer) (reads-of _ _ _ _ _ c.as_slice.ensures c.in_ok-slots.ensures.reads)

pub returns-clause-stands : goal.returns-clause-stands
returns-clause-stands c =
    all-stands (names_of (flat_of c.args.design.now)) c.args.places.now c.args.time c.args.answer _ _ _ _ _ _ _ c.in_ok-here.here c.in_ok-away.away c.in_ok-ticks.ticks c.in_ok-last.last c.in_ok-slots.slots.items
    c.in_ok-here.ensures.gives c.in_ok-away.ensures.gives c.in_ok-ticks.ensures.gives c.in_ok-last.ensures.gives (longer-of _ _ _ _ _ c.as_slice.ensures c.in_ok-slots.ensures.longer) (reads-of _ _ _ _ _ c.as_slice.ensures c.in_ok-slots.ensures.reads)
