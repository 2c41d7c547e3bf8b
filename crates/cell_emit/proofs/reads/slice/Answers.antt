use Rattle.std.proofs.Common.{w32, w64, rules, ◌∙◌}
use Rattle.std.proofs.Math.Facts.{to_z-of_z}
use Rattle.cell_form.specs.Views.{list_of}
use Rattle.cell_emit.specs.Slots.{Nothing}
use Rattle.cell_emit.proofs.Frames.{met-nothing}
use Rattle.cell_emit.proofs.Newest.{ok-gives}
use Rattle.cell_emit.proofs.Behind.{resized-behind, sliced}
use Rattle.cell_emit.proofs.reads.slice.Goals as goal

pub returns-clause-gives : goal.returns-clause-gives
returns-clause-gives c =
    ok-gives c.resize.result _ _
    (λ r g. resized-behind Nothing 1 (list_of c.args.cells.now) (list_of c.pick.new.cells) (list_of c.resize.new.cells) c.in_ok-bits.bits r _ c.args.width c.args.signed _ met-nothing
    (sliced (list_of c.args.cells.now) (list_of c.pick.new.cells) c.in_ok-bits.bits c.args.base c.args.here c.args.own c.args.low _ (to_z-of_z {w = w64} {z = c.from.result} (search rules) ∙ c.from.ensures ∙ to_z-of_z {w = w32} {z = c.args.low} (search rules)) c.requires.zero c.in_ok-bits.ensures.gives) g)
    c.resize.ensures.gives
