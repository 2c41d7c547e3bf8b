use Rattle.std.proofs.Math.Facts.{to_z-of_z}
use Rattle.cell_form.specs.Views.{list_of}
use Rattle.std.proofs.Common.{◌<◌, w64, rules}
use Rattle.cell_emit.proofs.Frames.{met-memory}
use Rattle.cell_emit.proofs.Newest.{ok-gives}
use Rattle.cell_emit.proofs.Behind.{resized-behind, found-word}
use Rattle.cell_emit.proofs.reads.word.Goals as goal

pub returns-clause-gives : goal.returns-clause-gives
returns-clause-gives c =
    ok-gives c.resize.result _ _
    (λ r g. resized-behind (λ s. c.args.memory < s.mems) 1 (list_of c.args.cells.now) (list_of c.word.new.cells) (list_of c.resize.new.cells) c.in_ok-word.word r _ c.args.width c.args.signed _ (met-memory c.args.memory)
    (found-word (λ s. c.args.memory < s.mems) (list_of c.args.cells.now) (list_of c.word.new.cells) c.in_ok-word.word c.args.memory c.args.address c.args.own c.args.address_signed c.args.lowest _ (to_z-of_z {w = w64} {z = c.args.lowest} (search rules)) c.in_ok-word.ensures.gives) g)
    c.resize.ensures.gives
