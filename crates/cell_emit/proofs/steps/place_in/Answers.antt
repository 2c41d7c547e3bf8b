use Rattle.std.proofs.Common.{w64, rules}
use Rattle.std.proofs.Math.Facts.{to_z-of_z}
use Rattle.cell_form.specs.Views.{list_of}
use Rattle.cell_emit.proofs.Newest.{ok-gives, gives-placed}
use Rattle.cell_emit.proofs.steps.place_in.Goals as goal

pub returns-clause-gives : goal.returns-clause-gives
returns-clause-gives c =
    ok-gives c.push.result _ _
    (λ r p. gives-placed (list_of c.args.cells.now) (list_of c.push.new.cells) r c.args.old_value c.args.index c.args.part c.args.from c.width_of-width.result c.args.low _ (to_z-of_z {w = w64} {z = c.args.low} (search rules)) c.requires.old_value c.requires.index c.requires.part c.requires.wide c.requires.narrow c.width_of-width.ensures p)
    c.push.ensures.pushed
