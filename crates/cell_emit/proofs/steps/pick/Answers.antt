use Rattle.std.proofs.Common.{w64, rules}
use Rattle.std.proofs.Math.Facts.{to_z-of_z}
use Rattle.cell_form.specs.Views.{list_of}
use Rattle.cell_emit.proofs.Newest.{ok-gives, gives-pick}
use Rattle.cell_emit.proofs.steps.pick.Goals as goal

pub returns-clause-gives : goal.returns-clause-gives
returns-clause-gives c =
    ok-gives c.push.result _ _
    (λ r p. gives-pick (list_of c.args.cells.now) (list_of c.push.new.cells) r c.args.base c.args.index c.args.from c.args.width c.args.low _ (to_z-of_z {w = w64} {z = c.args.low} (search rules)) c.requires.base c.requires.index c.requires.wide c.requires.narrow p)
    c.push.ensures.pushed
