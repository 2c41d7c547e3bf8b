use Rattle.std.proofs.Common.{w64, rules}
use Rattle.std.proofs.Math.Facts.{to_z-of_z}
use Rattle.cell_form.specs.Views.{list_of}
use Rattle.cell_emit.proofs.Newest.{ok-gives, gives-word}
use Rattle.cell_emit.proofs.steps.word.Goals as goal

pub returns-clause-gives : goal.returns-clause-gives
returns-clause-gives c =
    ok-gives c.push.result _ _
    (λ r p. gives-word (list_of c.args.cells.now) (list_of c.push.new.cells) r c.args.memory c.args.address c.args.signed c.args.width c.args.lowest _ (to_z-of_z {w = w64} {z = c.args.lowest} (search rules)) c.requires.there c.requires.wide c.requires.narrow p)
    c.push.ensures.pushed
