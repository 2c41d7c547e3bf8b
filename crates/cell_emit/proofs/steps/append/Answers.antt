use Rattle.std.proofs.Common.{◌+◌, arith}
use Rattle.cell_form.specs.Views.{list_of}
use Rattle.cell_emit.proofs.Newest.{ok-gives, gives-append}
use Rattle.cell_emit.proofs.steps.append.Goals as goal

pub returns-clause-gives : goal.returns-clause-gives
returns-clause-gives c =
    ok-gives c.push.result _ _
    (λ r p. gives-append (list_of c.args.cells.now) (list_of c.push.new.cells) r c.args.high c.args.low (c.width_of.result + c.width_of-2.result) _ c.requires.high c.requires.low c.requires.narrow (omega (arith, c.width_of.ensures, c.width_of-2.ensures)) p)
    c.push.ensures.pushed
