use Rattle.std.proofs.Common.{rules, ap}
use Rattle.std.proofs.lemmas.Int.{to_z-of_z}
use Rattle.std.specs.Int.{w64}
use Rattle.cell_form.specs.Views.{list_of}
use Rattle.cell_emit.proofs.Newest.{ok-gives}
use Rattle.cell_emit.specs.Paths.{low_of}
use Rattle.cell_emit.proofs.Assigning.{gives-by}
use Rattle.cell_emit.proofs.assign.with_part.Goals as goal

pub returns-in-By-clause-gives : goal.returns-in-By-clause-gives
returns-in-By-clause-gives c =
    ok-gives c.place_in-in-By.result _ _
    (λ r g. gives-by c.args.before c.args.part c.in-By.index c.in-By.signed c.in-By.bit _ (low_of c.args.low) r (list_of c.args.cells.now) (list_of c.place_in-in-By.new.cells) (ap low_of c.in-By.is) (to_z-of_z w64 c.in-By.bit.constant (search rules)) g)
    c.place_in-in-By.ensures.gives
