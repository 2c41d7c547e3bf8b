use Rattle.std.proofs.Common.{sym, subst}
use Rattle.vl_design.specs.Trees.{flat_of}
use Rattle.vl_width.specs.Room.{HaveInputs}
use Rattle.vl_width.proofs.Rooms.{have-inputs, names-function}
use Rattle.vl_width.proofs.room.Room.of_function.Goals as goal

pub returns-clause-names : goal.returns-clause-names
returns-clause-names c = names-function c.args.design.now c.args.function.now _ _ _ c.as_slice.ensures c.as_slice-2.ensures c.as_slice-3.ensures

pub returns-clause-inputs : goal.returns-clause-inputs
returns-clause-inputs c =
    let names = names-function c.args.design.now c.args.function.now _ _ _ c.as_slice.ensures c.as_slice-2.ensures c.as_slice-3.ensures in
    subst HaveInputs (sym names) (have-inputs (flat_of c.args.design.now) c.requires)
