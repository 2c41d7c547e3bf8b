use Rattle.std.proofs.Common.{refl, sym, subst}
use Rattle.vl_design.specs.Trees.{flat_of}
use Rattle.vl_width.specs.Room.{HaveInputs}
use Rattle.vl_width.proofs.Rooms.{have-inputs, names-design}
use Rattle.vl_width.proofs.room.Room.of_design.Goals as goal

pub returns-clause-names : goal.returns-clause-names
returns-clause-names c = names-design c.args.design.now _ _ _ c.as_slice.ensures refl c.as_slice-2.ensures

pub returns-clause-inputs : goal.returns-clause-inputs
returns-clause-inputs c =
    subst HaveInputs (sym (names-design c.args.design.now _ _ _ c.as_slice.ensures refl c.as_slice-2.ensures)) (have-inputs (flat_of c.args.design.now) c.requires)
