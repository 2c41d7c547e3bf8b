use Rattle.std.proofs.Common.{refl, false}
use Rattle.vl_design.specs.Trees.{flat_of}
use Rattle.cell_emit.specs.cell_form.specs.Views.{list_of}
use Rattle.cell_emit.specs.Envs.{env_of}
use Rattle.cell_calls.proofs.Owning.{own-number}
use Rattle.cell_calls.proofs.own.constant.Goals as goal

pub returns-clause-gives : goal.returns-clause-gives
returns-clause-gives c =
    own-number (flat_of c.args.site.design.now) (env_of c.args.site.at.now) c.args.bits.value c.args.bits.width (list_of c.args.cells.now) (list_of c.number.new.cells)
    (record { slot = c.in_ok-slot.slot; width = c.args.bits.width; signed = false }) c.requires.ready.fits refl refl c.in_ok-slot.ensures.gives
