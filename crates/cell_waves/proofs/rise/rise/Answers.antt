use Rattle.cell_emit.specs.cell_form.specs.Views.{list_of}
use Rattle.cell_emit.specs.Slots.{width_at}
use Rattle.std.specs.Prelude.{◌==◌}
use Rattle.cell_emit.specs.Envs.{env_of}
use Rattle.cell_waves.proofs.Rising.{rises, at-most-one}
use Rattle.cell_waves.proofs.rise.rise.Goals as goal

pub returns-clause-rises : goal.returns-clause-rises
returns-clause-rises c =
    rises (env_of c.args.at.now) (list_of c.args.cells.now) (list_of c.constant.new.cells) (list_of c.binary.new.cells) (list_of c.resize.new.cells) c.in_ok-one.one c.in_ok-time.time c.in_ok-ticks.ticks _ c.requires.time
    (at-most-one (width_at (list_of c.binary.new.cells) c.in_ok-time.time == 32)) c.in_ok-one.ensures.gives c.in_ok-time.ensures.gives c.in_ok-ticks.ensures.gives
