use Rattle.vl_latch.proofs.Designs.{path-first}
use Rattle.vl_latch.proofs.paths.paths.Goals as goal

pub returns : goal.returns
returns c = rw (c.stop_at.ensures, c.first_of.ensures) (path-first c.args.design.now c.in_ok-first.first c.in_ok-second.second c.in_ok-first.ensures.first c.in_ok-second.ensures)
