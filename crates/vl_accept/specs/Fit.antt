-- Designs that can be judged: what the elaboration of every source is.
use Rattle.std.specs.Prelude.{All, ◌++◌}
use Rattle.vl_check.specs.vl_design.specs.Placed.{Design}
use Rattle.vl_check.specs.vl_design.specs.Plainly.{flat}
use Rattle.vl_check.specs.vl_design.specs.Rows.{range_width}
use Rattle.vl_check.specs.vl_design.specs.Sound.{IsSound, IsWidth}
use Rattle.vl_unroll.specs.vl_loops.specs.Fits.{AreNoLoops}
use Rattle.vl_accept.specs.Built.{IsBuilt}

-- the design is sound, no input of a function is a loop variable, signals and locals have from 1 to 128 bits, and processes are
-- as elaboration makes them
pub record IsFit (d : Design) : Type 0 where
  pub sound : IsSound (flat d)
  pub inputs : All (λ f. AreNoLoops ((flat d).rows ++ f.locals) f.inputs) (flat d).funs
  pub signals : All (λ r. IsWidth (range_width r.left r.right)) d.signals
  pub locals : All (λ f. All (λ r. IsWidth (range_width r.left r.right)) f.locals) d.funcs
  pub processes : All (IsBuilt d.signals) d.processes
