-- Worked rows, by computing.
use Rattle.std.proofs.Common.{◌≡◌, refl}
use Rattle.std.specs.Prelude.{Ok, Err}
use Rattle.vl_design.specs.declared.stop.Stop.TheVariants.{Construct}
use Rattle.vl_flat.specs.Examples.{at, stepped_source, stepped, two_wide}
use Rattle.vl_flat.specs.Environments.{size}
use Rattle.vl_flat.specs.Flat.{instance}
use Rattle.vl_flat.specs.Outcome.{flattened}

pub stepped-row : flattened stepped_source ≡ Ok stepped
unfolding size instance
stepped-row = refl

pub two_wide-row : flattened two_wide ≡ Err (Construct (at 5 15) 10)
unfolding size instance
two_wide-row = refl
