use Rattle.vl_run.proofs.Called.{direct-sys}
use Rattle.vl_run.proofs.first.direct_call.Goals as goal

pub returns-in-Sys : goal.returns-in-Sys
returns-in-Sys c = direct-sys c.args.e.now c.in-Sys.call c.in-Sys.is
