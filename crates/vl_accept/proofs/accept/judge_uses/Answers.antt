use Rattle.vl_check.specs.vl_design.specs.Seen.{placed}
use Rattle.vl_check.specs.vl_design.specs.First.{IsFirst}
use Rattle.vl_check.specs.Uses.{IsUseFault}
use Rattle.vl_accept.proofs.Ends.{judges}
use Rattle.vl_accept.proofs.accept.judge_uses.Goals as goal

pub returns : goal.returns
returns c = judges (IsFirst (IsUseFault (placed c.args.design.now))) c.in_ok-found.found c.passed.result c.in_ok-found.ensures c.passed.ensures
