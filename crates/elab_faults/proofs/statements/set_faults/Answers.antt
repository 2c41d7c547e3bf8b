use Rattle.elab_plain.specs.vl_flat.specs.ExpressionFaults.{faults}
use Rattle.elab_plain.specs.vl_flat.specs.Targets.{target_faults}
use Rattle.elab_plain.specs.Seen.{seen}
use Rattle.elab_plain.specs.SeenStatements.{seen_left}
use Rattle.elab_constant.specs.Seen.{seen_scope}
use Rattle.vl_design.proofs.Earliest.{chain}
use Rattle.elab_faults.proofs.statements.set_faults.Goals as goal

pub returns : goal.returns
returns c =
    let s = seen_scope c.args.scope.now in
    chain c.args.best c.target_faults-left.result c.faults.result (target_faults s (seen_left c.args.l.now)) (faults s (seen c.args.e.now)) c.target_faults-left.ensures c.faults.ensures
