use Rattle.std.proofs.Common.{◌++◌, ap, ◌∙◌}
use Rattle.vl_design.specs.Stops.{earliest}
use Rattle.elab_plain.specs.vl_flat.specs.Constants.{is_bound}
use Rattle.elab_plain.specs.vl_flat.specs.ExpressionFaults.{faults, constant_must}
use Rattle.elab_plain.specs.Seen.{seen}
use Rattle.elab_constant.specs.Seen.{seen_scope}
use Rattle.vl_design.proofs.Earliest.{chain}
use Rattle.elab_faults.proofs.types.bound_faults.Goals as goal

pub returns : goal.returns
returns c =
    let s = seen_scope c.module_scope-scope.result in
    let e = seen c.args.e.now in
    chain c.args.best c.faults-inner.result c.must_be_bound.result (faults s e) (constant_must s is_bound e 10) c.faults-inner.ensures c.must_be_bound.ensures
    ∙ ap (λ z. earliest c.args.best (faults z e ++ constant_must z is_bound e 10)) c.module_scope-scope.ensures
