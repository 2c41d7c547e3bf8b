use Rattle.std.proofs.Common.{◌≡◌, IfOk, subst}
use Rattle.std.specs.List.{flat_map}
use Rattle.vl_scope.specs.Faults.{earliest}
use Rattle.vl_uses.specs.UseFaults.{module_faults}
use Rattle.vl_uses.proofs.faults.first_use_fault.Goals as goal

pub returns : goal.returns
returns c =
    subst (λ ms. IfOk c.note_modules.result (λ b. b ≡ earliest c.args.best (flat_map module_faults ms))) c.as_slice.ensures
    (c.note_modules.ensures c.in_ok-none.ensures)
