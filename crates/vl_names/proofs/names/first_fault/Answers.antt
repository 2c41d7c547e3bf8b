use Rattle.std.proofs.Common.{◌≡◌, None, ap, ◌∙◌}
use Rattle.vl_scope.specs.Faults.{IsFirst, earliest}
use Rattle.vl_scope.specs.DeclarationFaults.{declaration_faults}
use Rattle.vl_uses.specs.UseFaults.{use_faults}
use Rattle.vl_names.specs.HierarchyFaults.{hierarchy_faults}
use Rattle.vl_names.specs.NameFaults.{IsNameFault}
use Rattle.vl_names.proofs.Whole.{ok-map, first_of_all}
use Rattle.vl_names.proofs.names.first_fault.Goals as goal

pub returns : goal.returns
returns c =
    let s = c.args.source.now in
    let best = c.in_ok-best-2.best in
    let so_far : best ≡ earliest (earliest None (declaration_faults s)) (use_faults s) = c.in_ok-best-2.ensures ∙ ap (λ b. earliest b (use_faults s)) c.in_ok-best.ensures in
    ok-map c.first_hierarchy_fault.result (λ r. r ≡ earliest best (hierarchy_faults s)) (IsFirst (IsNameFault s)) (λ r e. first_of_all s r (e ∙ ap (λ b. earliest b (hierarchy_faults s)) so_far)) c.first_hierarchy_fault.ensures
