use Rattle.std.proofs.Common.{◌≡◌, List, flat_map, IfOk, sym, ap, ◌∙◌, subst}
use Rattle.vl_scope.specs.vl_tree.specs.declared.source_tree.Instance.{Instance}
use Rattle.vl_scope.specs.declared.fault.Fault.{Fault}
use Rattle.vl_scope.specs.Faults.{earliest}
use Rattle.vl_names.specs.Modules.{all_instances}
use Rattle.vl_names.specs.HierarchyFaults.{instance_faults, given_faults}
use Rattle.vl_names.specs.Seen as seen
use Rattle.vl_names.proofs.Graph.{described}
use Rattle.vl_names.proofs.hierarchy.note_given.Goals as goal

pub returns : goal.returns
returns c =
    let s = c.args.source.now in
    let is = c.deref.result.now in
    let us = seen.nows c.deref-2.result.now in
    let known = described s is (subst (λ l. seen.DescribeAll l s.modules) (sym c.deref.ensures.value) c.in_ok-interfaces.ensures) in
    let same : seen.faults_in (seen.look c.args.numbers.now) is ≡ instance_faults s = ap (λ number. seen.faults_in number is) c.requires ∙ known in
    let all : us ≡ all_instances s = ap seen.nows c.deref-2.ensures.value ∙ c.in_ok-instances.ensures in
    let whole : earliest c.args.best (flat_map (seen.faults_in (seen.look c.args.numbers.now) is) us) ≡ earliest c.args.best (given_faults s) =
    ap (λ (f : Instance → List Fault). earliest c.args.best (flat_map f us)) same
    ∙ ap (λ (l : List Instance). earliest c.args.best (flat_map (instance_faults s) l)) all in
    subst (λ y. IfOk c.note_instances.result (λ r. r ≡ y)) whole c.note_instances.ensures
