use Rattle.std.proofs.Common.{◌≡◌, ℕ, List, Option, IfOk, not, sym, ap, ◌∙◌, subst}
use Rattle.std.specs.List.{flat_map}
use Rattle.vl_scope.specs.declared.fault.Fault.{Fault}
use Rattle.vl_scope.specs.Faults.{earliest, fault_if}
use Rattle.vl_scope.specs.Declarations.{all_seen, declarations}
use Rattle.vl_scope.specs.DeclarationFaults.{listed as listed_lem, scope_faults, repeated_faults, undirected_faults, unlisted_faults, names_have, item_ports, item_faults, module_faults}
use Rattle.vl_scope.specs.Keys.{has}
use Rattle.vl_scope.specs.Marks.{marks_in, marks_at}
use Rattle.vl_scope.proofs.Noting.{undirected-marks, unlisted-has, earliest_of_five}
use Rattle.vl_scope.proofs.faults.note_module.Goals as goal

pub returns : goal.returns
returns c =
    let m = c.args.tree.now in
    let first = c.args.best in
    let all = declarations m in
    let names = listed_lem m in
    let ports = flat_map item_ports m.items in
    let all_is : all_seen c.deref.result.now ≡ all = ap all_seen c.deref.ensures.value ∙ c.in_ok-declarations.ensures in
    let ports_is : all_seen c.deref-2.result.now ≡ ports = ap all_seen c.deref-2.ensures.value ∙ c.in_ok-ports.ensures ∙ ap (flat_map item_ports) c.as_slice.ensures in
    let known : (t : List ℕ) → marks_at c.in_ok-known.known t ≡ marks_in all t = λ t. c.in_ok-known.ensures.known t ∙ ap (λ l. marks_in l t) all_is in
    let kept : (t : List ℕ) → has c.in_ok-names.names t ≡ names_have names t = λ t. c.in_ok-names.ensures.names t ∙ ap (λ l. names_have l t) c.listed.ensures in
    let a : c.in_ok-known.best ≡ earliest first (scope_faults all) = c.in_ok-known.ensures.best ∙ ap (λ l. earliest first (scope_faults l)) all_is in
    let b : c.in_ok-names.best ≡ earliest (earliest first (scope_faults all)) (repeated_faults names) = c.in_ok-names.ensures.best ∙ ap (λ l. earliest c.in_ok-known.best (repeated_faults l)) c.listed.ensures ∙ ap (λ o. earliest o (repeated_faults names)) a in
    let undirected : c.note_undirected-best.result ≡ earliest c.in_ok-names.best (undirected_faults all names) =
    c.note_undirected-best.ensures ∙ ap (λ l. earliest c.in_ok-names.best (flat_map (λ n. fault_if (not (marks_at c.in_ok-known.known n.name).directed) n.place 7) l)) c.listed-2.ensures ∙ ap (earliest c.in_ok-names.best) (undirected-marks c.in_ok-known.known all names known) in
    let unlisted : c.note_unlisted-best.result ≡ earliest c.note_undirected-best.result (unlisted_faults names ports) =
    c.note_unlisted-best.ensures ∙ ap (λ l. earliest c.note_undirected-best.result (flat_map (λ a. fault_if (not (has c.in_ok-names.names a.name.name)) a.name.place 7) l)) ports_is ∙ ap (earliest c.note_undirected-best.result) (unlisted-has c.in_ok-names.names names ports kept) in
    let before : c.note_unlisted-best.result ≡ earliest (earliest (earliest (earliest first (scope_faults all)) (repeated_faults names)) (undirected_faults all names)) (unlisted_faults names ports) =
    unlisted ∙ ap (λ o. earliest o (unlisted_faults names ports)) (undirected ∙ ap (λ o. earliest o (undirected_faults all names)) b) in
    let whole : earliest c.note_unlisted-best.result (flat_map item_faults c.as_slice-2.result.now) ≡ earliest first (module_faults m) =
    ap (λ l. earliest c.note_unlisted-best.result (flat_map item_faults l)) c.as_slice-2.ensures ∙ ap (λ o. earliest o (flat_map item_faults m.items)) before
    ∙ sym (earliest_of_five first (scope_faults all) (repeated_faults names) (undirected_faults all names) (unlisted_faults names ports) (flat_map item_faults m.items)) in
    subst (λ (o : Option Fault). IfOk c.note_functions.result (λ r. r ≡ o)) whole c.note_functions.ensures
