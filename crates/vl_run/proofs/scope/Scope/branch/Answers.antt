use Rattle.std.proofs.Common.{ap, sym, ◌∙◌, subst, arith, []}
use Rattle.vl_design.specs.declared.design.Form.{Form}
use Rattle.vl_design.specs.Acts.{default_body}
use Rattle.vl_design.specs.Trees.{exp_of}
use Rattle.vl_eval.specs.Rooms.{names_of, sample_of}
use Rattle.vl_run.specs.Cases.{items_of, AreLabelsWithin}
use Rattle.vl_run.specs.Scopes.{scope_of}
use Rattle.vl_run.proofs.Casing.{items-grow, items-within, branch-is}
use Rattle.vl_run.proofs.scope.Scope.branch.Goals as goal

pub value-requires-clause-wide : goal.value-requires-clause-wide
value-requires-clause-wide g c =
    let grows = items-grow (names_of c.args.self.now.room) [] c.form_of.result c.args.items.now in
    let first = ap (λ (z : Form). z.width) c.form_of.ensures.value in
    let all = ap (λ (z : Form). z.width) (c.items_form-c.ensures.value []) in
    omega (arith, grows, first, all)

pub matching-requires-clause-within : goal.matching-requires-clause-within
matching-requires-clause-within g c =
    let names = names_of c.args.self.now.room in
    subst (λ (z : Form). AreLabelsWithin names z.width c.args.items.now) (sym (c.items_form-c.ensures.value [])) (items-within names [] c.form_of.result c.args.items.now)

pub returns-in-None-clause-body : goal.returns-in-None-clause-body
returns-in-None-clause-body g c = λ path.
    let items = c.args.items.now in
    let none = rw c.in-None.is at (c.in_ok-matching.ensures.body path (default_body (items_of path items))) in
    let is = branch-is (scope_of c.args.self.now) (sample_of c.args.s.now) (exp_of c.args.subject.now) path items c.form_of.result c.items_form-c.result c.in_ok-bits.bits.value c.form_of.ensures.value (c.items_form-c.ensures.value path) c.in_ok-bits.ensures.value in
    c.default_of.ensures.body path ∙ (none ∙ is)

pub returns-in-Some-clause-body : goal.returns-in-Some-clause-body
returns-in-Some-clause-body g c = λ path.
    let items = c.args.items.now in
    let some = rw c.in-Some.is at (c.in_ok-matching.ensures.body path (default_body (items_of path items))) in
    let is = branch-is (scope_of c.args.self.now) (sample_of c.args.s.now) (exp_of c.args.subject.now) path items c.form_of.result c.items_form-c.result c.in_ok-bits.bits.value c.form_of.ensures.value (c.items_form-c.ensures.value path) c.in_ok-bits.ensures.value in
    some ∙ is
