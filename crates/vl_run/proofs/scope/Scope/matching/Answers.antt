use Rattle.std.proofs.Common.{ap, sym, ◌∙◌, List}
use Rattle.std.proofs.lemmas.List.{drop_all}
use Rattle.vl_design.specs.declared.design.CaseItem.{CaseItem}
use Rattle.vl_design.specs.Acts.{chosen_body}
use Rattle.vl_eval.specs.Rooms.{names_of, sample_of}
use Rattle.vl_run.specs.Cases.{items_of}
use Rattle.vl_run.specs.Scopes.{scope_of}
use Rattle.vl_run.proofs.Casing.{labels-more, labels-within-more, match-found, match-passed}
use Rattle.vl_run.proofs.scope.Scope.matching.Goals as goal

pub returns-then-branch-clause-body : goal.returns-then-branch-clause-body
returns-then-branch-clause-body g c = λ path otherwise.
    let test = rw c.deref.ensures.value at c.in_ok-some_match.ensures in
    let matched = rw (← c.index-items-number.is) at test in
    let yes = sym c.if-branch.true ∙ matched in
    match-found (scope_of c.args.self.now) (sample_of c.args.s.now) c.args.subject c.args.c path otherwise c.args.items.now c.loop-number.number c.index-items-number.result c.loop-number-test.true c.index-items-number.is
    yes (c.loop-number.invariant.leads path otherwise)

pub loop-number-preserved : goal.loop-number-preserved
loop-number-preserved g c =
    let names = names_of c.args.self.now.room in
    let scope = scope_of c.args.self.now in
    let s = sample_of c.args.s.now in
    let items = c.args.items.now in
    let i = c.loop-number.number in
    let x = c.index-items-number.result in
    let l = c.loop-number.invariant in
    let sound = labels-more names items i x c.loop-number-test.true c.index-items-number.is l.sound in
    let within = labels-within-more names c.args.c.width items i x c.loop-number-test.true c.index-items-number.is l.within in
    let test = rw c.deref.ensures.value at c.in_ok-some_match.ensures in
    let matched = rw (← c.index-items-number.is) at test in
    let no = sym c.if-branch.false ∙ matched in
    record {
      sound = sound.1;
      within = within.1;
      leads = λ path otherwise. match-passed scope s c.args.subject c.args.c path otherwise (chosen_body scope s c.args.subject c.args.c (items_of path items) otherwise) items i x c.loop-number-test.true c.index-items-number.is no (l.leads path otherwise);
    }

pub returns-clause-body : goal.returns-clause-body
returns-clause-body g c = λ path otherwise.
    let none = drop_all c.loop-number.number c.args.items.now c.loop-number-test.false in
    let over = ap (λ (ys : List CaseItem). chosen_body (scope_of c.args.self.now) (sample_of c.args.s.now) c.args.subject c.args.c (items_of path ys) otherwise) none in
    sym over ∙ c.loop-number.invariant.leads path otherwise
