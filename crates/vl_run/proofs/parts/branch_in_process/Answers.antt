use Rattle.std.proofs.Common.{◌≡◌, ℕ, List, sym, ap, subst}
use Rattle.std.specs.Prelude.{IfOk}
use Rattle.vl_design.specs.Acts.{branch_of}
use Rattle.vl_design.specs.Laws.{IsFine}
use Rattle.vl_design.specs.Sound.{IsSoundExp}
use Rattle.vl_design.specs.Syntax.{Case}
use Rattle.vl_design.specs.Trees.{exp_of}
use Rattle.vl_design.specs.Value.{Sample}
use Rattle.vl_design.specs.Width.{Names, Scope}
use Rattle.vl_run.specs.Cases.{items_of, body_at, AreSoundLabels}
use Rattle.vl_run.specs.Machines.{sample_in}
use Rattle.vl_run.specs.Scopes.{scope_of}
use Rattle.vl_run.proofs.parts.branch_in_process.Goals as goal

pub outermost-scope-requires-clause-callable : goal.outermost-scope-requires-clause-callable
outermost-scope-requires-clause-callable c f args h = (c.requires.design, h)

pub outermost-scope-requires-clause-gives : goal.outermost-scope-requires-clause-gives
outermost-scope-requires-clause-gives c f args r h = h.1

pub branch-scope-requires-clause-subject : goal.branch-scope-requires-clause-subject
branch-scope-requires-clause-subject c = subst (λ (n : Names). IsSoundExp n (exp_of c.args.subject.now)) (sym (ap (λ s. s.names) c.outermost-scope.ensures.scope)) c.requires.subject

pub branch-scope-requires-clause-items : goal.branch-scope-requires-clause-items
branch-scope-requires-clause-items c = subst (λ (n : Names). AreSoundLabels n c.args.items.now) (sym (ap (λ s. s.names) c.outermost-scope.ensures.scope)) c.requires.items

pub branch-scope-requires-clause-fine : goal.branch-scope-requires-clause-fine
branch-scope-requires-clause-fine c =
    let scope = scope_of c.outermost-scope.result in
    let fine = subst (λ (n : Names). IsFine n.rows c.args.m.now.values.items) (sym (ap (λ s. s.names) c.outermost-scope.ensures.scope)) c.requires.machine.fine in
    subst (λ (x : Sample). IsFine scope.names.rows x.values) (sym c.sample.ensures) fine

pub returns-clause-body : goal.returns-clause-body
returns-clause-body c =
    let m = c.args.m.now in
    let e = exp_of c.args.subject.now in
    let items = c.args.items.now in
    let read = subst (λ (x : Sample). IfOk c.branch-scope.result (λ r. (path : List ℕ) → body_at path items r ≡ branch_of (scope_of c.outermost-scope.result) x (Case e (items_of path items))))
    c.sample.ensures c.branch-scope.ensures.body in
    subst (λ (s : Scope). IfOk c.branch-scope.result (λ r. (path : List ℕ) → body_at path items r ≡ branch_of s (sample_in m) (Case e (items_of path items))))
    c.outermost-scope.ensures.scope read
