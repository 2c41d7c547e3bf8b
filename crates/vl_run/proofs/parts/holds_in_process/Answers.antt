use Rattle.std.proofs.Common.{◌≡◌, sym, ap, subst}
use Rattle.std.specs.Prelude.{◌==◌, not}
use Rattle.vl_design.specs.Laws.{IsFine}
use Rattle.vl_design.specs.Sound.{IsSoundExp}
use Rattle.vl_design.specs.Trees.{exp_of}
use Rattle.vl_design.specs.Value.{Sample, own_value}
use Rattle.vl_design.specs.Width.{Names, Scope}
use Rattle.vl_run.specs.Machines.{sample_in}
use Rattle.vl_run.specs.Scopes.{scope_of}
use Rattle.vl_run.proofs.parts.holds_in_process.Goals as goal

pub outermost-scope-requires-clause-callable : goal.outermost-scope-requires-clause-callable
outermost-scope-requires-clause-callable c f args h = (c.requires.design, h)

pub outermost-scope-requires-clause-gives : goal.outermost-scope-requires-clause-gives
outermost-scope-requires-clause-gives c f args r h = h.1

pub own_value-requires-clause-sound : goal.own_value-requires-clause-sound
own_value-requires-clause-sound c = subst (λ (n : Names). IsSoundExp n (exp_of c.args.test.now)) (sym (ap (λ s. s.names) c.outermost-scope.ensures.scope)) c.requires.test

pub own_value-requires-clause-fine : goal.own_value-requires-clause-fine
own_value-requires-clause-fine c =
    let scope = scope_of c.outermost-scope.result in
    let fine = subst (λ (n : Names). IsFine n.rows c.args.m.now.values.items) (sym (ap (λ s. s.names) c.outermost-scope.ensures.scope)) c.requires.machine.fine in
    subst (λ (x : Sample). IsFine scope.names.rows x.values) (sym c.sample.ensures) fine

pub returns : goal.returns
returns c = λ n.
    let m = c.args.m.now in
    let t = exp_of c.args.test.now in
    let bits = c.in_ok-bits.bits in
    let read = subst (λ (x : Sample). bits.value ≡ own_value (scope_of c.outermost-scope.result) x t) c.sample.ensures c.in_ok-bits.ensures in
    let value = subst (λ (s : Scope). bits.value ≡ own_value s (sample_in m) t) c.outermost-scope.ensures.scope read in
    ap (λ v. not (v == 0)) value
