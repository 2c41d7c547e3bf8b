use Rattle.std.proofs.Common.{sym, ap, subst}
use Rattle.std.specs.Prelude.{OnOk}
use Rattle.vl_design.specs.Plainly.{called_first}
use Rattle.vl_design.specs.Seen as seen
use Rattle.vl_design.specs.Sound.{IsSoundStm}
use Rattle.vl_design.specs.Syntax.{Nop}
use Rattle.vl_design.specs.Width.{Names, Scope}
use Rattle.vl_run.specs.Machines.{IsMachine, Does}
use Rattle.vl_run.proofs.parts.call_in_process.Goals as goal

pub outermost-scope-requires-clause-callable : goal.outermost-scope-requires-clause-callable
outermost-scope-requires-clause-callable c f args h = (c.requires.design, h)

pub outermost-scope-requires-clause-gives : goal.outermost-scope-requires-clause-gives
outermost-scope-requires-clause-gives c f args r h = h.1

pub call_first-requires-clause-sound : goal.call_first-requires-clause-sound
call_first-requires-clause-sound c =
    subst (λ (n : Names). IsSoundStm n (called_first c.args.path.now (seen.exp_of c.args.e.now) Nop)) (sym (ap (λ s. s.names) c.outermost-scope.ensures.scope)) c.requires.sound

pub call_first-requires-clause-machine : goal.call_first-requires-clause-machine
call_first-requires-clause-machine c = subst (λ (n : Names). IsMachine n c.args.m.now) (sym (ap (λ s. s.names) c.outermost-scope.ensures.scope)) c.requires.machine

pub returns-clause-does : goal.returns-clause-does
returns-clause-does c =
    subst (λ (s : Scope). OnOk c.call_first.result (Does s (called_first c.args.path.now (seen.exp_of c.args.e.now) Nop) c.args.m.now c.call_first.new.m))
    c.outermost-scope.ensures.scope c.call_first.ensures.does

pub returns-clause-machine : goal.returns-clause-machine
returns-clause-machine c = subst (λ (s : Scope). OnOk c.call_first.result (IsMachine s.names c.call_first.new.m)) c.outermost-scope.ensures.scope c.call_first.ensures.machine
