use Rattle.std.proofs.Common.{sym, ap, subst}
use Rattle.std.specs.Prelude.{OnOk}
use Rattle.vl_design.specs.Sound.{IsSoundStm}
use Rattle.vl_design.specs.Trees.{stm_of}
use Rattle.vl_design.specs.Width.{Names, Scope}
use Rattle.vl_run.specs.Machines.{IsMachine, Does}
use Rattle.vl_run.proofs.process.exec_process.Goals as goal

pub outermost-scope-requires-clause-callable : goal.outermost-scope-requires-clause-callable
outermost-scope-requires-clause-callable c f args h = (c.requires.design, h)

pub outermost-scope-requires-clause-gives : goal.outermost-scope-requires-clause-gives
outermost-scope-requires-clause-gives c f args r h = h.1

pub exec-requires-clause-sound : goal.exec-requires-clause-sound
exec-requires-clause-sound c = subst (λ (n : Names). IsSoundStm n (stm_of c.args.path.now c.args.s.now)) (sym (ap (λ s. s.names) c.outermost-scope.ensures.scope)) c.requires.sound

pub exec-requires-clause-machine : goal.exec-requires-clause-machine
exec-requires-clause-machine c = subst (λ (n : Names). IsMachine n c.args.m.now) (sym (ap (λ s. s.names) c.outermost-scope.ensures.scope)) c.requires.machine

pub returns-clause-does : goal.returns-clause-does
returns-clause-does c = subst (λ (s : Scope). OnOk c.exec.result (Does s (stm_of c.args.path.now c.args.s.now) c.args.m.now c.exec.new.m)) c.outermost-scope.ensures.scope c.exec.ensures.does

pub returns-clause-machine : goal.returns-clause-machine
returns-clause-machine c = subst (λ (s : Scope). OnOk c.exec.result (IsMachine s.names c.exec.new.m)) c.outermost-scope.ensures.scope c.exec.ensures.machine
