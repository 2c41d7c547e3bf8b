use Rattle.std.proofs.Common.{refl, ◌∙◌, arith}
use Rattle.fab_bay.proofs.Going.{none}
use Rattle.fab_bay.proofs.Rounds.{both}
use Rattle.fab_bay.proofs.noted.NotedCore.serve_all.Goals as goal

pub calls-init : goal.calls-init
calls-init c = record { ready = c.requires.ready; goes = λ out. none c.args.number c.args.self.now out; rests = refl }

pub calls-preserved : goal.calls-preserved
calls-preserved c = record {
  ready = c.serve_to_call.ensures.ready;
  goes = both c.args.number 0 0 0 c.args.self.now c.calls.self c.serve_to_call.new.self c.calls.invariant.goes c.serve_to_call.ensures.goes (omega arith);
  rests = c.serve_to_call.ensures.rests ∙ c.calls.invariant.rests;
}

pub returns-in-Ok-false-clause-goes : goal.returns-in-Ok-false-clause-goes
returns-in-Ok-false-clause-goes c = both c.args.number 0 0 0 c.args.self.now c.calls.self c.serve_to_call.new.self c.calls.invariant.goes c.serve_to_call.ensures.goes (omega arith)

pub returns-in-Ok-false-clause-quiet : goal.returns-in-Ok-false-clause-quiet
returns-in-Ok-false-clause-quiet c = c.in-Ok-false.ensures.quiet cc

pub returns-in-Ok-false-clause-rests : goal.returns-in-Ok-false-clause-rests
returns-in-Ok-false-clause-rests c = c.serve_to_call.ensures.rests ∙ c.calls.invariant.rests

pub returns-in-Err-clause-goes : goal.returns-in-Err-clause-goes
returns-in-Err-clause-goes c = both c.args.number 0 0 0 c.args.self.now c.calls.self c.serve_to_call.new.self c.calls.invariant.goes c.serve_to_call.ensures.goes (omega arith)

pub returns-in-Err-clause-rests : goal.returns-in-Err-clause-rests
returns-in-Err-clause-rests c = c.serve_to_call.ensures.rests ∙ c.calls.invariant.rests
