use Rattle.std.proofs.Common.{[], refl, sym, ◌∙◌, arith}
use Rattle.fab_bay.proofs.Finding.{serves-first}
use Rattle.fab_bay.proofs.Going.{none}
use Rattle.fab_bay.proofs.Near.{none-then}
use Rattle.fab_bay.proofs.Rounds.{both, ready-on}
use Rattle.fab_bay.proofs.noted.NotedCore.serve_to_call.Goals as goal

pub saves-init : goal.saves-init
saves-init c = record { ready = c.requires.ready; near = λ most w. w; rests = refl; goes = λ out. none c.args.number c.args.self.now out; still = refl }

pub serve-requires-clause-waits : goal.serve-requires-clause-waits
serve-requires-clause-waits c = λ f n. serves-first f c.in-Some.tenant n.core.once (sym c.in-Some.is ∙ c.next_trap.ensures f n.core)

pub saves-preserved : goal.saves-preserved
saves-preserved c = record {
  ready = ready-on c.args.number 0 c.saves.self c.serve.new.self c.saves.invariant.ready (c.serve.ensures.goes []) c.serve.ensures.room;
  near = none-then c.args.self.now c.saves.self c.serve.new.self c.saves.invariant.near c.serve.ensures.near;
  rests = c.serve.ensures.rests ∙ c.saves.invariant.rests;
  goes = both c.args.number 0 0 0 c.args.self.now c.saves.self c.serve.new.self c.saves.invariant.goes c.serve.ensures.goes (omega arith);
  still = (c.in-Ok-true.ensures.save cc).0 ∙ c.saves.invariant.still;
}

pub returns-in-Ok-false-clause-ready : goal.returns-in-Ok-false-clause-ready
returns-in-Ok-false-clause-ready c = ready-on c.args.number 0 c.saves.self c.serve.new.self c.saves.invariant.ready (c.serve.ensures.goes []) c.serve.ensures.room

pub returns-in-Ok-false-clause-goes : goal.returns-in-Ok-false-clause-goes
returns-in-Ok-false-clause-goes c = both c.args.number 0 0 0 c.args.self.now c.saves.self c.serve.new.self c.saves.invariant.goes c.serve.ensures.goes (omega arith)

pub returns-in-Ok-false-clause-near : goal.returns-in-Ok-false-clause-near
returns-in-Ok-false-clause-near c = none-then c.args.self.now c.saves.self c.serve.new.self c.saves.invariant.near c.serve.ensures.near

pub returns-in-Err-clause-ready : goal.returns-in-Err-clause-ready
returns-in-Err-clause-ready c = ready-on c.args.number 0 c.saves.self c.serve.new.self c.saves.invariant.ready (c.serve.ensures.goes []) c.serve.ensures.room

pub returns-in-Err-clause-goes : goal.returns-in-Err-clause-goes
returns-in-Err-clause-goes c = both c.args.number 0 0 0 c.args.self.now c.saves.self c.serve.new.self c.saves.invariant.goes c.serve.ensures.goes (omega arith)

pub returns-in-Err-clause-near : goal.returns-in-Err-clause-near
returns-in-Err-clause-near c = none-then c.args.self.now c.saves.self c.serve.new.self c.saves.invariant.near c.serve.ensures.near

pub returns-in-Ok-false-clause-rests : goal.returns-in-Ok-false-clause-rests
returns-in-Ok-false-clause-rests c = c.serve.ensures.rests ∙ c.saves.invariant.rests

pub returns-in-Err-clause-rests : goal.returns-in-Err-clause-rests
returns-in-Err-clause-rests c = c.serve.ensures.rests ∙ c.saves.invariant.rests
