use Rattle.std.proofs.Common.{[], ◌∷◌, arith}
use Rattle.fab_bay.proofs.Near.{none-then}
use Rattle.fab_bay.proofs.Rounds.{onward, ready-on, ready-out}
use Rattle.fab_bay.proofs.Staying.{has-there}
use Rattle.fab_bay.proofs.noted.NotedCore.take_at_rest.Goals as goal

pub take_out-requires-clause-there : goal.take_out-requires-clause-there
take_out-requires-clause-there c = λ f n. has-there c.args.self.now f c.args.tenant n c.requires.there

pub returns-in-Ok-clause-near : goal.returns-in-Ok-clause-near
returns-in-Ok-clause-near c = none-then c.args.self.now c.take_out.new.self c.rebuild_at_rest.new.self c.take_out.ensures.near c.rebuild_at_rest.ensures.near

pub returns-in-Err-clause-near : goal.returns-in-Err-clause-near
returns-in-Err-clause-near c = c.take_out.ensures.near

pub rebuild_at_rest-requires : goal.rebuild_at_rest-requires
rebuild_at_rest-requires c = record {
  ready = ready-out c.args.number 0 c.args.self.now c.take_out.new.self (c.in-Ok.out ∷ []) c.requires.ready (c.in-Ok.ensures.goes []) c.take_out.ensures.room;
}

pub returns-in-Ok-clause-found : goal.returns-in-Ok-clause-found
returns-in-Ok-clause-found c =
    let o = c.in-Ok.out ∷ [] in (
      c.in-Ok.ensures.number,
      0,
      onward c.args.number 0 0 0 c.args.self.now c.take_out.new.self c.rebuild_at_rest.new.self [] o o (c.in-Ok.ensures.goes []) (c.rebuild_at_rest.ensures.goes o) (omega arith),
      c.in-Ok.ensures.flag,
      c.in-Ok.ensures.withdrawn,
      c.in-Ok.ensures.within,
    )

pub returns-in-Err-clause-ready : goal.returns-in-Err-clause-ready
returns-in-Err-clause-ready c = ready-on c.args.number 0 c.args.self.now c.take_out.new.self c.requires.ready (c.in-Err.ensures.err []) c.take_out.ensures.room

pub returns-in-Err-clause-found : goal.returns-in-Err-clause-found
returns-in-Err-clause-found c = (0, c.in-Err.ensures.err [])
