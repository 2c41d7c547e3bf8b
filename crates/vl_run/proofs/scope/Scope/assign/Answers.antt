use Rattle.vl_design.specs.Trees.{exp_of, target_of}
use Rattle.vl_eval.specs.Rooms.{names_of}
use Rattle.vl_run.specs.Scopes.{scope_of}
use Rattle.vl_run.proofs.Assigning.{does-set, updates-fine}
use Rattle.vl_run.proofs.scope.Scope.assign.Goals as goal

pub returns-clause-does : goal.returns-clause-does
returns-clause-does g c =
    let updates = rw (c.new-updates.ensures.items, c.sample.ensures) at c.in_ok-push_assignment.ensures.updates in
    let written = rw c.deref.ensures.value at c.write_all.ensures in
    does-set (scope_of c.args.self.now) (target_of c.args.target.now) (exp_of c.args.source.now) c.args.m.now c.push_assignment.new.updates.items c.write_all.new.values c.if-m.false updates written

pub returns-clause-machine : goal.returns-clause-machine
returns-clause-machine g c =
    let written = rw c.deref.ensures.value at c.write_all.ensures in
    record {
      fine = updates-fine (names_of c.args.self.now.room) c.args.m.now.values.items c.write_all.new.values.items c.push_assignment.new.updates.items c.requires.machine.fine written;
      later = c.requires.machine.later;
    }
