use Rattle.std.proofs.Common.{arith}
use Rattle.vl_eval.specs.Rooms.{names_of}
use Rattle.vl_run.proofs.Spotting.{spots-named}
use Rattle.vl_run.proofs.scope.Scope.push_assignment.Goals as goal

pub returns-clause-named : goal.returns-clause-named
returns-clause-named g c = λ h.
    let names = names_of c.args.self.now.room in
    let sound = c.in_ok-push_spots.ensures.sound (rw c.new-spots.ensures.items (λ i d l. absurd (omega arith))) in
    c.push_updates.ensures.named names (rw c.deref-2.ensures.value (spots-named names _ sound)) h
