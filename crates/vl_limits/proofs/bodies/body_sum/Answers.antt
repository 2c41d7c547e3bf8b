use Rattle.std.proofs.Common.{ℕ, List, sym, ◌∙◌, subst}
use Rattle.vl_loops.specs.Rooms.{rows_of, AreNumbers}
use Rattle.vl_loops.proofs.Zeros.{none-numbers}
use Rattle.vl_limits.proofs.bodies.body_sum.Goals as goal

pub stm_sum-requires-clause-numbers : goal.stm_sum-requires-clause-numbers
stm_sum-requires-clause-numbers c =
    let room = c.args.room.now in
    subst (λ (z : List ℕ). AreNumbers (rows_of room) z) (sym (c.deref_mut.ensures.value ∙ c.in_ok-numbers.ensures)) (none-numbers room.signals.now room.locals.now)
