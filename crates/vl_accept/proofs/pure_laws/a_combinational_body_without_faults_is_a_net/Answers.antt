use Rattle.vl_check.specs.vl_design.specs.Plainly as plain
use Rattle.vl_unroll.specs.vl_loops.specs.Unroll.{unrolled}
use Rattle.vl_unroll.specs.vl_loops.proofs.Bare.{bare}
use Rattle.vl_accept.proofs.Pure.{pure, unrolled_pure, pure_net, pure_quiet, pure_timeless}
use Rattle.vl_accept.proofs.Faults.{body_impure}
use Rattle.vl_accept.proofs.pure_laws.a_combinational_body_without_faults_is_a_net.Goals as goal

pub returns-clause-net : goal.returns-clause-net
returns-clause-net c = λ b scope is_memory path a e role none timed sound one.
    pure_net scope.names is_memory one (unrolled scope (plain.stm path a) e) (unrolled_pure scope (plain.stm path a) (pure path a (body_impure b a role none) timed) e) (bare scope (plain.stm path a) e) sound

pub returns-clause-quiet : goal.returns-clause-quiet
returns-clause-quiet c = λ b scope path a e role none timed.
    pure_quiet (unrolled scope (plain.stm path a) e) (unrolled_pure scope (plain.stm path a) (pure path a (body_impure b a role none) timed) e) (bare scope (plain.stm path a) e)

pub returns-clause-timeless : goal.returns-clause-timeless
returns-clause-timeless c = λ b scope path a e role none timed.
    pure_timeless (unrolled scope (plain.stm path a) e) (unrolled_pure scope (plain.stm path a) (pure path a (body_impure b a role none) timed) e) (bare scope (plain.stm path a) e)
