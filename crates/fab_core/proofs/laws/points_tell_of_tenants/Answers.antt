use Rattle.fab_core.proofs.Arriving.{parcel_is, parcel_number, parcel_tenant}
use Rattle.fab_core.proofs.Parcels.{boundary_is, ended_is, free_is, moved_is, origin_is, stopped_is, tick_is, ticks_is}
use Rattle.fab_core.proofs.laws.points_tell_of_tenants.Goals as goal

pub returns-clause-parcel : goal.returns-clause-parcel
returns-clause-parcel c = λ q p h. (parcel_is q p h, parcel_tenant q p h)

pub returns-clause-number : goal.returns-clause-number
returns-clause-number c = λ q p h. parcel_number q p h

pub returns-clause-origin : goal.returns-clause-origin
returns-clause-origin c = origin_is

pub returns-clause-ticks : goal.returns-clause-ticks
returns-clause-ticks c = λ q p h. (ticks_is q p h, tick_is q p h)

pub returns-clause-free : goal.returns-clause-free
returns-clause-free c = free_is

pub returns-clause-moved : goal.returns-clause-moved
returns-clause-moved c = moved_is

pub returns-clause-stopped : goal.returns-clause-stopped
returns-clause-stopped c = stopped_is

pub returns-clause-boundary : goal.returns-clause-boundary
returns-clause-boundary c = boundary_is c.a_run_at_rest_is_at_a_boundary.ensures.boundary

pub returns-clause-ended : goal.returns-clause-ended
returns-clause-ended c = ended_is c.a_run_at_rest_is_at_a_boundary.ensures.boundary c.has_one_state_at_a_boundary.ensures
