use Rattle.std.specs.Arc.{arc_value}
use Rattle.ten_parcel.proofs.Over.{bare, over-ends}
use Rattle.ten_parcel.proofs.laws.a_run_over_in_time_zero_has_ended.Goals as goal

pub returns : goal.returns
returns c = λ x s.
    let b = s.can.begins in
    over-ends x s (c.the_table_of_a_checked_design_can_run.ensures (bare x s) (arc_value x.origin).image.order.items b.checked b.unrolled b.ordered tt)
