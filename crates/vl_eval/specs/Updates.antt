-- What the program's updates stand for (IEEE 1364-2005, clauses 5.2.1 and 11.3).
use Rattle.std.specs.Prelude.{ℤ}
use Rattle.vl_design.specs.Value.{lowest_bit}
use Rattle.vl_design.specs.State as state
use Rattle.vl_eval.specs.Wholes.{whole_of}
use Rattle.vl_eval.specs.declared.update.Low.{Low}
use Rattle.vl_eval.specs.declared.update.Update.{Update}

-- the number of the lowest bit
abbrev pub low_of : Low → ℤ
low_of l = lowest_bit l.from (whole_of l.index)

abbrev pub update_of : Update → state.Update
update_of u = record { signal = u.signal; word = u.word; low = low_of u.low; width = u.bits.width; value = u.bits.value }
