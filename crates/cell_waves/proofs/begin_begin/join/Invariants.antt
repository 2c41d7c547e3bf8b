use Rattle.std.proofs.Common.{◌≡◌, map}
use Rattle.ten_form.specs.vl_design.specs.Trees.{row_of}
use Rattle.cell_waves.proofs.Joining.{Joining}
use Rattle.cell_waves.proofs.begin_begin.join.Given as goal

abbrev pub invariant-loop-number : goal.invariant-loop-number
invariant-loop-number l = record {
  joined : Joining (map row_of l.signals) l.nets.slots.items l.initial.at.slots.items l.at.slots.items l.number;
  first : l.at.first ≡ l.initial.at.first;
  time : l.at.time ≡ l.initial.at.time;
  answer : l.at.answer ≡ l.initial.at.answer;
  here : l.at.here ≡ l.initial.at.here;
  away : l.at.away ≡ l.initial.at.away;
}
