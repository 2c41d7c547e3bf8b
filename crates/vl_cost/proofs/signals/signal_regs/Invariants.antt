use Rattle.std.proofs.Common.{◌≡◌, ◌≤◌, ◌+◌, drop}
use Rattle.std.specs.Prelude.{sum_by}
use Rattle.vl_design.specs.Cost.{row_regs}
use Rattle.vl_design.specs.Rows.{row_of}
use Rattle.vl_design.specs.Costs.{saturated}
use Rattle.vl_cost.proofs.signals.signal_regs.Given as goal

abbrev pub invariant-loop-signal : goal.invariant-loop-signal
invariant-loop-signal l = record {
  small : l.all ≤ 18446744073709551615;
  rest : saturated (l.all + sum_by (λ x. row_regs x.kind (row_of x).width) (drop l.signal-index l.signals)) ≡ saturated (sum_by (λ x. row_regs x.kind (row_of x).width) l.signals);
}
