use Rattle.std.proofs.Common.{◌≡◌, ◌≤◌, ◌+◌, map, drop}
use Rattle.vl_design.specs.Cost.{words_regs}
use Rattle.vl_design.specs.Plain.{plain_scope}
use Rattle.vl_design.specs.Rows.{row_of}
use Rattle.vl_limits.specs.Tallies.{targets_of}
use Rattle.vl_design.specs.Costs.{saturated}
use Rattle.vl_cost.proofs.registers.+words.Given as goal

abbrev pub invariant-words_regs-loop-t : goal.invariant-words_regs-loop-t
invariant-words_regs-loop-t l = record {
  small : l.all ≤ 18446744073709551615;
  rest : saturated (l.all + words_regs (plain_scope (map row_of l.signals)) (λ f. 0) (targets_of (drop l.t-index l.ts))) ≡ saturated (words_regs (plain_scope (map row_of l.signals)) (λ f. 0) (targets_of l.ts));
}
