use Rattle.std.proofs.Common.{◌≡◌, ◌≤◌, ◌+◌, [], drop}
use Rattle.vl_design.specs.Plainly.{items}
use Rattle.vl_design.specs.Seen as seen
use Rattle.vl_design.specs.Trees.{then_of}
use Rattle.vl_limits.specs.Walks.{items_of}
use Rattle.vl_design.specs.Costs.{saturated}
use Rattle.vl_cost.specs.Walks.{regs_of, item_regs_of, HaveNoLoop, ItemsHaveNoLoop}
use Rattle.vl_cost.proofs.registers.+registers.Given as goal

abbrev pub invariant-stms_regs-loop-a : goal.invariant-stms_regs-loop-a
invariant-stms_regs-loop-a l = record {
  small : l.all ≤ 18446744073709551615;
  loopless : HaveNoLoop (seen.stms_of (drop l.a-index l.parts));
  rest : saturated (l.all + regs_of l.signals (then_of [] (drop l.a-index l.parts))) ≡ saturated (regs_of l.signals (then_of [] l.parts));
}

abbrev pub invariant-items_regs-loop-one : goal.invariant-items_regs-loop-one
invariant-items_regs-loop-one l = record {
  small : l.all ≤ 18446744073709551615;
  loopless : ItemsHaveNoLoop (items_of (drop l.one-index l.given));
  rest : saturated (l.all + item_regs_of l.signals (items [] (items_of (drop l.one-index l.given)))) ≡ saturated (item_regs_of l.signals (items [] (items_of l.given)));
}
