use Rattle.std.proofs.Common.{◌≡◌, ◌++◌, take}
use Rattle.std.specs.List.{flat_map}
use Rattle.host_text.specs.Report.{block}
use Rattle.host_text.proofs.report.push_blocks.Given as goal

abbrev pub invariant-loop-block : goal.invariant-loop-block
invariant-loop-block l = l.text.items ≡ l.initial.text.items ++ flat_map block (take l.block-index l.blocks)
