use Rattle.std.proofs.Common.{◌≡◌, take}
use Rattle.std.specs.Prelude.{flat_map}
use Rattle.host_demo.specs.Summary.{line}
use Rattle.host_demo.proofs.summary.summary.Given as goal

abbrev pub invariant-loop-block : goal.invariant-loop-block
invariant-loop-block l = l.text.items ≡ flat_map line (take l.block-index l.blocks)
