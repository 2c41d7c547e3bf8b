use Rattle.std.proofs.Common.{◌≡◌, ◌++◌, take}
use Rattle.std.specs.List.{flat_map}
use Rattle.host_text.specs.Report.{stay_line}
use Rattle.host_text.proofs.report.push_stays.Given as goal

abbrev pub invariant-loop-stay : goal.invariant-loop-stay
invariant-loop-stay l = l.text.items ≡ l.initial.text.items ++ flat_map (stay_line l.block.name) (take l.stay-index l.stay-items)
