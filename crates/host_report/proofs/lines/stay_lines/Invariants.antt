use Rattle.std.proofs.Common.{◌≡◌, map, take}
use Rattle.host_files.specs.host_form.specs.Reports.{stay_of}
use Rattle.host_report.specs.Told.{visit_of}
use Rattle.host_report.proofs.lines.stay_lines.Given as goal

abbrev pub invariant-loop-stay : goal.invariant-loop-stay
invariant-loop-stay l = l.lines.items ≡ map (stay_of l.script) (map visit_of (take l.stay-index l.stays))
