use Rattle.std.proofs.Common.{◌≡◌, [], map, take, drop}
use Rattle.host_text.specs.Drafts.{drafted, IsKept}
use Rattle.host_text.specs.Reading.{script_of, first_fault}
use Rattle.host_text.proofs.read.add_lines.Given as goal

-- what the first lines declare, none of which has a cause
abbrev pub invariant-loop-i : goal.invariant-loop-i
invariant-loop-i l = record {
  kept : IsKept l.reading;
  script : drafted l.reading ≡ script_of (take l.i (map (λ x. x.now) l.lines));
  fault : first_fault [] (map (λ x. x.now) l.lines) ≡ first_fault (take l.i (map (λ x. x.now) l.lines)) (drop l.i (map (λ x. x.now) l.lines));
}
