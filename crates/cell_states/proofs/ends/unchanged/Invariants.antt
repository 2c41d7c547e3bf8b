use Rattle.std.proofs.Common.{◌≡◌, ◌≤◌, length, take}
use Rattle.cell_states.proofs.ends.unchanged.Given as goal

abbrev pub invariant-loop-number : goal.invariant-loop-number
invariant-loop-number l = record {
  same : take l.number l.read ≡ take l.number l.sites;
  there : l.number ≤ length l.sites;
}
