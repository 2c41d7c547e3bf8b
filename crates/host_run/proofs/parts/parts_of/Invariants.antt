use Rattle.std.proofs.Common.{◌≡◌, ◌++◌, length, map}
use Rattle.host_run.proofs.parts.parts_of.Given as goal

abbrev pub invariant-loop-ready : goal.invariant-loop-ready
invariant-loop-ready l = record {
  origins : map (λ r. r.origin) l.readies.items ++ l.parts.origins.items ≡ map (λ r. r.origin) l.fn.readies.items;
  fabrics : map (λ r. r.fabric) l.readies.items ++ l.parts.fabrics.items ≡ map (λ r. r.fabric) l.fn.readies.items;
}

abbrev pub decreases-loop-ready : goal.decreases-loop-ready
decreases-loop-ready l = length l.readies.items
