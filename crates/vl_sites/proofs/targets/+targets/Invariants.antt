use Rattle.std.proofs.Common.{◌≡◌, drop}
use Rattle.std.specs.Prelude.{◌++◌, map}
use Rattle.vl_sites.specs.Lists.{targets_of}
use Rattle.vl_sites.specs.Seen.{site_of}
use Rattle.vl_sites.specs.Sites.{targets_sites}
use Rattle.vl_sites.proofs.targets.+targets.Given as goal

abbrev pub invariant-targets-loop-t : goal.invariant-targets-loop-t
invariant-targets-loop-t l = map site_of l.sites.items ++ targets_sites l.later (targets_of (drop l.t-index l.ts)) ≡ map site_of l.initial.sites.items ++ targets_sites l.later (targets_of l.ts)
