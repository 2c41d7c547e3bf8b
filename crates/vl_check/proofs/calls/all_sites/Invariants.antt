use Rattle.std.proofs.Common.{◌≡◌, take, map}
use Rattle.std.specs.Prelude.{flat_map}
use Rattle.vl_design.specs.Seen.{process_of}
use Rattle.vl_sites.specs.Seen.{site_of}
use Rattle.vl_sites.specs.Sites.{sites}
use Rattle.vl_check.proofs.calls.all_sites.Given as goal

abbrev pub invariant-loop-a : goal.invariant-loop-a
invariant-loop-a l = map site_of l.all.items ≡ flat_map (λ a. sites a.body) (map process_of (take l.a-index l.processes))
