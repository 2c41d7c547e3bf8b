use Rattle.std.proofs.Common.{◌≡◌, drop}
use Rattle.std.specs.Prelude.{◌++◌, map}
use Rattle.vl_design.specs.Seen.{exps_of, args_of}
use Rattle.vl_sites.specs.Seen.{site_of}
use Rattle.vl_sites.specs.Sites.{exps_sites, args_sites}
use Rattle.vl_sites.proofs.expressions.+expressions.Given as goal

abbrev pub invariant-expressions-loop-e : goal.invariant-expressions-loop-e
invariant-expressions-loop-e l = map site_of l.sites.items ++ exps_sites (exps_of (drop l.e-index l.es)) ≡ map site_of l.initial.sites.items ++ exps_sites (exps_of l.es)

abbrev pub invariant-arguments-loop-a : goal.invariant-arguments-loop-a
invariant-arguments-loop-a l = map site_of l.sites.items ++ args_sites (args_of (drop l.a-index l.given)) ≡ map site_of l.initial.sites.items ++ args_sites (args_of l.given)
