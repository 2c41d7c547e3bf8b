use Rattle.std.proofs.Common.{◌≡◌, ◌==◌, drop, map}
use Rattle.std.specs.List.{list_any}
use Rattle.vl_sites.specs.Seen.{site_of}
use Rattle.vl_check.specs.Rules.{sets}
use Rattle.vl_check.proofs.headers.sets_in.Given as goal

abbrev pub invariant-loop-site : goal.invariant-loop-site
invariant-loop-site l = list_any (λ s. sets (λ j. j == l.variable) s.what) (map site_of (drop l.site-index l.all)) ≡ list_any (λ s. sets (λ j. j == l.variable) s.what) (map site_of l.all)
