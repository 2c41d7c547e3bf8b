use Rattle.std.proofs.Common.{◌≡◌, take, map}
use Rattle.vl_sites.specs.Seen.{site_of}
use Rattle.vl_check.specs.Tables.{calls_in}
use Rattle.vl_check.proofs.calls_calls.calls_of.Given as goal

abbrev pub invariant-loop-site : goal.invariant-loop-site
invariant-loop-site l = l.calls.items ≡ calls_in l.count (map site_of (take l.site-index l.site-items))
