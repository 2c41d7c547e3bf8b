use Rattle.std.proofs.Common.{◌≡◌, drop, map}
use Rattle.std.specs.List.{list_any}
use Rattle.vl_sites.specs.Seen.{site_of}
use Rattle.vl_check.specs.Told.{taken_by}
use Rattle.vl_check.proofs.writers.is_rival.Given as goal

abbrev pub invariant-loop-site : goal.invariant-loop-site
invariant-loop-site l = list_any (λ s. taken_by l.writers l.signals l.kind s.what) (map site_of (drop l.site-index l.all)) ≡ list_any (λ s. taken_by l.writers l.signals l.kind s.what) (map site_of l.all)
