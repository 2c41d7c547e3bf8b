use Rattle.std.proofs.Common.{◌≡◌, drop, map, get_or, false}
use Rattle.std.specs.Prelude.{◌&&◌, not}
use Rattle.std.specs.List.{list_any}
use Rattle.vl_sites.specs.Seen.{site_of}
use Rattle.vl_check.specs.Bodies.{kind_is}
use Rattle.vl_check.specs.Rules.{reads}
use Rattle.vl_check.specs.Triggers.{has_value}
use Rattle.vl_check.proofs.triggers.reads_unmarked.Given as goal

abbrev pub invariant-loop-site : goal.invariant-loop-site
invariant-loop-site l =
    list_any (λ s. reads (λ k. kind_is has_value l.signals k && not (get_or l.marks k false)) s.what) (map site_of (drop l.site-index l.all))
    ≡ list_any (λ s. reads (λ k. kind_is has_value l.signals k && not (get_or l.marks k false)) s.what) (map site_of l.all)
