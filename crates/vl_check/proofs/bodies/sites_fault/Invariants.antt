use Rattle.std.proofs.Common.{◌≡◌, drop, map}
use Rattle.std.specs.Prelude.{flat_map}
use Rattle.vl_design.specs.Stops.{earliest}
use Rattle.vl_sites.specs.Seen.{site_of}
use Rattle.vl_check.specs.Rules.{site_faults}
use Rattle.vl_check.specs.Seen.{setting_of}
use Rattle.vl_check.proofs.bodies.sites_fault.Given as goal

abbrev pub invariant-loop-site : goal.invariant-loop-site
invariant-loop-site l = earliest l.first (flat_map (site_faults (setting_of l.s)) (map site_of (drop l.site-index l.all))) ≡ earliest l.initial.first (flat_map (site_faults (setting_of l.s)) (map site_of l.all))
