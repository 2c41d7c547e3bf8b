use Rattle.std.proofs.Common.{◌≡◌, drop}
use Rattle.std.specs.Prelude.{◌++◌, map}
use Rattle.vl_design.specs.Seen.{stms_of}
use Rattle.vl_sites.specs.Lists.{items_of}
use Rattle.vl_sites.specs.Seen.{site_of}
use Rattle.vl_sites.specs.Sites.{all_sites, items_sites}
use Rattle.vl_sites.proofs.statements.+statements.Given as goal

abbrev pub invariant-statements-loop-a : goal.invariant-statements-loop-a
invariant-statements-loop-a l = map site_of l.sites.items ++ all_sites (stms_of (drop l.a-index l.list)) ≡ map site_of l.initial.sites.items ++ all_sites (stms_of l.list)

abbrev pub invariant-cases-loop-item : goal.invariant-cases-loop-item
invariant-cases-loop-item l = map site_of l.sites.items ++ items_sites (items_of (drop l.item-index l.items)) ≡ map site_of l.initial.sites.items ++ items_sites (items_of l.items)
