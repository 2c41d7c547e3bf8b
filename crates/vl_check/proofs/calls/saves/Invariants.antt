use Rattle.std.proofs.Common.{◌≡◌, take, map}
use Rattle.std.specs.Prelude.{flat_map}
use Rattle.vl_sites.specs.Seen.{site_of}
use Rattle.vl_check.specs.Saves.{save_at}
use Rattle.vl_check.specs.SeenOfSaves.{save_of}
use Rattle.vl_check.proofs.calls.saves.Given as goal

abbrev pub invariant-loop-site : goal.invariant-loop-site
invariant-loop-site l = map save_of l.calls.items ≡ flat_map (λ s. save_at s.at s.what) (map site_of (take l.site-index l.all))
