use Rattle.std.proofs.Common.{◌≡◌, ◌<◌, ℕ, length, get_or, drop, map, false, true}
use Rattle.std.specs.Prelude.{if◌then◌else◌}
use Rattle.std.specs.List.{list_any}
use Rattle.vl_sites.specs.Seen.{site_of}
use Rattle.vl_check.specs.Writers.{assigns}
use Rattle.vl_check.proofs.marks.put_assigned.Given as goal

abbrev pub invariant-loop-site : goal.invariant-loop-site
invariant-loop-site l = record {
  long : length l.marks.items ≡ length l.initial.marks.items;
  left : (k : ℕ) → k < length l.initial.marks.items → (if list_any (λ s. assigns k s.what) (map site_of (drop l.site-index l.all)) then true else get_or l.marks.items k false)
      ≡ (if list_any (λ s. assigns k s.what) (map site_of l.all) then true else get_or l.initial.marks.items k false);
}
