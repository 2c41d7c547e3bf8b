use Rattle.std.proofs.Common.{◌≡◌, ◌<◌, ◌==◌, ℕ, length, get_or, drop, map, false}
use Rattle.std.specs.Prelude.{if◌then◌else◌}
use Rattle.std.specs.List.{list_any}
use Rattle.vl_sites.specs.Seen.{site_of}
use Rattle.vl_check.specs.Rules.{sets}
use Rattle.vl_check.proofs.marks.put_sites.Given as goal

abbrev pub invariant-loop-site : goal.invariant-loop-site
invariant-loop-site l = record {
  long : length l.marks.items ≡ length l.initial.marks.items;
  left : (k : ℕ) → k < length l.initial.marks.items → (if list_any (λ s. sets (λ j. j == k) s.what) (map site_of (drop l.site-index l.all)) then l.mark else get_or l.marks.items k false)
      ≡ (if list_any (λ s. sets (λ j. j == k) s.what) (map site_of l.all) then l.mark else get_or l.initial.marks.items k false);
}
