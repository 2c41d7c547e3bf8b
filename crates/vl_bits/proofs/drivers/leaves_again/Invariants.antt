use Rattle.std.proofs.Common.{◌≡◌, true, length, map, take}
use Rattle.std.specs.Prelude.{◌||◌, ◌↔◌}
use Rattle.vl_paths.specs.Bits.{Bit}
use Rattle.vl_bits.specs.Seen.{names_seen}
use Rattle.vl_bits.specs.Masks.{in_masks}
use Rattle.vl_design.specs.Firsts.{Somewhere}
use Rattle.vl_bits.specs.Drivers.{some_drives}
use Rattle.vl_bits.specs.SeenOfDrivers.{leaf_of, IsAgainIn}
use Rattle.vl_bits.proofs.drivers.leaves_again.Given as goal

abbrev pub invariant-loop-leaf : goal.invariant-loop-leaf
invariant-loop-leaf l = record {
  long : length l.known.items ≡ length l.fn.known.items;
  again : (l.again ≡ true) ↔ Somewhere (IsAgainIn l.m.signals.now (names_seen l.m) (in_masks l.fn.known.items)) (map leaf_of (take l.leaf-index l.ts));
  known : (b : Bit) → in_masks l.known.items b ≡ (in_masks l.fn.known.items b || some_drives (names_seen l.m) (map leaf_of (take l.leaf-index l.ts)) b);
}
