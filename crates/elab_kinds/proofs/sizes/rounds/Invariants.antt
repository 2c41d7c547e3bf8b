use Rattle.std.proofs.Common.{◌≡◌, length, map}
use Rattle.elab_plain.specs.SeenItems.{seen_module}
use Rattle.elab_kinds.proofs.Sizing.{Upto}
use Rattle.elab_kinds.proofs.sizes.rounds.Given as goal

abbrev pub invariant-loop-depth : goal.invariant-loop-depth
invariant-loop-depth l = record {
  upto : Upto l.index (map seen_module l.modules) l.rounds.items;
  many : length l.rounds.items ≡ l._depth;
}
