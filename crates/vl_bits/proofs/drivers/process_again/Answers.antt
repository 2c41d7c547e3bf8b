use Rattle.std.proofs.Common.{map, subst, sym, ap, ◌∙◌, List}
use Rattle.std.specs.Prelude.{All}
use Rattle.vl_design.specs.Sound.{IsSoundTarget}
use Rattle.vl_design.specs.Syntax.{Target}
use Rattle.vl_bits.specs.Seen.{names_seen}
use Rattle.vl_bits.specs.SeenOfDrivers.{leaf_of}
use Rattle.vl_bits.specs.declared.leaves.Leaf.{Leaf}
use Rattle.vl_bits.proofs.Sounds.{driven-sound}
use Rattle.vl_bits.proofs.drivers.process_again.Goals as goal

pub leaves_again-requires-clause-sound : goal.leaves_again-requires-clause-sound
leaves_again-requires-clause-sound c =
    subst (λ (zs : List Target). All (IsSoundTarget (names_seen c.args.m.now)) zs) (sym (ap (λ (zs : List Leaf). map leaf_of zs) c.as_slice.ensures.value ∙ c.in_ok-all.ensures)) (driven-sound (names_seen c.args.m.now) c.args.a.now c.requires.sound)
