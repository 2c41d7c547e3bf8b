use Rattle.std.proofs.Common.{◌≡◌, ◌+◌, drop}
use Rattle.std.specs.Prelude.{false}
use Rattle.vl_design.specs.Nodes.{some_have}
use Rattle.vl_design.specs.Width.{total_width}
use Rattle.vl_design.specs.Sound.{AreSound}
use Rattle.vl_design.specs.Trees.{exps_of}
use Rattle.vl_paths.specs.Bits.{varies}
use Rattle.vl_bits.specs.Seen.{names_seen}
use Rattle.vl_bits.proofs.values.+form.Given as goal

abbrev pub invariant-total_width-loop-e : goal.invariant-total_width-loop-e
invariant-total_width-loop-e l = record {
  constant : some_have varies (exps_of (drop l.e-index l.es)) ≡ false;
  sound : AreSound (names_seen l.m) (exps_of (drop l.e-index l.es));
  total : l.total + total_width (names_seen l.m) (exps_of (drop l.e-index l.es)) ≡ total_width (names_seen l.m) (exps_of l.es);
}
