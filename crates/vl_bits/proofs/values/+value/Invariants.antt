use Rattle.std.proofs.Common.{◌≡◌, ◌+◌, drop}
use Rattle.std.specs.Prelude.{false}
use Rattle.vl_base.specs.Selects.{appended}
use Rattle.vl_design.specs.Nodes.{some_have}
use Rattle.vl_design.specs.Width.{total_width}
use Rattle.vl_design.specs.Value.{side_by_side}
use Rattle.vl_design.specs.Sound.{AreSound}
use Rattle.vl_design.specs.Trees.{exps_of}
use Rattle.vl_paths.specs.Bits.{varies, closed, nothing}
use Rattle.vl_bits.specs.Seen.{names_seen}
use Rattle.vl_bits.proofs.values.+value.Given as goal

abbrev pub invariant-side_by_side-loop-e : goal.invariant-side_by_side-loop-e
invariant-side_by_side-loop-e l = record {
  constant : some_have varies (exps_of (drop l.e-index l.rest)) ≡ false;
  sound : AreSound (names_seen l.m) (exps_of (drop l.e-index l.rest));
  width : l.all.width + total_width (names_seen l.m) (exps_of (drop l.e-index l.rest)) ≡ total_width (names_seen l.m) (exps_of l.es);
  value : appended l.all.value (total_width (names_seen l.m) (exps_of (drop l.e-index l.rest))) (side_by_side (closed (names_seen l.m)) nothing (exps_of (drop l.e-index l.rest)))
      ≡ side_by_side (closed (names_seen l.m)) nothing (exps_of l.es);
}
