use Rattle.std.proofs.Common.{◌≡◌, ◌*◌}
use Rattle.vl_design.specs.Value.{repeated}
use Rattle.vl_bits.proofs.values.repeated.Given as goal

abbrev pub invariant-loop-i : goal.invariant-loop-i
invariant-loop-i l = record {
  width : l.all.width ≡ l._i * l.part.width;
  value : l.all.value ≡ repeated l._i l.part.width l.part.value;
}
