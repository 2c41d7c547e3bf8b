use Rattle.std.proofs.Common.{◌≡◌, ◌<◌, ◌*◌, ◌^◌}
use Rattle.vl_design.specs.Value.{repeated}
use Rattle.vl_eval.proofs.eval.repeated.Given as goal

abbrev pub invariant-loop-number : goal.invariant-loop-number
invariant-loop-number l = record {
  value : l.all ≡ repeated l.number l.width l.part;
  bits : l.bits ≡ l.number * l.width;
  fits : l.all < 2 ^ l.bits;
}
