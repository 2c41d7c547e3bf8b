use Rattle.std.proofs.Common.{◌≡◌, ◌≤◌, ◌+◌, ◌*◌, ◌^◌, drop}
use Rattle.host_text.specs.Words.{value}
use Rattle.host_text.proofs.classes.value.Given as goal

abbrev pub invariant-loop-digit : goal.invariant-loop-digit
invariant-loop-digit l = record {
  small : l.number + 23 ≤ 23 * 10 ^ l.digit-index;
  leads : value l.number (drop l.digit-index l.digits) ≡ value 0 l.digits;
}
