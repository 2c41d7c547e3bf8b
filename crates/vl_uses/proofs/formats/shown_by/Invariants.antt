use Rattle.std.proofs.Common.{◌≡◌, ◌+◌, ◌≤◌, drop, option_map}
use Rattle.vl_uses.specs.Calls as spec
use Rattle.vl_uses.specs.Walks as w
use Rattle.vl_uses.proofs.formats.shown_by.Given as goal

-- with what the rest shows, the count is the whole's
abbrev pub invariant-loop-byte : goal.invariant-loop-byte
invariant-loop-byte l = record {
  within : l.count ≤ l.byte-index;
  rest : option_map (λ n. l.count + n) (w.shown_from l.mode (drop l.byte-index l.text)) ≡ spec.shown_by l.text;
}
