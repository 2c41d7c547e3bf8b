use Rattle.std.proofs.Common.{◌≡◌, ◌+◌, ◌≤◌, [], drop}
use Rattle.vl_design.specs.Formats.{format_pieces, taken}
use Rattle.vl_design.specs.FormatReading.{reading_of}
use Rattle.vl_design.specs.Formats.{items_in}
use Rattle.vl_design.proofs.formats.items_in.Given as goal

-- with what the rest takes, the count is the whole's
abbrev pub invariant-loop-byte : goal.invariant-loop-byte
invariant-loop-byte l = record {
  within : l.count ≤ l.byte-index;
  rest : l.count + taken (format_pieces [] (reading_of l.mode) (drop l.byte-index l.text) []) ≡ items_in l.text;
}
