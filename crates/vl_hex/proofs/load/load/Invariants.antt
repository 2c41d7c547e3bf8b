use Rattle.std.proofs.Common.{◌≡◌, drop}
use Rattle.vl_design.specs.ReadHex.{HexPosition, steps, loaded, words_read}
use Rattle.vl_hex.specs.Alike.{IsAlike, position_of}
use Rattle.vl_hex.proofs.load.load.Given as goal

-- where the definition reads, which is as the code does; what is still to load leads from here to what the text gives
abbrev pub invariant-loop-byte : goal.invariant-loop-byte
invariant-loop-byte l = record {
  at : HexPosition;
  alike : IsAlike l.memory.width at (position_of l.position);
  loads : loaded l.memory.width l.memory.lowest l.memory.count l.number (steps at (drop l.byte-index l.text)) l.words
      ≡ words_read l.memory.width l.memory.lowest l.memory.count l.text l.initial.words;
}
