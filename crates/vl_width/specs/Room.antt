-- What the numbers of an expression name.
use Rattle.std.specs.Prelude.{ℕ, ◌++◌, map, All}
use Rattle.vl_design.specs.Width.{Names, input_widths}
use Rattle.vl_design.specs.Trees.{row_of, fun_of}
use Rattle.vl_design.specs.Sound.{IsWidth}
use Rattle.vl_width.specs.declared.room.Room.{Room}

-- the names in a room: the design's signals, the locals behind them, and the design's functions
abbrev pub names_of : Room → Names
names_of room = record {
  rows = map row_of room.signals.now ++ map row_of room.locals.now;
  signals = map row_of room.signals.now;
  funs = map fun_of room.functions.now;
}

-- each input of each function has 1 to 128 bits
abbrev pub HaveInputs : Names → Type 0
HaveInputs names = (f : ℕ) → All IsWidth (input_widths names f)
