-- What the program's numbers stand for, as plain data.
use Rattle.std.specs.Prelude.{◌++◌, map}
use Rattle.vl_design.specs.Width.{Names}
use Rattle.vl_design.specs.Trees.{row_of, fun_of}
use Rattle.vl_bits.specs.declared.meanings.Meanings.{Meanings}

abbrev pub names_seen : Meanings → Names
names_seen m = record {
  rows = map row_of m.signals.now ++ map row_of m.locals.now;
  signals = map row_of m.signals.now;
  funs = map fun_of m.funcs.now;
}
