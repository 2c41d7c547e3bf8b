use Rattle.std.proofs.Common.{map}
use Rattle.vl_design.specs.Trees.{arg_of, flat_of}
use Rattle.fmt_text.specs.Modes.{reading_of}
use Rattle.cell_emit.specs.cell_form.specs.Views.{list_of}
use Rattle.cell_emit.specs.Envs.{env_of}
use Rattle.cell_calls.proofs.Reading.{Formatted}
use Rattle.cell_calls.proofs.format.push_format.Given as goal

abbrev pub invariant-loop-byte : goal.invariant-loop-byte
invariant-loop-byte l =
    Formatted (flat_of l.site.design.now) l.site.path.now l.text (map arg_of l.args) (env_of l.site.at.now) (reading_of l.mode) l.byte-index l.count l.initial.display l.display (list_of l.initial.cells) (list_of l.cells)
