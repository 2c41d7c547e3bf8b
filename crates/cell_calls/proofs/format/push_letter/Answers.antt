use Rattle.std.proofs.Common.{sym, map}
use Rattle.vl_base.specs.Display.{format_of}
use Rattle.vl_design.specs.Formats.{operand}
use Rattle.vl_design.specs.Trees.{arg_of, flat_of}
use Rattle.vl_design.specs.Width.{names_of}
use Rattle.cell_emit.specs.cell_form.specs.Views.{list_of}
use Rattle.cell_emit.specs.Envs.{env_of}
use Rattle.cell_calls.proofs.Walking.{adds-no-letter, adds-letter, letter-sound}
use Rattle.cell_calls.proofs.format.push_letter.Goals as goal

pub returns-then-not-is_item-clause-adds : goal.returns-then-not-is_item-clause-adds
returns-then-not-is_item-clause-adds c =
    adds-no-letter (flat_of c.args.site.design.now) (env_of c.args.site.at.now) (format_of c.args.letter c.args.least) (operand (map arg_of c.args.args.now)) c.args.display.now (list_of c.args.cells.now) (sym c.if-not-is_item.ensures)

pub operand-requires-clause-sound : goal.operand-requires-clause-sound
operand-requires-clause-sound c =
    letter-sound (names_of (flat_of c.args.site.design.now)) (format_of c.args.letter c.args.least) (operand (map arg_of c.args.args.now)) (sym c.if-not-is_item.ensures) c.requires.sound

pub returns-clause-adds : goal.returns-clause-adds
returns-clause-adds c =
    adds-letter (flat_of c.args.site.design.now) (env_of c.args.site.at.now) c.args.letter c.args.least (operand (map arg_of c.args.args.now)) c.args.display.now c.push_item.new.self (list_of c.args.cells.now) (list_of c.operand.new.cells) c.in_ok-own.own
    (sym c.if-not-is_item.ensures) c.in_ok-own.ensures.gives c.in_ok-push_item.ensures.parts c.in_ok-push_item.ensures.slots
