use Rattle.std.proofs.Common.{map}
use Rattle.vl_design.specs.Formats.{pieces_from}
use Rattle.vl_design.specs.Trees.{arg_of, flat_of}
use Rattle.vl_design.specs.Width.{names_of}
use Rattle.cell_emit.specs.cell_form.specs.Views.{list_of}
use Rattle.cell_emit.specs.Envs.{env_of}
use Rattle.cell_calls.proofs.Calling.{traps-print}
use Rattle.cell_calls.proofs.Walking.{walked-all, pieces-shown}
use Rattle.cell_calls.proofs.call.print.Goals as goal

pub push_arguments-requires-clause-sound : goal.push_arguments-requires-clause-sound
push_arguments-requires-clause-sound c =
    pieces-shown (names_of (flat_of c.args.site.design.now)) (pieces_from c.args.site.path.now 0 (map arg_of c.args.args.now)) c.requires.sound

pub returns-clause-traps : goal.returns-clause-traps
returns-clause-traps c =
    let d = flat_of c.args.site.design.now in
    let at = env_of c.args.site.at.now in
    let pieces = pieces_from c.args.site.path.now 0 (map arg_of c.args.args.now) in
    let a = c.new-display.result in
    let b = c.push_arguments.new.display in
    let old = list_of c.args.cells.now in
    let new = list_of c.push_arguments.new.cells in
    let ended = c.in_ok-end_text.ensures in
    rw (c.from_vec.ensures, c.from_vec-2.ensures)
    (traps-print d at old new pieces c.args.newline a b c.end_text.new.self.parts.items c.end_text.new.self.slots.items c.new-display.ensures.parts c.new-display.ensures.text c.new-display.ensures.slots
    (walked-all d at pieces a b old new c.in_ok-push_arguments.ensures.adds) (ended.parts (names_of d)) ended.slots)
