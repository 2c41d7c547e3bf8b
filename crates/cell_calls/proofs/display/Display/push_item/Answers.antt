use Rattle.std.proofs.Common.{[], ◌∷◌, ◌++◌}
use Rattle.vl_design.specs.Syntax.{Shown}
use Rattle.cell_emit.specs.cell_form.specs.declared.table.FormatPart.TheVariants as part
use Rattle.cell_calls.specs.Displays.{parts_in}
use Rattle.cell_calls.proofs.Extending.{extends-then, extends-item}
use Rattle.cell_calls.proofs.display.Display.push_item.Goals as goal

pub returns-clause-parts : goal.returns-clause-parts
returns-clause-parts c names format e f wide sign =
    let own = c.args.own in
    let ended = c.end_text.new.self.parts.items in
    let item = extends-item names ended c.args.letter own.width c.args.least own.signed format e f wide sign in
    rw (c.in_ok-push.ensures.items, c.in_ok-end_text.ensures.text)
    (extends-then names [] (Shown format e ∷ []) (parts_in c.args.self.now) ended ((ended ++ part.Item c.args.letter c.args.least own.width own.signed ∷ []) ++ part.Lit [] ∷ [])
    (c.in_ok-end_text.ensures.parts names) item)
