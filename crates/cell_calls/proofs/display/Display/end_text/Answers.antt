use Rattle.std.proofs.Common.{◌∙◌, sym}
use Rattle.cell_calls.proofs.Extending.{extends-empty, empty-list}
use Rattle.cell_calls.proofs.display.Display.end_text.Goals as goal

pub returns-then-is_empty-clause-parts : goal.returns-then-is_empty-clause-parts
returns-then-is_empty-clause-parts c names =
    let text = c.args.self.now.text.items in
    rw (empty-list text c.as_slice.result.now c.as_slice.ensures.value (sym c.is_empty.ensures ∙ c.if-is_empty.true)) (extends-empty names c.args.self.now.parts.items)
