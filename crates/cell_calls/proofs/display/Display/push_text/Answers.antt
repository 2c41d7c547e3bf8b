use Rattle.cell_calls.proofs.Extending.{extends-text}
use Rattle.cell_calls.proofs.display.Display.push_text.Goals as goal

pub returns-clause-parts : goal.returns-clause-parts
returns-clause-parts c names = rw c.in_ok-extend_from_slice.ensures.items (extends-text names c.args.self.now.parts.items c.args.text.now c.args.self.now.text.items)
