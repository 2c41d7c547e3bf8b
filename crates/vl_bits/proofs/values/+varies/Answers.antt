use Rattle.std.proofs.Common.{◌≡◌, sym, ap, ◌∙◌}
use Rattle.vl_design.specs.Nodes as nodes
use Rattle.vl_paths.specs.Bits.{varies}
use Rattle.vl_bits.proofs.Rows.{cat-is, rep-is}
use Rattle.vl_bits.proofs.values.+varies.Goals as goal

pub varies-returns-in-Cat : goal.varies-returns-in-Cat
varies-returns-in-Cat t c = c.some_vary.ensures ∙ sym (ap (nodes.has varies) (cat-is c.args.e.now c.in-Cat.parts c.as_slice.result.now c.in-Cat.is c.as_slice.ensures.value))

pub varies-returns-in-Rep : goal.varies-returns-in-Rep
varies-returns-in-Rep t c = c.some_vary-in-Rep.ensures ∙ sym (ap (nodes.has varies) (rep-is c.args.e.now c.in-Rep.field-0 c.in-Rep.parts c.as_slice-in-Rep.result.now c.in-Rep.is c.as_slice-in-Rep.ensures.value))
