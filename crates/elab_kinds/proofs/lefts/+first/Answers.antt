use Rattle.std.proofs.Common.{◌∙◌}
use Rattle.elab_kinds.proofs.Trees.{first-of-none, first-of-some}
use Rattle.elab_kinds.proofs.lefts.+first.Goals as goal

pub returns-in-empty : goal.returns-in-empty
returns-in-empty t c =
    first-of-none c.args.l.now c.in-List.field-0 c.in-List.parts c.as_slice-in-List.result.now c.in-List.is c.as_slice-in-List.ensures.value c.in-empty.len_below

pub returns-in-len1-up : goal.returns-in-len1-up
returns-in-len1-up t c =
    c.first_name.ensures
    ∙ first-of-some c.args.l.now c.in-List.field-0 c.in-List.parts c.as_slice-in-List.result.now c.first-item.result c.in-List.is c.as_slice-in-List.ensures.value
    c.in-len1-up.len_at_least c.first-item.is
