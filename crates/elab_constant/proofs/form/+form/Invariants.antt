use Rattle.std.proofs.Common.{◌≡◌, map, take, min}
use Rattle.elab_plain.specs.vl_flat.specs.Expressions.{total_width}
use Rattle.elab_plain.specs.Seen.{seen}
use Rattle.elab_plain.specs.Listed.{of_list}
use Rattle.elab_constant.specs.Seen.{seen_scope}
use Rattle.elab_constant.proofs.form.+form.Given as goal

abbrev pub invariant-total_width-loop-e : goal.invariant-total_width-loop-e
invariant-total_width-loop-e l = l.total ≡ min 129 (total_width (seen_scope l.scope) (of_list (map seen (take l.e-index l.es))))
