use Rattle.std.proofs.Common.{◌≡◌, ℕ, List, drop}
use Rattle.vl_design.specs.Acts.{default_body}
use Rattle.sub_split.specs.Items.{items_of}
use Rattle.sub_split.proofs.calls.default_of.Given as goal

abbrev pub invariant-loop-number : goal.invariant-loop-number
invariant-loop-number l = (path : List ℕ) → default_body (items_of path (drop l.number l.items)) ≡ default_body (items_of path l.items)
