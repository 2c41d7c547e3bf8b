use Rattle.std.proofs.Common.{◌≡◌, ◌++◌, map, length}
use Rattle.host_text.specs.Drafts.{tenant_line}
use Rattle.host_text.proofs.draft.all_finished.Given as goal

-- the lines so far, and those of what is left
abbrev pub invariant-drafts : goal.invariant-drafts
invariant-drafts l = l.lines.items ++ map tenant_line l.drafts.items ≡ map tenant_line l.initial.drafts.items

abbrev pub decreases-drafts : goal.decreases-drafts
decreases-drafts l = length l.drafts.items
