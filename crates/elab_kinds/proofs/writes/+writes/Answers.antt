use Rattle.std.proofs.Common.{sym}
use Rattle.std.specs.List.{list_any}
use Rattle.elab_kinds.specs.Names.{nothing}
use Rattle.elab_kinds.specs.Parts.{writes_in, case_writes}
use Rattle.elab_kinds.proofs.Adding.{ends-one}
use Rattle.elab_kinds.proofs.Trees.{block-writes, case-writes}
use Rattle.elab_kinds.proofs.writes.+writes.Goals as goal

pub add_writes-returns-in-Block : goal.add_writes-returns-in-Block
add_writes-returns-in-Block t c =
    ends-one c.add_all_writes.result c.args.names.now c.add_all_writes.new.names nothing (λ s as'. list_any (writes_in s) as') writes_in c.as_slice.ensures.value c.in-Block.is
    (λ s. sym (block-writes s c.in-Block.field-0 c.in-Block.parts)) c.add_all_writes.ensures

pub add_writes-returns-in-Case : goal.add_writes-returns-in-Case
add_writes-returns-in-Case t c =
    ends-one c.add_case_writes.result c.args.names.now c.add_case_writes.new.names nothing (λ s as'. list_any (case_writes s) as') writes_in c.as_slice-in-Case.ensures.value c.in-Case.is
    (λ s. sym (case-writes s c.in-Case.field-0 c.in-Case.field-1 c.in-Case.field-2 c.in-Case.items)) c.add_case_writes.ensures
