use Rattle.std.proofs.Common.{sym}
use Rattle.std.specs.List.{list_any}
use Rattle.elab_kinds.specs.Names.{nothing}
use Rattle.elab_kinds.specs.Parts.{target_writes}
use Rattle.elab_kinds.proofs.Adding.{ends-one}
use Rattle.elab_kinds.proofs.Trees.{list-writes}
use Rattle.elab_kinds.proofs.lefts.+left_writes.Goals as goal

pub add_left_writes-returns-in-List : goal.add_left_writes-returns-in-List
add_left_writes-returns-in-List t c =
    ends-one c.add_part_writes.result c.args.names.now c.add_part_writes.new.names nothing (λ s ls. list_any (target_writes s) ls) target_writes c.as_slice-in-List.ensures.value c.in-List.is
    (λ s. sym (list-writes s c.in-List.field-0 c.in-List.parts)) c.add_part_writes.ensures
