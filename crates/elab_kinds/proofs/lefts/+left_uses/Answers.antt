use Rattle.std.proofs.Common.{sym}
use Rattle.std.specs.List.{list_any}
use Rattle.std.specs.Str.{bytes_eq}
use Rattle.elab_kinds.specs.Names.{has}
use Rattle.elab_kinds.specs.Parts.{select_uses, target_uses}
use Rattle.elab_kinds.proofs.Adding.{ends-one, ends-two}
use Rattle.elab_kinds.proofs.Trees.{name-uses, list-uses}
use Rattle.elab_kinds.proofs.lefts.+left_uses.Goals as goal

pub add_left_uses-returns-in_ok-add_shown-in-Name : goal.add_left_uses-returns-in_ok-add_shown-in-Name
add_left_uses-returns-in_ok-add_shown-in-Name t c =
    ends-two c.add_selects.result c.args.names.now c.add_shown.new.names c.add_selects.new.names (has c.args.hidden.now)
    (λ s n. bytes_eq s n) (λ s ss. list_any (select_uses s) ss) target_uses c.as_slice.ensures c.as_slice-in-Name.ensures.value c.in-Name.is
    (λ s. sym (name-uses s c.in-Name.field-0 c.in-Name.name c.in-Name.selects)) c.in_ok-add_shown-in-Name.ensures c.add_selects.ensures

pub add_left_uses-returns-in-List : goal.add_left_uses-returns-in-List
add_left_uses-returns-in-List t c =
    ends-one c.add_part_uses.result c.args.names.now c.add_part_uses.new.names (has c.args.hidden.now) (λ s ls. list_any (target_uses s) ls) target_uses c.as_slice-in-List.ensures.value c.in-List.is
    (λ s. sym (list-uses s c.in-List.field-0 c.in-List.parts)) c.add_part_uses.ensures
