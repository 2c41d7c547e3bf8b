use Rattle.std.proofs.Common.{sym}
use Rattle.std.specs.List.{list_any}
use Rattle.std.specs.Str.{bytes_eq}
use Rattle.elab_kinds.specs.Names.{has}
use Rattle.elab_kinds.specs.Parts.{ex_uses, select_uses, argument_uses}
use Rattle.elab_kinds.proofs.Adding.{ends-one, ends-two}
use Rattle.elab_kinds.proofs.Trees.{named-uses, joined-uses, repeated-uses, called-uses, system-uses}
use Rattle.elab_kinds.proofs.uses.+uses.Goals as goal

pub add_uses-returns-in_ok-add_shown-in-Named : goal.add_uses-returns-in_ok-add_shown-in-Named
add_uses-returns-in_ok-add_shown-in-Named t c =
    ends-two c.add_selects.result c.args.names.now c.add_shown.new.names c.add_selects.new.names (has c.args.hidden.now)
    (λ s n. bytes_eq s n) (λ s ss. list_any (select_uses s) ss) ex_uses c.as_slice.ensures c.as_slice-in-Named.ensures.value c.in-Named.is
    (λ s. sym (named-uses s c.in-Named.field-0 c.in-Named.name c.in-Named.selects)) c.in_ok-add_shown-in-Named.ensures c.add_selects.ensures

pub add_uses-returns-in-Joined : goal.add_uses-returns-in-Joined
add_uses-returns-in-Joined t c =
    ends-one c.add_all_uses.result c.args.names.now c.add_all_uses.new.names (has c.args.hidden.now)
    (λ s es. list_any (ex_uses s) es) ex_uses c.as_slice-in-Joined.ensures.value c.in-Joined.is
    (λ s. sym (joined-uses s c.in-Joined.field-0 c.in-Joined.parts)) c.add_all_uses.ensures

pub add_uses-returns-in_ok-add_uses-in-Repeated : goal.add_uses-returns-in_ok-add_uses-in-Repeated
add_uses-returns-in_ok-add_uses-in-Repeated t c =
    ends-two c.add_all_uses-in-Repeated.result c.args.names.now c.add_uses-in-Repeated.new.names c.add_all_uses-in-Repeated.new.names (has c.args.hidden.now)
    ex_uses (λ s es. list_any (ex_uses s) es) ex_uses c.deref-in-Repeated.ensures c.as_slice-in-Repeated.ensures.value c.in-Repeated.is
    (λ s. sym (repeated-uses s c.in-Repeated.field-0 c.in-Repeated.count c.in-Repeated.parts)) c.in_ok-add_uses-in-Repeated.ensures c.add_all_uses-in-Repeated.ensures

pub add_uses-returns-in-Called : goal.add_uses-returns-in-Called
add_uses-returns-in-Called t c =
    ends-one c.add_all_uses-in-Called.result c.args.names.now c.add_all_uses-in-Called.new.names (has c.args.hidden.now)
    (λ s es. list_any (ex_uses s) es) ex_uses c.as_slice-in-Called.ensures.value c.in-Called.is
    (λ s. sym (called-uses s c.in-Called.field-0 c.in-Called.field-1 c.in-Called.given)) c.add_all_uses-in-Called.ensures

pub add_uses-returns-in-System : goal.add_uses-returns-in-System
add_uses-returns-in-System t c =
    ends-one c.add_argument_uses.result c.args.names.now c.add_argument_uses.new.names (has c.args.hidden.now)
    (λ s es. list_any (argument_uses s) es) ex_uses c.as_slice-in-System.ensures.value c.in-System.is
    (λ s. sym (system-uses s c.in-System.field-0 c.in-System.field-1 c.in-System.given)) c.add_argument_uses.ensures
