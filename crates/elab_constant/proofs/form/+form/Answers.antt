use Rattle.std.proofs.Common.{map, min, ◌*◌, ap, ◌∙◌, sym}
use Rattle.vl_design.specs.Width.{unsigned}
use Rattle.elab_plain.specs.vl_flat.specs.Surface as x
use Rattle.elab_plain.specs.vl_flat.specs.Scopes.{plainly, none}
use Rattle.elab_plain.specs.vl_flat.specs.Constants.{count_of}
use Rattle.elab_plain.specs.vl_flat.specs.Expressions.{form, named_form, total_width, first_form, system_form, constant}
use Rattle.elab_plain.specs.Seen.{seen, selects_before, args_before}
use Rattle.elab_plain.specs.Listed.{of_list}
use Rattle.elab_plain.proofs.Walks.{named-seen, joined-seen, system-seen, row_exs-hidden}
use Rattle.elab_constant.specs.Seen.{seen_scope}
use Rattle.elab_constant.specs.Kept.{kept}
use Rattle.elab_constant.proofs.Kept.{kept-times, kept-system}
use Rattle.elab_constant.proofs.form.+form.Goals as goal

pub form-returns-in-Named : goal.form-returns-in-Named
form-returns-in-Named t c =
    let s = seen_scope c.args.scope.now in
    let name = c.in-Named.name in
    c.named_form.ensures
    ∙ (ap (λ o. kept (named_form s o (selects_before c.as_slice-in-Named-2.result.now x.NoSelects))) (c.meaning.ensures ∙ ap s.names c.as_slice-in-Named.ensures)
    ∙ (ap (λ ss. kept (named_form s (s.names name) (selects_before ss x.NoSelects))) c.as_slice-in-Named-2.ensures.value
    ∙ sym (ap (λ z. kept (form s z)) (ap seen c.in-Named.is ∙ named-seen c.in-Named.field-0 name c.in-Named.selects))))

pub form-returns-in-Joined : goal.form-returns-in-Joined
form-returns-in-Joined t c =
    let s = seen_scope c.args.scope.now in
    c.unsigned.ensures
    ∙ (ap unsigned (c.total_width.ensures.same ∙ ap (λ es. min 129 (total_width s (of_list (map seen es)))) c.as_slice-in-Joined.ensures.value)
    ∙ sym (ap (λ z. kept (form s z)) (ap seen c.in-Joined.is ∙ joined-seen c.in-Joined.field-0 c.in-Joined.parts)))

pub form-returns-in-Repeated : goal.form-returns-in-Repeated
form-returns-in-Repeated t c =
    let s = seen_scope c.args.scope.now in
    let w = total_width s (of_list (map seen c.in-Repeated.parts.items)) in
    c.unsigned-in-Repeated.ensures
    ∙ (ap unsigned (c.times.ensures
    ∙ (ap (λ k. min 129 (c.count.result * k)) (c.total_width-once.ensures.same ∙ ap (λ es. min 129 (total_width s (of_list (map seen es)))) c.as_slice-in-Repeated.ensures.value)
    ∙ (kept-times c.count.result w c.count.ensures.wide
    ∙ ap (λ k. min 129 (k * w)) (c.count.ensures.same ∙ ap (λ z. count_of (constant s (seen z))) c.deref-in-Repeated.ensures))))
    ∙ sym (ap (λ z. kept (form s z)) (ap seen c.in-Repeated.is ∙ ap (x.Repeated c.in-Repeated.field-0 (seen c.in-Repeated.n.value)) (row_exs-hidden c.in-Repeated.parts))))

pub form-returns-in-System : goal.form-returns-in-System
form-returns-in-System t c =
    let s = seen_scope c.args.scope.now in
    let name = c.in-System.name in
    c.system_form.ensures
    ∙ (ap (λ n. system_form (plainly none) n c.first_form.result) c.as_slice-in-System.ensures
    ∙ (ap (system_form (plainly none) name) (c.first_form.ensures ∙ ap (λ a. kept (first_form s (args_before a x.NoArgs))) c.as_slice-in-System-2.ensures.value)
    ∙ (kept-system name (first_form s (args_before c.in-System.given.items x.NoArgs))
    ∙ sym (ap (λ z. kept (form s z)) (ap seen c.in-System.is ∙ system-seen c.in-System.field-0 name c.in-System.given)))))
