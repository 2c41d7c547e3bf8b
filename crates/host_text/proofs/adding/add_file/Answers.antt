use Rattle.std.proofs.Common.{Some, map, refl, sym, ap, ◌∙◌}
use Rattle.host_text.specs.declared.script.FileLine.{FileLine}
use Rattle.host_text.specs.Scripts.{changed_at, with_file}
use Rattle.host_text.specs.Drafts.{tenant_line, drafted}
use Rattle.host_text.proofs.Kept.{not_some, unchanged, with-changed, kept-changed}
use Rattle.host_text.proofs.adding.add_file.Goals as goal

pub returns-in_default-clause-with : goal.returns-in_default-clause-with
returns-in_default-clause-with c =
    let s = drafted c.args.reading.now in
    let none = sym (c.number.ensures ∙ c.requires.kept.tenants c.args.tenant.now) ∙ not_some c.number.result c.in_default.not-Some in
    sym (unchanged s c.args.tenant.now (with_file (record { name = c.args.name.now; path = c.args.path.now })) none)

pub returns-clause-with : goal.returns-clause-with
returns-clause-with c =
    let s = drafted c.args.reading.now in
    let some = sym (c.in-Some.ensures ∙ c.requires.kept.tenants c.args.tenant.now) in
    with-changed s c.args.tenant.now c.in-Some.tenant (with_file (record { name = c.args.name.now; path = c.args.path.now })) (map tenant_line c.put_file.new.tenants.items) some
    (c.in_ok-put_file.ensures ∙ ap (λ (f : FileLine). changed_at c.in-Some.tenant (with_file f) s.tenants) (λ i. record { name = c.in_ok-name.ensures i; path = c.in_ok-path.ensures i }))

pub returns-clause-kept : goal.returns-clause-kept
returns-clause-kept c =
    kept-changed c.args.reading.now _ (Some c.in-Some.tenant) (with_file (record { name = c.in_ok-name.name; path = c.in_ok-path.path })) c.requires.kept (λ t. refl) c.in_ok-put_file.ensures refl (λ t. refl) (λ t. refl)
