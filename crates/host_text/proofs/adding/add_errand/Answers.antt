use Rattle.std.proofs.Common.{Some, map, refl, sym, ap, ◌∙◌}
use Rattle.host_text.specs.Seen.{order_seen}
use Rattle.ten_plan.specs.declared.plan.Due.{Due}
use Rattle.host_text.specs.Scripts.{changed_at, due_of, sent}
use Rattle.host_text.specs.Drafts.{tenant_line, drafted}
use Rattle.host_text.proofs.Kept.{not_some, unchanged, with-changed, kept-changed}
use Rattle.host_text.proofs.adding.add_errand.Goals as goal

pub returns-in_default-clause-with : goal.returns-in_default-clause-with
returns-in_default-clause-with c =
    let s = drafted c.args.reading.now in
    let none = sym (c.number.ensures ∙ c.requires.kept.tenants c.args.tenant.now) ∙ not_some c.number.result c.in_default.not-Some in
    sym (unchanged s c.args.tenant.now (sent (record { tick = c.args.tick; due = due_of s (order_seen c.args.order) })) none)

pub returns-clause-with : goal.returns-clause-with
returns-clause-with c =
    let s = drafted c.args.reading.now in
    let some = sym (c.in-Some.ensures ∙ c.requires.kept.tenants c.args.tenant.now) in
    with-changed s c.args.tenant.now c.in-Some.tenant (sent (record { tick = c.args.tick; due = due_of s (order_seen c.args.order) })) (map tenant_line c.put_sent.new.tenants.items) some
    (c.in_ok-put_sent.ensures ∙ ap (λ (d : Due). changed_at c.in-Some.tenant (sent (record { tick = c.args.tick; due = d })) s.tenants) c.in_ok-due.ensures)

pub returns-clause-kept : goal.returns-clause-kept
returns-clause-kept c =
    kept-changed c.args.reading.now _ (Some c.in-Some.tenant) (sent (record { tick = c.args.tick; due = c.in_ok-due.due })) c.requires.kept (λ t. refl) c.in_ok-put_sent.ensures refl (λ t. refl) (λ t. refl)
