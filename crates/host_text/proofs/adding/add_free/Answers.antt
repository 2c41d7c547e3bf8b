use Rattle.std.proofs.Common.{ℕ, Option, unwrap_or, ap, ◌∙◌}
use Rattle.ten_plan.specs.declared.plan.Due.{Due}
use Rattle.host_text.specs.Scripts.{tenant_number, free_of, with_free}
use Rattle.host_text.specs.Drafts.{drafted}
use Rattle.host_text.proofs.adding.add_free.Goals as goal

pub returns-clause-with : goal.returns-clause-with
returns-clause-with c =
    let s = drafted c.args.reading.now in
    let number = c.unwrap_or-tenant.ensures ∙ ap (λ (o : Option ℕ). unwrap_or o 0) (c.number.ensures ∙ c.requires.kept.tenants c.args.tenant.now) in
    c.in_ok-put_free.ensures.with
    ∙ ap (with_free s) (c.free_of.ensures ∙ ap (λ (n : ℕ). free_of n c.in_ok-due.due) number ∙ ap (λ (d : Due). free_of (unwrap_or (tenant_number s c.args.tenant.now) 0) d) c.in_ok-due.ensures)
