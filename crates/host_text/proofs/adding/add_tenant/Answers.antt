use Rattle.std.proofs.Common.{◌≡◌, Option, ℕ, length, unwrap_or, refl, ap, ◌∙◌, arith}
use Rattle.host_text.specs.declared.script.TenantLine.{TenantLine}
use Rattle.host_text.proofs.Kept.{kept-tenant, added-tenant}
use Rattle.host_text.proofs.adding.add_tenant.Goals as goal

pub returns-clause-kept : goal.returns-clause-kept
returns-clause-kept c =
    let r = c.args.reading.now in
    let size : c.len-number.result ≡ length r.tenants.items = omega arith in
    let called = ap (λ (t : TenantLine). t.name) c.in_ok-tenant.ensures in
    kept-tenant r _ c.in_ok-tenant.tenant c.args.name.now c.len-number.result c.requires.kept c.requires.new c.requires.room size called c.in_ok-push.ensures.items refl (λ t. refl) c.in_ok-put_number.ensures

pub returns-clause-with : goal.returns-clause-with
returns-clause-with c =
    let r = c.args.reading.now in
    let fabric = c.unwrap_or-fabric.ensures ∙ ap (λ (o : Option ℕ). unwrap_or o 0) (c.number.ensures ∙ c.requires.kept.fabrics c.args.fabric.now) in
    added-tenant r c.push.new.self.items c.in_ok-tenant.tenant c.args.name.now c.args.source.now c.args.fabric.now c.unwrap_or-fabric.result c.args.budget fabric c.in_ok-tenant.ensures c.in_ok-push.ensures.items
