use Rattle.std.proofs.Common.{ℕ, Option, unwrap_or, ap, ◌∙◌}
use Rattle.host_text.specs.declared.script.Free.TheVariants.{Watch}
use Rattle.host_text.specs.Scripts.{with_free}
use Rattle.host_text.specs.Drafts.{drafted}
use Rattle.host_text.proofs.adding.add_watch.Goals as goal

pub returns-clause-with : goal.returns-clause-with
returns-clause-with c =
    let s = drafted c.args.reading.now in
    let number = c.unwrap_or-tenant.ensures ∙ ap (λ (o : Option ℕ). unwrap_or o 0) (c.number.ensures ∙ c.requires.kept.tenants c.args.tenant.now) in
    c.in_ok-put_free.ensures.with ∙ ap (λ (n : ℕ). with_free s (Watch n)) number
