use Rattle.std.proofs.Common.{ap, ◌∙◌, is_some}
use Rattle.host_text.proofs.causes.has_tenant.Goals as goal

pub returns : goal.returns
returns c = c.is_some.ensures ∙ ap is_some (c.number.ensures ∙ c.requires.tenants c.args.name.now)
