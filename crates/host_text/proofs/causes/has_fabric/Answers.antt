use Rattle.std.proofs.Common.{ap, ◌∙◌, is_some}
use Rattle.host_text.proofs.causes.has_fabric.Goals as goal

pub returns : goal.returns
returns c = c.is_some.ensures ∙ ap is_some (c.number.ensures ∙ c.requires.fabrics c.args.name.now)
