use Rattle.std.proofs.Common.{◌≡◌, Some, ap, ◌∙◌}
use Rattle.elab_plain.specs.vl_flat.specs.Declarations as f
use Rattle.elab_items.proofs.signals.net_port.Goals as goal

pub returns : goal.returns
returns c = λ type. c.declaration.ensures type ∙ ap (f.net (Some c.args.direction) type) c.in_ok-copy.ensures
