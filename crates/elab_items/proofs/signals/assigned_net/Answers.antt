use Rattle.std.proofs.Common.{◌≡◌, Option, None, false, option_map, ap, ◌∙◌}
use Rattle.vl_tree.specs.declared.tree.Identifier.{Identifier}
use Rattle.elab_plain.specs.vl_flat.specs.Items as x
use Rattle.elab_plain.specs.vl_flat.specs.Surface as y
use Rattle.elab_plain.specs.Seen.{seen}
use Rattle.elab_items.proofs.signals.assigned_net.Goals as goal

-- the declaration
abbrev made : x.DataType → Identifier → Option y.Ex → x.Declared
made type n value = record { name = n; direction = None; variable = false; type = type; words = None; value = value }

pub returns : goal.returns
returns c = λ type.
    c.declaration.ensures type
    ∙ (ap (λ n. made type n (option_map seen c.in_ok-value.value)) c.in_ok-name.ensures
    ∙ ap (made type c.args.a.now.name) c.in_ok-value.ensures)
