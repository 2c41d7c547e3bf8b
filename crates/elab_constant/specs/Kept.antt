-- Forms kept within 129 bits: what is more is refused, and by how much it is more makes no difference.
use Rattle.std.specs.Prelude.{min, pos, fold, None}
use Rattle.vl_design.specs.declared.design.Form.{Form}
use Rattle.elab_plain.specs.vl_flat.specs.Surface.{Selects}
use Rattle.elab_plain.specs.vl_flat.specs.Scopes.{Scope}
use Rattle.elab_plain.specs.vl_flat.specs.Expressions.{step_form, steps}

abbrev pub kept : Form → Form
kept f = record { width = min 129 f.width; signed = f.signed }

-- what selects on a value leave of its form, however its bits are numbered
abbrev pub selects_form : Scope → Form → Selects → Form
selects_form scope f ss = fold step_form f (steps scope None (pos 0, pos 0) ss)
