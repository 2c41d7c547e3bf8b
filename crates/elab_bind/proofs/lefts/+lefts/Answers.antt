use Rattle.std.proofs.Common.{map, ap, ◌∙◌, sym}
use Rattle.elab_plain.specs.vl_flat.specs.Surface as x
use Rattle.elab_plain.specs.vl_flat.specs.Binding as f
use Rattle.elab_plain.specs.SeenStatements.{lefts_of}
use Rattle.elab_plain.proofs.LeftSides.{concatenation-left, row_lefts-hidden}
use Rattle.elab_bind.proofs.lefts.+lefts.Goals as goal

pub bind_left-returns-in_ok-bind_lefts-in-Concatenation : goal.bind_left-returns-in_ok-bind_lefts-in-Concatenation
bind_left-returns-in_ok-bind_lefts-in-Concatenation t c =
    ap (x.LeftList c.in-Concatenation.at) (row_lefts-hidden c.in_ok-bind_lefts-in-Concatenation.field-0 ∙ ap lefts_of (c.in_ok-bind_lefts-in-Concatenation.ensures ∙ ap (map f.left) c.as_slice-in-Concatenation.ensures))
    ∙ sym (ap f.left c.in-Concatenation.is ∙ concatenation-left c.in-Concatenation.at c.in-Concatenation.parts)
