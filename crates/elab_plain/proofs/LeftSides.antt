-- What the walk over left sides cites.
use Rattle.std.proofs.Common.{◌≡◌, refl, ap, ◌∙◌, List, map}
use Rattle.std.specs.declared.alloc.Global.{Global}
use Rattle.std.specs.declared.vec.Vec.{Vec}
use Rattle.std.proofs.lemmas.Grind.{common_steps}
use Rattle.vl_tree.specs.vl_base.specs.declared.place.Place.{Place}
use Rattle.vl_tree.specs.declared.tree.Name.{Name, out-Name}
use Rattle.vl_tree.specs.declared.source_tree.Lvalue as v
use Rattle.vl_tree.specs.declared.source_tree.Lvalue.TheBlock as vb
use Rattle.elab_plain.specs.declared.surface.Left as l
use Rattle.elab_plain.specs.declared.surface.Left.TheBlock as lb
use Rattle.vl_flat.specs.Surface as x
use Rattle.vl_flat.specs.Binding as f
use Rattle.elab_plain.specs.Listed as g
use Rattle.elab_plain.specs.SeenStatements.{lefts_of, seen_left, row_lefts}
use Rattle.elab_plain.proofs.Opens.{named-opens}

lefts-items : {m : _} (k : v.Row_of-Lvalue m) → f.lefts k ≡ lefts_of (map f.left (v.items-the_row-Lvalue m k))
lefts-items v.end_of-Lvalue = refl
lefts-items (v.more_of-Lvalue a rest) = ap (x.MoreLefts (f.left a)) (lefts-items rest)

pub concatenation-left : (q : Place) (as' : List v.Lvalue) → f.left (v.Concatenation q as') ≡ x.LeftList q (lefts_of (map f.left as'))
concatenation-left q as' = ap (x.LeftList q) (lefts-items (vb.hidden-the_row-Lvalue-0 as') ∙ ap (λ z. lefts_of (map f.left z)) (v.items_hidden-the_row-Lvalue-0 as'))

pub name-left : (n : Name) → f.left (v.Name n) ≡ x.LeftName (out-Name n).place (out-Name n).identifier.name (g.selects_before (out-Name n).selects x.NoSelects)
name-left n = ap f.left_named (named-opens n)

row_lefts-items : {m : _} (k : l.Row_of-Left m) → row_lefts k ≡ lefts_of (map seen_left (l.items-the_row-Left m k))
row_lefts-items l.end_of-Left = refl
row_lefts-items (l.more_of-Left a rest) = ap (x.MoreLefts (seen_left a)) (row_lefts-items rest)

pub row_lefts-hidden : (w : Vec l.Left Global) → row_lefts (lb.hidden-the_row-Left-0 w) ≡ lefts_of (map seen_left w.items)
row_lefts-hidden w = row_lefts-items (lb.hidden-the_row-Left-0 w) ∙ ap (λ z. lefts_of (map seen_left z)) (l.items_hidden-the_row-Left-0 w)

pub ruleset lefts = (common_steps, name-left, concatenation-left)
