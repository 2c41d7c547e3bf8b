-- Laws that several crates use.
use Rattle.std.proofs.Common.{List, ap, map, ◌≡◌}
use Rattle.std.specs.declared.alloc.Global.{Global}
use Rattle.std.specs.declared.vec.Vec.{Vec}
use Rattle.elab_plain.proofs.LeftSides.{row_lefts-hidden}
use Rattle.elab_plain.specs.SeenStatements.{lefts_of, seen_left}
use Rattle.vl_tree.specs.vl_base.specs.declared.place.Place.{Place}
use Rattle.elab_plain.specs.declared.surface.Left as l
use Rattle.vl_flat.specs.Surface as x

pub left-list : (q : Place) (v : Vec l.Left Global) → seen_left (l.List q v) ≡ x.LeftList q (lefts_of (map seen_left v.items))
left-list q v = ap (x.LeftList q) (row_lefts-hidden v)
