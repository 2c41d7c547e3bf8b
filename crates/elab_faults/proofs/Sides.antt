-- Left sides, and an output's connection as one.
use Rattle.std.proofs.Common.{◌≡◌, refl, ap, map}
use Rattle.std.specs.declared.alloc.Global.{Global}
use Rattle.std.specs.declared.vec.Vec.{Vec}
use Rattle.vl_base.specs.declared.place.Place.{Place}
use Rattle.elab_plain.specs.vl_flat.specs.Surface as x
use Rattle.elab_plain.specs.vl_flat.specs.Connections.{left_of}
use Rattle.elab_plain.specs.declared.surface.Left as l
use Rattle.elab_plain.specs.SeenStatements.{seen_left, lefts_of}
use Rattle.elab_plain.proofs.LeftSides.{row_lefts-hidden}
pub use Rattle.elab_plain.proofs.Shared.{left-list as list-seen}

pub place-of-left : (e : x.Ex) → x.left_place (left_of e) ≡ x.node_place e
place-of-left (x.Number q n) = refl
place-of-left (x.Text q t) = refl
place-of-left (x.Named q n ss) = refl
place-of-left (x.Paren q a) = place-of-left a
place-of-left (x.Unary q p a) = refl
place-of-left (x.Binary q p a b) = refl
place-of-left (x.Choice q t a b) = refl
place-of-left (x.Joined q es) = refl
place-of-left (x.Repeated q n es) = refl
place-of-left (x.Called q n es) = refl
place-of-left (x.System q n as') = refl
