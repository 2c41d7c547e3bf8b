use Rattle.std.proofs.Common.{◌≡◌, map, take}
use Rattle.elab_plain.specs.vl_flat.specs.Binding as f
use Rattle.elab_plain.specs.SeenStatements.{seen_left}
use Rattle.elab_bind.proofs.lefts.+lefts.Given as goal

abbrev pub invariant-bind_lefts-loop-l : goal.invariant-bind_lefts-loop-l
invariant-bind_lefts-loop-l l = map seen_left l.all.items ≡ map f.left (take l.l-index l.ls)
