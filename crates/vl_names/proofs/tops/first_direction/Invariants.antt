use Rattle.std.proofs.Common.{◌≡◌, drop}
use Rattle.vl_names.specs.Modules as spec
use Rattle.vl_names.specs.Seen as seen
use Rattle.vl_names.proofs.tops.first_direction.Given as goal

abbrev pub invariant-loop-declaration : goal.invariant-loop-declaration
invariant-loop-declaration l = spec.first_direction (seen.nows (drop l.declaration-index l.declarations)) l.name ≡ spec.first_direction (seen.nows l.declarations) l.name
