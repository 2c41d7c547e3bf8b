use Rattle.std.proofs.Common.{◌≡◌, ◌+◌, ◌*◌, map, take}
use Rattle.vl_design.specs.Trees.{row_of}
use Rattle.ten_form.specs.Registers as s
use Rattle.ten_form.proofs.places.places.Given as goal

abbrev pub invariant-loop-number : goal.invariant-loop-number
invariant-loop-number l = l.places.items ≡ s.places (λ k. 4 * k + l.copy) (map row_of (take l.number l.signals))
