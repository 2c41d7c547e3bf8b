-- The faults at several lists of parts, one after another.
use Rattle.std.proofs.Common.{◌≡◌, List, ◌++◌, Option, arith}
use Rattle.std.proofs.lemmas.Grind.{common_steps}
use Rattle.vl_scope.specs.declared.fault.Fault.{Fault}
use Rattle.vl_scope.specs.Faults.{earliest}
use Rattle.vl_uses.specs.Nodes.{Node}
use Rattle.vl_uses.specs.UseFaults.{Meanings}
use Rattle.vl_uses.specs.Walks.{faults}

pub faults-three : (m : Meanings) (xs ys zs : List Node) (best a b c : Option Fault) → a ≡ earliest best (faults m xs) → b ≡ earliest a (faults m ys) → c ≡ earliest b (faults m zs) → c ≡ earliest best (faults m (xs ++ ys ++ zs))
faults-three m xs ys zs best a b c e f g = grind (arith, common_steps)
