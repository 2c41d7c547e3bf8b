-- A source has one elaboration.
use Rattle.std.proofs.Common.{◌≡◌, false, Result, Err, Some, refl, ap, arith}
use Rattle.std.proofs.lemmas.Bool.Decides.{nat_tests}
use Rattle.elab_plain.specs.vl_tree.specs.declared.source_tree.Source.{Source}
use Rattle.vl_names.specs.vl_scope.specs.declared.fault.Fault.{Fault}
use Rattle.vl_names.specs.vl_scope.specs.Faults.{is_before, IsFirst}
use Rattle.vl_design.specs.declared.stop.Stop.{Stop}
use Rattle.vl_design.specs.declared.stop.Stop.TheVariants.{Construct}
use Rattle.vl_design.specs.Placed as p
use Rattle.vl_sound.specs.Meeting.{IsElaboration, misnamed, named}

-- two faults of which neither comes before the other are one
same_fault : (f g : Fault) → is_before f g ≡ false → is_before g f ≡ false → f ≡ g
same_fault f g h k = grind (arith, nat_tests)

first_once : (P : Fault → Type 0) (f g : Fault) → IsFirst P (Some f) → IsFirst P (Some g) → f ≡ g
first_once P f g h k = same_fault f g (k.1 f h.0) (h.1 g k.0)

pub elaborated_once : (s : Source) (r q : Result p.Design Stop) → IsElaboration s r → IsElaboration s q → r ≡ q
elaborated_once s r q (misnamed {f} h) (misnamed {f = g} k) = ap (λ (z : Fault). Err (Construct z.place z.construct)) (first_once _ f g h k)
elaborated_once s r q (misnamed {f} h) (named k) = absurd (k f h.0)
elaborated_once s r q (named h) (misnamed {f = g} k) = absurd (h g k.0)
elaborated_once s r q (named h) (named k) = refl
