-- What an unrolled statement holds doesn't depend on the state.
use Rattle.std.proofs.Common.{◌≡◌, Bool, true, false, refl, sym}
use Rattle.vl_design.specs.Syntax.{Stm}
use Rattle.vl_design.specs.Width.{Scope}
use Rattle.vl_design.specs.State.{State}
use Rattle.vl_design.specs.Exec.{holds}
use Rattle.vl_design.specs.Laws.{IsUnrolledStm, can_act}
use Rattle.vl_design.proofs.Resting.{holds_none, none_held}

alike : (a b : Bool) → (a ≡ false → b ≡ false) → (b ≡ false → a ≡ false) → b ≡ a
alike true true f g = refl
alike true false f g = sym (g refl)
alike false true f g = f refl
alike false false f g = refl

pub holds_alike : (scope : Scope) (a : Stm) (s : State) → IsUnrolledStm a → holds scope s a ≡ can_act a
holds_alike scope a s u = alike (can_act a) (holds scope s a) (λ h. holds_none scope a h s) (λ h. none_held scope a u s h)
