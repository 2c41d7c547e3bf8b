-- What is told of a refusal.
use Rattle.std.proofs.Common.{◌≡◌, ℕ, List, Result, Err, refl, sym, ◌∙◌, subst}
use Rattle.vl_elab.specs.vl_base.specs.declared.place.Place.{Place}
use Rattle.vl_accept.specs.declared.accept.Accepted.{Accepted}
use Rattle.vl_front.specs.declared.fault.BuildError.{BuildError}
use Rattle.vl_front.specs.declared.fault.BuildError.TheVariants.{Refused}
use Rattle.vl_front.specs.declared.fault.Kind.{Kind}
use Rattle.vl_front.specs.Sources.{IsRefusal, IsFront}

same : (p q : Place) (a b : Kind) → p ≡ q → a ≡ b → ◌≡◌ {A = Result Accepted BuildError} (Err (Refused p a)) (Err (Refused q b))
same p q a b e f = rw (e, f) refl

-- a refusal is told with this place and this kind
pub told : (text : List ℕ) (r : Result Accepted BuildError) (p q : Place) (a b : Kind) → r ≡ Err (Refused p a) → p ≡ q → a ≡ b → IsRefusal text q b → IsFront text r
told text r p q a b is e f h = subst (IsFront text) (sym (is ∙ same p q a b e f)) h
