-- All tokens have to be read.
use Rattle.std.proofs.Common.{◌≡◌, List, [], ◌∷◌, length, Result, Ok, Err, true, false, refl, arith}
use Rattle.std.proofs.Math.Dec.{eqb}
use Rattle.std.proofs.lemmas.Bool.{eqb-true}
use Rattle.std.specs.Result.{IsErrAnd, MatchResult}
use Rattle.std.proofs.lemmas.Result.{err_from_is_err_and}
use Rattle.vl_tree.specs.declared.token.Token.{Token}
use Rattle.vl_tree.specs.declared.source_tree.Source.{Source}
use Rattle.vl_tree.specs.declared.source_fault.Cause.TheVariants.{Syntax}
use Rattle.vl_tree.specs.declared.source_fault.Fault.{Fault}
use Rattle.vl_tree.specs.declared.source_fault.Fault.TheVariants as fault
use Rattle.vl_tree.specs.Parsers.{Outcome, Fails}
use Rattle.vl_tree.specs.Parsing.{all_of}

all_fails : (e : Fault) (o : Outcome Source) → Fails e o → Fails e (all_of o)
all_fails (fault.At cause us) o h = rw h refl
all_fails fault.Memory o h = tt

-- a fault on the way
pub all_passed : (r : Result Source Fault) (e : Fault) (o : Outcome Source) → IsErrAnd r (λ x. x ≡ e) → Fails e o → MatchResult r (λ s. all_of o ≡ Ok (s, [])) (λ x. Fails x (all_of o))
all_passed r e o h g = let p = err_from_is_err_and r h in rw (p.1, p.2) (all_fails e o g)

-- a token is left
pub all_left : (s : Source) (us : List Token) (o : Outcome Source) → o ≡ Ok (s, us) → eqb (length us) 0 ≡ false → all_of o ≡ Err (Syntax, us)
all_left s [] o h n = let z : ⊥ = cc in absurd z
all_left s (u ∷ us) o h n = rw h refl

-- none is left
pub all_read : (s : Source) (us : List Token) (o : Outcome Source) → o ≡ Ok (s, us) → eqb (length us) 0 ≡ true → all_of o ≡ Ok (s, [])
all_read s [] o h n = rw h refl
all_read s (u ∷ us) o h n = let z : length (u ∷ us) ≡ 0 = eqb-true _ _ n in absurd (omega (arith, z))
