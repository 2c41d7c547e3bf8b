-- Laws that several crates use.
use Rattle.std.proofs.Common.{Err, List, Ok, [], ap, drop, refl, true, ℕ, ◌∷◌, ◌≡◌}
use Rattle.std.proofs.lemmas.Bool.{eqb-true}
use Rattle.vl_tree.specs.Bytes.{begins}
use Rattle.vl_tree.specs.Parsers.{Outcome, with_front}

pub begins_then : (b : ℕ) (s : List ℕ) → begins b s ≡ true → s ≡ b ∷ drop 1 s
begins_then b [] h = absurd cc
begins_then b (c ∷ s) h = ap (λ x. x ∷ s) (eqb-true c b h)

-- the groups begin with one that is unfinished
pub with_front_none : {G : Type 0} (o : Outcome (List G)) → with_front [] o ≡ o
with_front_none (Ok x) = refl
with_front_none (Err r) = refl
