-- Where no two have one number, the first that waits or is due to leave is the one of its number.
use Rattle.std.proofs.Common.{◌≡◌, ℕ, List, [], ◌∷◌, ◌++◌, refl, sym, Bool, true, false, cond, Some, None}
use Rattle.fab_core.specs.ten_shell.specs.declared.shell.Why.{Why}
use Rattle.fab_core.specs.fab_model.specs.Points.{Point, due, waits}
use Rattle.fab_core.specs.fab_model.proofs.Finding.{leaving_found, waiting_found}
use Rattle.fab_core.specs.fab_model.specs.Fabrics.{first_leaving, first_of, first_waiting, is_of, AreOnce, Fabric}

-- none of a number in both is none in the first
none-first : (t : ℕ) (xs ys : List Point) → first_of t (xs ++ ys) ≡ None → first_of t xs ≡ None
none-first t [] ys e = refl
none-first t (p ∷ xs) ys e = by (is_of t p) e (none-first t xs ys)
  where
    by : (b : Bool) → cond b (Some p) (first_of t (xs ++ ys)) ≡ None → (first_of t (xs ++ ys) ≡ None → first_of t xs ≡ None) → cond b (Some p) (first_of t xs) ≡ None
    by true e h = let z : ⊥ = cc in absurd z
    by false e h = h e

pub once-first : (xs ys : List Point) → AreOnce (xs ++ ys) → AreOnce xs
once-first [] ys h = tt
once-first (p ∷ xs) ys h = (none-first p.number xs ys h.0, once-first xs ys h.1)

-- ---- at an answer

pub serves-first : (f : Fabric) (t : ℕ) → AreOnce (f.residents ++ f.line) → Some t ≡ first_waiting f.residents → (p : Point) × (first_of t f.residents ≡ Some p) × (waits p ≡ true)
serves-first f t once e = waiting_found f.residents t (once-first f.residents f.line once) (sym e)

pub leaves-first : (f : Fabric) (t : ℕ) → AreOnce (f.residents ++ f.line) → Some t ≡ first_leaving f.residents →
    (p : Point) × (why : Why) × (first_of t f.residents ≡ Some p) × (due p ≡ Some why)
leaves-first f t once e = leaving_found f.residents t (once-first f.residents f.line once) (sym e)
