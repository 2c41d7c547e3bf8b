-- Without one of them, no two have one number either.
use Rattle.std.proofs.Common.{◌≡◌, ℕ, zero, suc, Bool, true, false, Option, Some, None, List, [], ◌∷◌, ◌++◌}
use Rattle.std.specs.List.{remove}
use Rattle.std.specs.Prelude.{if◌then◌else◌}
use Rattle.fab_model.specs.Points.{Point}
use Rattle.fab_model.specs.Fabrics.{first_of, is_of, AreOnce}

none_both : (b : Bool) (p : Point) (x y : Option Point) → (x ≡ None → y ≡ None) → (if b then Some p else x) ≡ None → (if b then Some p else y) ≡ None
none_both true p x y f e = let z : ⊥ = cc in absurd z
none_both false p x y f e = f e

none_behind : (b : Bool) (p : Point) (x : Option Point) → (if b then Some p else x) ≡ None → x ≡ None
none_behind true p x e = let z : ⊥ = cc in absurd z
none_behind false p x e = e

none_front : (t : ℕ) (ps qs : List Point) (k : ℕ) → first_of t (ps ++ qs) ≡ None → first_of t (remove ps k ++ qs) ≡ None
none_front t [] qs zero e = e
none_front t [] qs (suc k) e = e
none_front t (p ∷ ps) qs zero e = none_behind (is_of t p) p (first_of t (ps ++ qs)) e
none_front t (p ∷ ps) qs (suc k) e = none_both (is_of t p) p (first_of t (ps ++ qs)) (first_of t (remove ps k ++ qs)) (none_front t ps qs k) e

pub once_front : (ps qs : List Point) (k : ℕ) → AreOnce (ps ++ qs) → AreOnce (remove ps k ++ qs)
once_front [] qs zero h = h
once_front [] qs (suc k) h = h
once_front (p ∷ ps) qs zero h = h.1
once_front (p ∷ ps) qs (suc k) h = (none_front p.number ps qs k h.0, once_front ps qs k h.1)

none_back : (t : ℕ) (ps qs : List Point) (k : ℕ) → first_of t (ps ++ qs) ≡ None → first_of t (ps ++ remove qs k) ≡ None
none_back t [] [] zero e = e
none_back t [] [] (suc k) e = e
none_back t [] (q ∷ qs) zero e = none_behind (is_of t q) q (first_of t qs) e
none_back t [] (q ∷ qs) (suc k) e = none_both (is_of t q) q (first_of t qs) (first_of t (remove qs k)) (none_back t [] qs k) e
none_back t (p ∷ ps) qs k e = none_both (is_of t p) p (first_of t (ps ++ qs)) (first_of t (ps ++ remove qs k)) (none_back t ps qs k) e

pub once_back : (ps qs : List Point) (k : ℕ) → AreOnce (ps ++ qs) → AreOnce (ps ++ remove qs k)
once_back [] [] zero h = h
once_back [] [] (suc k) h = h
once_back [] (q ∷ qs) zero h = h.1
once_back [] (q ∷ qs) (suc k) h = (none_back q.number [] qs k h.0, once_back [] qs k h.1)
once_back (p ∷ ps) qs k h = (none_back p.number ps qs k h.0, once_back ps qs k h.1)
