-- Tables whose entries are replaced one by one stay at most those of the rounds, if what bodies count grows with the table.
use Rattle.std.proofs.Common.{◌≡◌, refl, sym, ap, ◌∙◌, subst, arith, ℕ, zero, suc, ◌≤◌, ◌<◌, List, [], ◌∷◌, map, length, get_or, replicate}
use Rattle.std.specs.Prelude.{slice_index, slice_set}
use Rattle.std.specs.List.{AllByRecursion}
use Rattle.vl_design.specs.declared.design.Func.{Func}
use Rattle.vl_limits.specs.Bodies.{rounds, AtMost}

none : (f : ℕ) → slice_index [] f ≡ 0
none f = refl

-- a table behind one round more
pub one-more : (next : List ℕ → Func → ℕ) (funcs : List Func) (n m : ℕ) (t : List ℕ) → m ≡ suc n → AtMost t (rounds next funcs (suc n)) → AtMost t (rounds next funcs m)
one-more next funcs n m t e h = rw e h

pub mapped : (count : Func → ℕ) (gs : List Func) (k : ℕ) (g : Func) → k < length gs → g ≡ get_or gs k g → slice_index (map count gs) k ≡ count g
mapped count [] k g h e = absurd (omega arith)
mapped count (x ∷ gs) zero g h e = ap count (sym e)
mapped count (x ∷ gs) (suc k) g h e = mapped count gs k g (omega arith) e

set-most : (t : List ℕ) (k v f m : ℕ) → (f ≡ k → v ≤ m) → slice_index t f ≤ m → slice_index (slice_set t k v) f ≤ m
set-most [] k v f m h i = i
set-most (x ∷ t) zero v zero m h i = h refl
set-most (x ∷ t) zero v (suc f) m h i = i
set-most (x ∷ t) (suc k) v zero m h i = i
set-most (x ∷ t) (suc k) v (suc f) m h i = set-most t k v f m (λ e. h (ap suc e)) i

pub grows-all : (next : List ℕ → Func → ℕ) (P : Func → Type 0) → ((a b : List ℕ) → AtMost a b → (g : Func) → P g → next a g ≤ next b g) → (gs : List Func) → AllByRecursion P gs → (a b : List ℕ) → AtMost a b → AtMost (map (next a) gs) (map (next b) gs)
grows-all next P h [] p a b l f = omega (arith, none f)
grows-all next P h (g ∷ gs) p a b l zero = h a b l g p.0
grows-all next P h (g ∷ gs) p a b l (suc f) = grows-all next P h gs p.1 a b l f

module _ (next : List ℕ → Func → ℕ) (funcs : List Func) (grows : (a b : List ℕ) → AtMost a b → AtMost (map (next a) funcs) (map (next b) funcs)) where
  rises : (n : ℕ) → AtMost (rounds next funcs n) (rounds next funcs (suc n))
  rises zero f = omega (arith, none f)
  rises (suc n) f = grows (rounds next funcs n) (rounds next funcs (suc n)) (rises n) f

  pub kept : (n : ℕ) (t : List ℕ) → AtMost t (rounds next funcs n) → AtMost t (rounds next funcs (suc n))
  kept n t h f = let k = h f in let r = rises n f in omega (arith, k, r)

  pub replaced : (n : ℕ) (t : List ℕ) (k v : ℕ) → v ≡ slice_index (map (next t) funcs) k → AtMost t (rounds next funcs n) → AtMost (slice_set t k v) (rounds next funcs (suc n))
  replaced n t k v e h f = set-most t k v f (slice_index (rounds next funcs (suc n)) f) new (kept n t h f)
    where
      new : f ≡ k → v ≤ slice_index (rounds next funcs (suc n)) f
      new i = let m = grows t (rounds next funcs n) h k in subst (λ z. v ≤ slice_index (rounds next funcs (suc n)) z) (sym i) (subst (λ z. z ≤ slice_index (rounds next funcs (suc n)) k) (sym e) m)

  under : (t : List ℕ) → t ≡ map (next t) funcs → (n : ℕ) → AtMost (rounds next funcs n) t
  under t e zero f = omega (arith, none f)
  under t e (suc n) f = subst (λ z. slice_index (rounds next funcs (suc n)) f ≤ slice_index z f) (sym e) (grows (rounds next funcs n) t (under t e n) f)

  -- a table that a round keeps, and that is at most that of a round, is that of the round
  pub settled : (n : ℕ) (t : List ℕ) → AtMost t (rounds next funcs n) → t ≡ map (next t) funcs → (f : ℕ) → slice_index t f ≡ slice_index (rounds next funcs n) f
  settled n t h e f = let a = h f in let b = under t e n f in omega (arith, a, b)
