-- The signals of a design, with a function's locals behind them.
use Rattle.std.proofs.Common.{◌≡◌, ℕ, zero, suc, ◌+◌, ◌-◌, ◌<◌, ◌≤◌, List, [], ◌∷◌, ◌++◌, map, length, get_or, refl, ap, arith}
use Rattle.std.specs.Prelude.{slice_get, Option, Some, None}
use Rattle.std.proofs.lemmas.Grind.{common_steps}
use Rattle.vl_design.specs.declared.design.SigKind.{SigKind}
use Rattle.vl_design.specs.declared.design.Signal.{Signal}
use Rattle.vl_design.specs.Syntax.{Row}
use Rattle.vl_design.specs.Width.{signal_form, row_form}
use Rattle.vl_design.specs.Sound.{IsOf, IsWidth}
use Rattle.vl_design.specs.Trees.{row_of}

pub row_first : (xs ys : List Signal) (k : ℕ) (x : Signal) → k < length xs → x ≡ get_or xs k x → slice_get (map row_of xs ++ map row_of ys) k ≡ Some (row_of x)
row_first [] ys k x l e = absurd (omega arith)
row_first (z ∷ xs) ys zero x l e = ap (λ s. Some (row_of s)) (sym-of e)
  where
    sym-of : x ≡ z → z ≡ x
    sym-of h = cc
row_first (z ∷ xs) ys (suc k) x l e = row_first xs ys k x (omega arith) e

row_only : (ys : List Signal) (k : ℕ) (x : Signal) → k < length ys → x ≡ get_or ys k x → slice_get (map row_of ys) k ≡ Some (row_of x)
row_only [] k x l e = absurd (omega arith)
row_only (z ∷ ys) zero x l e = ap (λ s. Some (row_of s)) (sym-of e)
  where
    sym-of : x ≡ z → z ≡ x
    sym-of h = cc
row_only (z ∷ ys) (suc k) x l e = row_only ys k x (omega arith) e

pub row_second : (xs ys : List Signal) (k : ℕ) (x : Signal) → length xs ≤ k → k - length xs < length ys → x ≡ get_or ys (k - length xs) x → slice_get (map row_of xs ++ map row_of ys) k ≡ Some (row_of x)
row_second [] ys k x h l e =
    let z : k - 0 ≡ k = omega arith in
    row_only ys k x (omega (arith, l)) (let g : x ≡ get_or ys (k - 0) x = e in rw z at g)
row_second (y ∷ xs) ys zero x h l e = absurd (omega arith)
row_second (y ∷ xs) ys (suc k) x h l e =
    let z : suc k - suc (length xs) ≡ k - length xs = omega arith in
    row_second xs ys k x (omega arith) (omega (arith, l)) (let g : x ≡ get_or ys (suc k - suc (length xs)) x = e in rw z at g)

-- what is named is there
pub row_there : (P : SigKind → Type 0) (xs ys : List Signal) (k : ℕ) → IsOf P (slice_get (map row_of xs ++ map row_of ys) k) → k < length xs + length ys
row_there P [] ys k h = only ys k h
  where
    only : (ys : List Signal) (k : ℕ) → IsOf P (slice_get (map row_of ys) k) → k < 0 + length ys
    only [] k h = absurd h
    only (y ∷ ys) zero h = omega arith
    only (y ∷ ys) (suc k) h = omega (arith, only ys k h)
row_there P (x ∷ xs) ys zero h = omega arith
row_there P (x ∷ xs) ys (suc k) h = omega (arith, row_there P xs ys k h)

pub width_there : (P : SigKind → Type 0) (rows : List Row) (k : ℕ) → IsOf P (slice_get rows k) → IsWidth (signal_form rows k).width
width_there P rows k h = go (slice_get rows k) h
  where
    go : (r : Option Row) → IsOf P r → IsWidth (row_form r).width
    go None i = absurd i
    go (Some r) i = i.1

pub width_is : (rows : List Row) (k : ℕ) (x : Signal) → slice_get rows k ≡ Some (row_of x) → (signal_form rows k).width ≡ (row_of x).width
width_is rows k x e = ap (λ r. (row_form r).width) e

pub ruleset rows = (common_steps, row_first, row_second, row_there, width_there, width_is)
