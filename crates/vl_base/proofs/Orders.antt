-- The order of faults by their places and numbers is one, and the first of two lists.
use Rattle.std.proofs.Common.{◌≡◌, ℕ, Bool, true, false, List, ◌++◌, Option, arith}
use Rattle.std.proofs.lemmas.Bool.Decides.{nat_tests}
use Rattle.std.proofs.lemmas.List.Sums.{fold-append}
use Rattle.vl_base.specs.declared.place.Place.{Place}
use Rattle.vl_base.specs.Places.{comes_before, earlier, earliest}

-- none comes before itself
pub comes_before-self : (p : Place) (m : ℕ) → comes_before p m p m ≡ false
comes_before-self p m = grind (arith, nat_tests)

-- of two at most one comes before the other
pub comes_before-one_way : (p : Place) (m : ℕ) (q : Place) (n : ℕ) → comes_before p m q n ≡ true → comes_before q n p m ≡ false
comes_before-one_way p m q n h = grind (arith, nat_tests)

-- what comes no earlier than one that comes no earlier than a third comes no earlier than that
pub comes_before-chain : (p : Place) (m : ℕ) (q : Place) (n : ℕ) (r : Place) (k : ℕ) → comes_before p m q n ≡ false → comes_before q n r k ≡ false → comes_before p m r k ≡ false
comes_before-chain p m q n r k h j = grind (arith, nat_tests)

-- two of which neither comes before the other have one place
pub comes_before-place : (p : Place) (m : ℕ) (q : Place) (n : ℕ) → comes_before p m q n ≡ false → comes_before q n p m ≡ false → p ≡ q
comes_before-place p m q n h k = grind (arith, nat_tests)

-- and one number
pub comes_before-number : (p : Place) (m : ℕ) (q : Place) (n : ℕ) → comes_before p m q n ≡ false → comes_before q n p m ≡ false → m ≡ n
comes_before-number p m q n h k = grind (arith, nat_tests)

-- the first of two lists together is that of the second behind the first
pub earliest-append : {F : Type 0} (before : F → F → Bool) (best : Option F) (xs ys : List F) → earliest before best (xs ++ ys) ≡ earliest before (earliest before best xs) ys
earliest-append before best xs ys = fold-append (earlier before) best xs ys
