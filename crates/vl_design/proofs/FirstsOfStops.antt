-- The earliest of some faults is the first of what is among them.
use Rattle.std.proofs.Common.{◌≡◌, Bool, true, false, if◌then◌else◌, List, [], ◌∷◌, ◌++◌, ◌⊎◌, inl, inr, ⊎_elim, ◌↔◌, Option, Some, None, refl, subst}
use Rattle.vl_base.proofs.Orders.{comes_before-self, comes_before-one_way, comes_before-chain}
use Rattle.vl_base.proofs.Orders as order
use Rattle.vl_design.specs.declared.stop.Stop.{Stop}
use Rattle.vl_design.specs.Stops.{place_of, number_of, is_before, earlier, earliest}
use Rattle.vl_design.specs.First.{In, IsFirst}

-- ---- what is first

pub before-self : (a : Stop) → is_before a a ≡ false
before-self a = comes_before-self (place_of a) (number_of a)

pub before-one_way : (a b : Stop) → is_before a b ≡ true → is_before b a ≡ false
before-one_way a b h = comes_before-one_way (place_of a) (number_of a) (place_of b) (number_of b) h

pub before-chain : (a b c : Stop) → is_before a b ≡ false → is_before b c ≡ false → is_before a c ≡ false
before-chain a b c h k = comes_before-chain (place_of a) (number_of a) (place_of b) (number_of b) (place_of c) (number_of c) h k

-- the first of what holds is that of what holds as often
pub IsFirst-same : (P Q : Stop → Type 0) → ((f : Stop) → P f ↔ Q f) → (o : Option Stop) → IsFirst P o → IsFirst Q o
IsFirst-same P Q same None h = λ f q. h f ((same f).1 q)
IsFirst-same P Q same (Some x) h = ((same x).0 h.0, λ f q. h.1 f ((same f).1 q))

-- with more that come no earlier
first_with : (P Q : Stop → Type 0) (o : Option Stop) → ((f : Stop) → P f → Q f) → ((g : Stop) → Q g → (f : Stop) × P f × (is_before g f ≡ false)) → IsFirst P o → IsFirst Q o
first_with P Q None into back h = λ g q. h (back g q).0 (back g q).1
first_with P Q (Some f) into back h = (into f h.0, λ g q. let b = back g q in before-chain g b.0 f b.2 (h.1 b.0 b.1))

into : (best : Option Stop) (x : Stop) (fs : List Stop) (f : Stop) → (earlier best x ≡ Some f) ⊎ In f fs → (best ≡ Some f) ⊎ ((x ≡ f) ⊎ In f fs)
into best x fs f (inr h) = inr (inr h)
into None x fs f (inl h) = inr (inl cc)
into (Some b) x fs f (inl h) = by (is_before x b) h
  where
    by : (t : Bool) → (if t then Some x else Some b) ≡ Some f → (Some b ≡ Some f) ⊎ ((x ≡ f) ⊎ In f fs)
    by true h = inr (inl cc)
    by false h = inl cc

back : (best : Option Stop) (x : Stop) (fs : List Stop) (g : Stop) → (best ≡ Some g) ⊎ ((x ≡ g) ⊎ In g fs) → (f : Stop) × ((earlier best x ≡ Some f) ⊎ In f fs) × (is_before g f ≡ false)
back best x fs g (inr (inr h)) = (g, inr h, before-self g)
back None x fs g (inl h) = absurd cc
back None x fs g (inr (inl h)) = (x, inl refl, subst (λ g. is_before g x ≡ false) h (before-self x))
back (Some b) x fs g (inl h) = by (is_before x b) refl
  where
    e : b ≡ g
    e = cc

    by : (t : Bool) → is_before x b ≡ t → (f : Stop) × (((if t then Some x else Some b) ≡ Some f) ⊎ In f fs) × (is_before g f ≡ false)
    by true t = (x, inl refl, subst (λ g. is_before g x ≡ false) e (before-one_way x b t))
    by false t = (b, inl refl, subst (λ g. is_before g b ≡ false) e (before-self b))
back (Some b) x fs g (inr (inl h)) = by (is_before x b) refl
  where
    by : (t : Bool) → is_before x b ≡ t → (f : Stop) × (((if t then Some x else Some b) ≡ Some f) ⊎ In f fs) × (is_before g f ≡ false)
    by true t = (x, inl refl, subst (λ g. is_before g x ≡ false) h (before-self x))
    by false t = (b, inl refl, subst (λ g. is_before g b ≡ false) h t)

-- the earliest is the first of what was found and of what is in the list
pub earliest-first : (best : Option Stop) (fs : List Stop) → IsFirst (λ f. (best ≡ Some f) ⊎ In f fs) (earliest best fs)
earliest-first None [] = λ f h. ⊎_elim (λ e. absurd cc) (λ b. b) h
earliest-first (Some b) [] = (inl refl, λ f h. ⊎_elim (λ e. let same : b ≡ f = cc in subst (λ f. is_before f b ≡ false) same (before-self b)) (λ x. absurd x) h)
earliest-first best (x ∷ fs) = first_with _ _ (earliest (earlier best x) fs) (into best x fs) (back best x fs) (earliest-first (earlier best x) fs)

-- the earliest of a list is the first of what is in it
pub earliest-In : (fs : List Stop) → IsFirst (λ f. In f fs) (earliest None fs)
earliest-In fs = IsFirst-same (λ f. (None ≡ Some f) ⊎ In f fs) (λ f. In f fs) (λ f. (⊎_elim (λ e. absurd cc) (λ h. h), inr)) (earliest None fs) (earliest-first None fs)

-- the earliest of a list is the first of what is just its members
pub earliest-of : (P : Stop → Type 0) (fs : List Stop) → ((f : Stop) → P f ↔ In f fs) → IsFirst P (earliest None fs)
earliest-of P fs law = IsFirst-same (λ f. In f fs) P (λ f. ((law f).1, (law f).0)) (earliest None fs) (earliest-In fs)

-- ---- several lists

pub earliest-append : (best : Option Stop) (xs ys : List Stop) → earliest best (xs ++ ys) ≡ earliest (earliest best xs) ys
earliest-append best xs ys = order.earliest-append is_before best xs ys
