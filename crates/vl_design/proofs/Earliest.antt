-- The first fault of lists, and of walks over them.
use Rattle.std.proofs.Common.{◌≡◌, sym, ap, ◌∙◌, ℕ, ◌+◌, ◌<◌, ◌≤◌, List, [], ◌∷◌, ◌++◌, length, get_or, drop}
use Rattle.std.specs.Prelude.{Option}
use Rattle.std.proofs.lemmas.List.{at_drop_more, at_drop_all}
use Rattle.std.proofs.lemmas.List.Sums.{fold-append}
use Rattle.vl_design.specs.declared.stop.Stop.{Stop}
use Rattle.vl_design.specs.Stops.{earlier, earliest}

pub earliest-append : (best : Option Stop) (a b : List Stop) → earliest best (a ++ b) ≡ earliest (earliest best a) b
earliest-append best a b = fold-append earlier best a b

-- the first of some, and then of others
pub over : (b m : Option Stop) (p q : List Stop) → m ≡ earliest b p → earliest m q ≡ earliest b (p ++ q)
over b m p q h = ap (λ z. earliest z q) h ∙ sym (earliest-append b p q)

pub chain : (b m r : Option Stop) (p q : List Stop) → m ≡ earliest b p → r ≡ earliest m q → r ≡ earliest b (p ++ q)
chain b m r p q h k = k ∙ over b m p q h

pub chain-three : (b m n r : Option Stop) (p q o : List Stop) → m ≡ earliest b p → n ≡ earliest m q → r ≡ earliest n o → r ≡ earliest b (p ++ (q ++ o))
chain-three b m n r p q o h k j = chain b m r p (q ++ o) h (chain m n r q o k j)

-- four in a row before others
pub over-four : (b t u v r : Option Stop) (c d e f o : List Stop) → t ≡ earliest b c → u ≡ earliest t d → v ≡ earliest u e → r ≡ earliest v f
    → earliest r o ≡ earliest b (c ++ (d ++ (e ++ (f ++ o))))
over-four b t u v r c d e f o h i j k =
    over v r f o k
    ∙ (over u v e (f ++ o) j
    ∙ (over t u d (e ++ (f ++ o)) i
    ∙ over b t c (d ++ (e ++ (f ++ o))) h))

-- ---- walks over lists, by what is left of them

pub left-is : {A : Type 0} {B : Type 0} (F : List A → B) (es : List A) (i : ℕ) (y : A) → i < length es → y ≡ get_or es i y → F (drop i es) ≡ F (y ∷ drop (i + 1) es)
left-is F es i y h is = at_drop_more F es i y h ∙ ap (λ z. F (z ∷ drop (i + 1) es)) (sym is)

pub step : {A : Type 0} (F : List A → List Stop) (f : A → List Stop) → ((y : A) (ys : List A) → F (y ∷ ys) ≡ f y ++ F ys) → (es : List A) (i : ℕ) (y : A) (a b r : Option Stop)
    → i < length es → y ≡ get_or es i y → b ≡ earliest a (f y) → earliest a (F (drop i es)) ≡ r → earliest b (F (drop (i + 1) es)) ≡ r
step F f cons es i y a b r h is k inv =
    over a b (f y) (F (drop (i + 1) es)) k
    ∙ (sym (ap (earliest a) (left-is F es i y h is ∙ cons y (drop (i + 1) es))) ∙ inv)

pub finish : {A : Type 0} (F : List A → List Stop) → F [] ≡ [] → (es : List A) (i : ℕ) (a r : Option Stop) → length es ≤ i → earliest a (F (drop i es)) ≡ r → a ≡ r
finish F none es i a r h inv = sym (ap (earliest a) (at_drop_all F es i h ∙ none)) ∙ inv

-- a walk whose step says what becomes of all that is left
pub step-left : {A : Type 0} {B : Type 0} (F : List A → B) (G H : B → List Stop) (es : List A) (i : ℕ) (y : A) (a b r : Option Stop)
    → i < length es → y ≡ get_or es i y → earliest b (H (F (drop (i + 1) es))) ≡ earliest a (G (F (y ∷ drop (i + 1) es))) → earliest a (G (F (drop i es))) ≡ r → earliest b (H (F (drop (i + 1) es))) ≡ r
step-left F G H es i y a b r h is k inv = k ∙ (sym (ap (λ z. earliest a (G z)) (left-is F es i y h is)) ∙ inv)
