-- Lists: laws that many proofs use.
use Rattle.std.proofs.Common.{Bool, List, Option, Some, [], ap, append_assoc, arith, drop, false, get_or, length, map, refl, replicate, subst, suc, sym, take, true, true≢false, zero, ℕ, ◌++◌, ◌+◌, ◌-◌, ◌<◌, ◌^◌, ◌∙◌, ◌∷◌, ◌≡◌, ◌≤◌}
use Rattle.std.proofs.Math.Pow.{pow_pos}
use Rattle.std.proofs.Math.Seq.{get_or-append_seam}
use Rattle.std.proofs.lemmas.List.{drop_more, get_or_default, length-append, map-append, take_more}
use Rattle.std.proofs.lemmas.List.Elements.{All-get_or, All-head}
use Rattle.std.proofs.lemmas.List.Sums.{sum_by-cons}
use Rattle.std.proofs.lemmas.Option.{none-some, slice_get-get_or, slice_get_within}
use Rattle.std.proofs.lemmas.Slice.Eq.{bytes_eq-Decides}
use Rattle.std.specs.List.{AllByRecursion, list_any}
use Rattle.std.specs.Prelude.{All, Some, replicate, slice_get, slice_index, sum_by, ◌||◌}
use Rattle.std.specs.Str.{bytes_eq}

pub all_push : {X : Type 0} (P : X → Type 0) (xs : List X) (x : X) → AllByRecursion P xs → P x → AllByRecursion P (xs ++ x ∷ [])
all_push P [] x h p = (p, tt)
all_push P (y ∷ ys) x h p = (h.0, all_push P ys x h.1 p)

pub append_none_right : {A : Type 0} (xs ys : List A) → xs ++ ys ≡ [] → ys ≡ []
append_none_right [] ys h = h
append_none_right (y ∷ xs) ys h = absurd cc

pub bytes_eq_self : (n : List ℕ) → bytes_eq n n ≡ true
bytes_eq_self n = (bytes_eq-Decides n n).1 refl

pub append_nil : {A : Type 0} (xs : List A) → xs ++ [] ≡ xs
append_nil [] = refl
append_nil (x ∷ xs) = ap (λ ys. x ∷ ys) (append_nil xs)

pub append_none_left : {A : Type 0} (xs ys : List A) → xs ++ ys ≡ [] → xs ≡ []
append_none_left [] ys h = refl
append_none_left (y ∷ xs) ys h = absurd cc

pub bytes_eq_from : (xs ys : List ℕ) → bytes_eq xs ys ≡ true → xs ≡ ys
bytes_eq_from xs ys h = (bytes_eq-Decides xs ys).0 h

pub all_weaker : {X : Type 0} (P Q : X → Type 0) → ((x : X) → P x → Q x) → (xs : List X) → AllByRecursion P xs → AllByRecursion Q xs
all_weaker P Q f [] h = tt
all_weaker P Q f (x ∷ xs) h = (f x h.0, all_weaker P Q f xs h.1)

pub map_take_more : {A B : Type 0} (g : A → B) (xs : List A) (i : ℕ) (y : A) → i < length xs → y ≡ get_or xs i y → map g (take (i + 1) xs) ≡ map g (take i xs) ++ g y ∷ []
map_take_more g xs i y h is = ap (map g) (take_more xs i y h) ∙ (map-append g (take i xs) (get_or xs i y ∷ []) ∙ ap (λ z. map g (take i xs) ++ g z ∷ []) (sym is))

-- a list that is followed by zeros, which stand past its end anyway
pub zero_index : (n k : ℕ) → slice_index (replicate n 0) k ≡ 0
zero_index zero k = refl
zero_index (suc n) zero = refl
zero_index (suc n) (suc k) = zero_index n k

pub append_assoc_four : (a b c d e : List ℕ) → (((a ++ b) ++ c) ++ d) ++ e ≡ a ++ (b ++ (c ++ (d ++ e)))
append_assoc_four a b c d e = simp append_assoc

-- the one at a place, whatever stands for none
pub get_or_any : {X : Type 0} (xs : List X) (i : ℕ) (d e : X) → i < length xs → get_or xs i d ≡ get_or xs i e
get_or_any [] i d e l = absurd (omega arith)
get_or_any (x ∷ xs) zero d e l = refl
get_or_any (x ∷ xs) (suc i) d e l = get_or_any xs i d e (omega arith)

pub all_weaker_of : {X : Type 0} (P Q : X → Type 0) (xs : List X) → ((x : X) → P x → Q x) → AllByRecursion P xs → AllByRecursion Q xs
all_weaker_of P Q [] f h = tt
all_weaker_of P Q (x ∷ xs) f h = (f x h.0, all_weaker_of P Q xs f h.1)

pub map_push : {X Y : Type 0} (f : X → Y) (xs : List X) (x : X) → map f (xs ++ x ∷ []) ≡ map f xs ++ f x ∷ []
map_push f [] x = refl
map_push f (y ∷ ys) x = ap (λ zs. f y ∷ zs) (map_push f ys x)

pub index_past : (xs : List ℕ) (i : ℕ) → length xs ≤ i → slice_index xs i ≡ 0
index_past [] i h = refl
index_past (x ∷ xs) zero h = absurd (omega (arith, h))
index_past (x ∷ xs) (suc i) h = index_past xs i (omega (arith, h))

-- a word alone
pub one_word : (ws : List ℕ) → length ws ≡ 1 → slice_index ws 0 ∷ [] ≡ ws
one_word [] e = absurd (omega arith)
one_word (w ∷ []) e = refl
one_word (w ∷ v ∷ ws) e = absurd (omega arith)

-- the first word of a signal fits
pub first_below : (w : ℕ) (ws : List ℕ) → All (λ v. v < 2 ^ w) ws → slice_index ws 0 < 2 ^ w
first_below w [] h = pow_pos w
first_below w (x ∷ xs) h = All-head (λ v. v < 2 ^ w) x xs h

pub bytes_eq_comm : (a e : List ℕ) → bytes_eq a e ≡ bytes_eq e a
bytes_eq_comm a e = by (bytes_eq a e) (bytes_eq e a) refl refl
  where
    by : (r s : Bool) → bytes_eq a e ≡ r → bytes_eq e a ≡ s → r ≡ s
    by true true h k = refl
    by false false h k = refl
    by true false h k = absurd (true≢false (sym ((bytes_eq-Decides e a).1 (sym ((bytes_eq-Decides a e).0 h))) ∙ k))
    by false true h k = absurd (true≢false (sym ((bytes_eq-Decides a e).1 (sym ((bytes_eq-Decides e a).0 k))) ∙ h))

pub zero_at : (n k z : ℕ) → get_or (replicate n z) k z ≡ z
zero_at zero k z = refl
zero_at (suc n) zero z = refl
zero_at (suc n) (suc k) z = zero_at n k z

pub append_assoc_five : (a b c d e f : List ℕ) → ((((a ++ b) ++ c) ++ d) ++ e) ++ f ≡ a ++ (b ++ (c ++ (d ++ (e ++ f))))
append_assoc_five a b c d e f = simp append_assoc

pub get_at_length : {A : Type 0} (xs : List A) (y : A) (ys : List A) → slice_get (xs ++ y ∷ ys) (length xs) ≡ Some y
get_at_length [] y ys = refl
get_at_length (x ∷ xs) y ys = get_at_length xs y ys

pub get_pushed : {A : Type 0} (pre : List A) (r : A) → slice_get (pre ++ r ∷ []) (length pre) ≡ Some r
get_pushed {A} pre r =
    slice_get-get_or (pre ++ r ∷ []) (length pre) r (omega (arith, length-append pre (r ∷ [])))
    ∙ ap (λ (z : A). Some z) (get_or-append_seam pre r [] r)

pub drop_suc : {X : Type 0} (xs : List X) (i : ℕ) (q : X) → slice_get xs i ≡ Some q → drop i xs ≡ q ∷ drop (suc i) xs
drop_suc [] i q h = absurd cc
drop_suc (y ∷ xs) zero q h = let e : y ≡ q = cc in ap (λ z. z ∷ xs) e
drop_suc (y ∷ xs) (suc i) q h = drop_suc xs i q h

pub get_or_itself : {X : Type 0} (t : List X) (i : ℕ) (d : X) → i < length t → get_or t i d ≡ get_or t i (get_or t i d)
get_or_itself t i d h = get_or_default t i d (get_or t i d) h

pub drop_next : {X : Type 0} (xs : List X) (i : ℕ) (x : X) → i < length xs → x ≡ get_or xs i x → drop i xs ≡ x ∷ drop (i + 1) xs
drop_next xs i x lt is = drop_more xs i x lt ∙ ap (λ y. y ∷ drop (i + 1) xs) (sym is)

-- what holds of each element holds of one at a place
pub all_get : {A : Type 0} (P : A → Type 0) (ys : List A) (i : ℕ) (y : A) → All P ys → slice_get ys i ≡ Some y → P y
all_get {A} P ys i y h e =
    let lt = slice_get_within ys i y e in
    subst P (some_is (sym (slice_get-get_or ys i y lt) ∙ e)) (All-get_or P ys i y lt h)
  where
    some_is : {z : A} → ◌≡◌ {A = Option A} (Some z) (Some y) → z ≡ y
    some_is q = cc

pub all_at : {X : Type 0} (P : X → Type 0) (xs : List X) (i : ℕ) (d : X) → i < length xs → AllByRecursion P xs → P (get_or xs i d)
all_at P [] i d lt h = absurd (omega arith)
all_at P (x ∷ xs) zero d lt h = h.0
all_at P (x ∷ xs) (suc i) d lt h = all_at P xs i d (omega arith) h.1

pub all_append_left : {X : Type 0} (P : X → Type 0) (xs ys : List X) → AllByRecursion P (xs ++ ys) → AllByRecursion P xs
all_append_left P [] ys h = tt
all_append_left P (x ∷ xs) ys h = (h.0, all_append_left P xs ys h.1)

pub all_append_right : {X : Type 0} (P : X → Type 0) (xs ys : List X) → AllByRecursion P (xs ++ ys) → AllByRecursion P ys
all_append_right P [] ys f = f
all_append_right P (x ∷ xs) ys f = all_append_right P xs ys f.1

-- one of them is one of the list
pub take_get : {X : Type 0} (n : ℕ) (xs : List X) (i : ℕ) (x : X) → slice_get (take n xs) i ≡ Some x → slice_get xs i ≡ Some x
take_get zero xs i x e = let z : ⊥ = cc in absurd z
take_get (suc n) [] i x e = e
take_get (suc n) (y ∷ xs) zero x e = e
take_get (suc n) (y ∷ xs) (suc i) x e = take_get n xs i x e

pub get_take : {X : Type 0} (n : ℕ) (xs : List X) (i : ℕ) → i < n → slice_get (take n xs) i ≡ slice_get xs i
get_take zero xs i l = absurd (omega (arith, l))
get_take (suc n) [] i l = refl
get_take (suc n) (x ∷ xs) zero l = refl
get_take (suc n) (x ∷ xs) (suc i) l = get_take n xs i (omega (arith, l))

pub get_append_left : {A : Type 0} (xs ys : List A) (n : ℕ) (x : A) → slice_get xs n ≡ Some x → slice_get (xs ++ ys) n ≡ Some x
get_append_left [] ys n x e = absurd (none-some x e)
get_append_left (z ∷ xs) ys zero x e = e
get_append_left (z ∷ xs) ys (suc n) x e = get_append_left xs ys n x e

pub any_wider : {X : Type 0} (f g : X → Bool) → ((x : X) → f x ≡ true → g x ≡ true) → (xs : List X) → list_any f xs ≡ true → list_any g xs ≡ true
any_wider f g h [] k = k
any_wider f g h (x ∷ xs) k = at (f x) (g x) (h x) k (any_wider f g h xs)
  where
    at : (a b : Bool) → (a ≡ true → b ≡ true) → (a || list_any f xs) ≡ true → (list_any f xs ≡ true → list_any g xs ≡ true) → (b || list_any g xs) ≡ true
    at a true i k r = refl
    at true false i k r = let z : false ≡ true = i refl in let y : ⊥ = cc in absurd y
    at false false i k r = r k

pub all_both : {X : Type 0} (P Q : X → Type 0) (xs : List X) → All P xs → All Q xs → All (λ x. P x × Q x) xs
all_both P Q xs a b i d lt = (a i d lt, b i d lt)

pub all_with : {X : Type 0} (P Q R : X → Type 0) → ((x : X) → P x → Q x → R x) → (xs : List X) → AllByRecursion P xs → AllByRecursion Q xs → AllByRecursion R xs
all_with P Q R f [] h k = tt
all_with P Q R f (x ∷ xs) h k = (f x h.0 k.0, all_with P Q R f xs h.1 k.1)

pub sum_map : {A B : Type 0} (f : B → ℕ) (g : A → B) (xs : List A) → sum_by f (map g xs) ≡ sum_by (λ x. f (g x)) xs
sum_map f g [] = refl
sum_map f g (x ∷ xs) = sum_by-cons f (g x) (map g xs) ∙ (ap (λ n. f (g x) + n) (sum_map f g xs) ∙ sym (sum_by-cons (λ y. f (g y)) x xs))
