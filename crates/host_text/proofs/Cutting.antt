-- What stands before a byte in lists that are the same.
use Rattle.std.specs.Prelude.{◌≢◌}
use Rattle.std.proofs.Common.{◌≡◌, ℕ, ◌+◌, ◌%◌, ◌<◌, ◌^◌, List, [], ◌∷◌, ◌++◌, length, refl, sym, ap, ◌∙◌, arith}
use Rattle.std.specs.List.{AllByRecursion}
use Rattle.std.specs.Fmt.{decimal}
use Rattle.std.proofs.lemmas.Fmt.{decimal_by_steps, decimal_injective}

-- no byte is d
abbrev pub Lacks : ℕ → List ℕ → Type 0
Lacks d bs = AllByRecursion (λ b. b ≢ d) bs

pub lacks-append : (d : ℕ) (xs ys : List ℕ) → Lacks d xs → Lacks d ys → Lacks d (xs ++ ys)
lacks-append d [] ys h k = k
lacks-append d (x ∷ xs) ys h k = (h.0, lacks-append d xs ys h.1 k)

pub far : (d b : ℕ) → d < b → b ≢ d
far d b l = λ e. omega (arith, e)

pub decimal-lacks : (d : ℕ) → d < 48 → (n : ℕ) → n < 2 ^ 64 → Lacks d (decimal n)
decimal-lacks d low n small =
    decimal_by_steps (λ n ds. Lacks d ds) (λ n l. (far d (48 + n) (omega arith), tt))
    (λ n ds l h. lacks-append d ds ((48 + n % 10) ∷ []) h (far d (48 + n % 10) (omega arith), tt)) n small

near : (b d : ℕ) → b < d → b ≢ d
near b d l = λ e. omega (arith, e)

-- no digit is a byte above 57
pub decimal_lacks_letters : (d : ℕ) → 57 < d → (n : ℕ) → n < 2 ^ 64 → Lacks d (decimal n)
decimal_lacks_letters d high n small =
    decimal_by_steps (λ n ds. Lacks d ds) (λ n l. (near (48 + n) d (omega arith), tt))
    (λ n ds l h. lacks-append d ds ((48 + n % 10) ∷ []) h (near (48 + n % 10) d (omega arith), tt)) n small

-- lists that are the same begin the same
pub heads : (x y : ℕ) (xs ys : List ℕ) → x ∷ xs ≡ y ∷ ys → x ≡ y
heads x y xs ys e = cc

pub tails : (x y : ℕ) (xs ys : List ℕ) → x ∷ xs ≡ y ∷ ys → xs ≡ ys
tails x y xs ys e = cc

pub tail : {x : ℕ} {xs ys : List ℕ} → x ∷ xs ≡ x ∷ ys → xs ≡ ys
tail {x} {xs} {ys} e = tails x x xs ys e

pub not_empty : (x : ℕ) (xs : List ℕ) → [] ≡ x ∷ xs → ⊥
not_empty x xs e = cc

-- what stands before the first d, and what stands behind it
pub cut : (d : ℕ) (xs ys r q : List ℕ) → Lacks d xs → Lacks d ys → xs ++ (d ∷ r) ≡ ys ++ (d ∷ q) → (xs ≡ ys) × (r ≡ q)
cut d [] [] r q h k e = (refl, tails d d r q e)
cut d [] (y ∷ ys) r q h k e = absurd (k.0 (sym (heads d y r (ys ++ (d ∷ q)) e)))
cut d (x ∷ xs) [] r q h k e = absurd (h.0 (heads x d (xs ++ (d ∷ r)) q e))
cut d (x ∷ xs) (y ∷ ys) r q h k e =
    let first = heads x y (xs ++ (d ∷ r)) (ys ++ (d ∷ q)) e in
    let rest = cut d xs ys r q h.1 k.1 (tails x y (xs ++ (d ∷ r)) (ys ++ (d ∷ q)) e) in
    (ap (λ z. z ∷ xs) first ∙ ap (λ zs. y ∷ zs) rest.0, rest.1)

-- lists of one length
pub cut_at_length : (xs ys r q : List ℕ) → length xs ≡ length ys → xs ++ r ≡ ys ++ q → (xs ≡ ys) × (r ≡ q)
cut_at_length [] [] r q l e = (refl, e)
cut_at_length [] (y ∷ ys) r q l e = absurd (omega (arith, l))
cut_at_length (x ∷ xs) [] r q l e = absurd (omega (arith, l))
cut_at_length (x ∷ xs) (y ∷ ys) r q l e =
    let first = heads x y (xs ++ r) (ys ++ q) e in
    let rest = cut_at_length xs ys r q (omega (arith, l)) (tails x y (xs ++ r) (ys ++ q) e) in
    (ap (λ z. z ∷ xs) first ∙ ap (λ zs. y ∷ zs) rest.0, rest.1)

-- numbers
pub cut_numbers : (d : ℕ) → d < 48 → (m n : ℕ) (r q : List ℕ) → m < 2 ^ 64 → n < 2 ^ 64 → decimal m ++ (d ∷ r) ≡ decimal n ++ (d ∷ q) → (m ≡ n) × (r ≡ q)
cut_numbers d low m n r q s t e =
    let both = cut d (decimal m) (decimal n) r q (decimal-lacks d low m s) (decimal-lacks d low n t) e in
    (decimal_injective m n s t both.0, both.1)
