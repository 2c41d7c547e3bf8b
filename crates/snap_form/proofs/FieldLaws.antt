-- A field that is read is spelt so, and what is spelt so is read again.
use Rattle.std.proofs.Common.{◌≡◌, ℕ, zero, suc, ◌+◌, ◌*◌, ◌^◌, ◌<◌, ◌≤◌, Bool, true, false, cond, ltb, leb, eqb, ◌&&◌, List, [], ◌∷◌, ◌++◌, length, get_or, take, drop, Result, Ok, Err, refl, sym, ap, subst, ◌∙◌, append_assoc, arith}
use Rattle.std.specs.Int.Digits.{number_from_digits}
use Rattle.std.specs.Str.{bytes_eq}
use Rattle.std.proofs.lemmas.Bool.{ltb-false, le-ltb, eqb-true, eq-eqb}
use Rattle.std.proofs.lemmas.List.{take_at, drop_at, take-append-drop, length-append, length-take-le, get_or-drop}
use Rattle.std.proofs.lemmas.Slice.Eq.{bytes_eq-Decides}
use Rattle.snap_form.specs.declared.fault.Fault.{Fault}
use Rattle.snap_form.specs.Reading.{◌>>=◌, fault, field, number, number_if, same_number, same_bytes}
use Rattle.snap_form.specs.Spelling.{big_endian}
use Rattle.snap_form.proofs.Numbers.{IsBytes, length-places, places-again, places-back, number-below}

-- the value of a step that did not fail
pub bind_ok : {A B : Type 0} (r : Result A Fault) (f : A → Result B Fault) (y : B) → (r >>= f) ≡ Ok y → (x : A) × (r ≡ Ok x) × (f x ≡ Ok y)
bind_ok (Ok x) f y e = (x, refl, e)
bind_ok (Err d) f y e = absurd cc

-- a test that was passed, and one that was not failed
pub passed : {A : Type 0} (b : Bool) (d : Fault) (x y : A) → cond b (Ok x) (Err d) ≡ Ok y → (b ≡ true) × (x ≡ y)
passed true d x y e = (refl, cc)
passed false d x y e = absurd cc

pub not_failed : {A : Type 0} (b : Bool) (d : Fault) (x y : A) → cond b (Err d) (Ok x) ≡ Ok y → (b ≡ false) × (x ≡ y)
not_failed true d x y e = absurd cc
not_failed false d x y e = (refl, cc)

abbrev done : {A : Type 0} → A → Result A Fault
done x = Ok x

pub ok_is : {A : Type 0} (x y : A) → done x ≡ done y → x ≡ y
ok_is x y e = cc

IsBytes-drop : (n : ℕ) (bytes : List ℕ) → IsBytes bytes → IsBytes (drop n bytes)
IsBytes-drop n bytes h i = rw get_or-drop (h (n + i))

-- what a reader took from the front
pub record Takes (bytes text rest : List ℕ) : Type 0 where
  pub parts : bytes ≡ text ++ rest
  pub rest_fits : IsBytes rest

pub Takes-then : (a x b y c : List ℕ) → Takes a x b → Takes b y c → Takes a (x ++ y) c
Takes-then a x b y c p q = record { parts = p.parts ∙ ap (λ (t : List ℕ). x ++ t) q.parts ∙ sym (append_assoc x y c); rest_fits = q.rest_fits }

pub Takes-as : (a x y c : List ℕ) → x ≡ y → Takes a x c → Takes a y c
Takes-as a x y c e p = subst (λ t. Takes a t c) e p

-- ---- bytes

pub field_takes : (n : ℕ) (bytes : List ℕ) (x : List ℕ × List ℕ) → IsBytes bytes → field n bytes ≡ Ok x → Takes bytes x.0 x.1 × (length x.0 ≡ n)
field_takes n bytes x fits e =
    let g = not_failed (ltb (length bytes) n) (fault 3 []) (take n bytes, drop n bytes) x e in
    let long : n ≤ length bytes = ltb-false _ _ g.0 in
    subst (λ (y : List ℕ × List ℕ). Takes bytes y.0 y.1 × (length y.0 ≡ n)) g.1 (record { parts = sym (take-append-drop n bytes); rest_fits = IsBytes-drop n bytes fits }, length-take-le n bytes long)

pub field_again : (n : ℕ) (text rest : List ℕ) → length text ≡ n → field n (text ++ rest) ≡ Ok (text, rest)
field_again n text rest len =
    let long : ltb (length (text ++ rest)) n ≡ false = le-ltb _ _ (omega (arith, len, length-append text rest)) in
    rw (long, take_at text rest n len, drop_at text rest n len) refl

-- ---- numbers

pub number_takes : (n : ℕ) (bytes : List ℕ) (x : ℕ × List ℕ) → IsBytes bytes → number n bytes ≡ Ok x → Takes bytes (big_endian n x.0) x.1 × (x.0 < 2 ^ (8 * n))
unfolding number
number_takes n bytes x fits e =
    let b = bind_ok (field n bytes) (λ f. Ok (number_from_digits 256 f.0, f.1)) x e in
    let g = not_failed (ltb (length bytes) n) (fault 3 []) (take n bytes, drop n bytes) b.0 b.1 in
    let long : n ≤ length bytes = ltb-false _ _ g.0 in
    let made : ℕ × List ℕ = (number_from_digits 256 (take n bytes), drop n bytes) in
    let is : made ≡ x = ap (λ (f : List ℕ × List ℕ). (number_from_digits 256 f.0, f.1)) g.1 ∙ ok_is (number_from_digits 256 b.0.0, b.0.1) x b.2 in
    let parts : bytes ≡ big_endian n (number_from_digits 256 (take n bytes)) ++ drop n bytes =
    sym (ap (λ (t : List ℕ). t ++ drop n bytes) (places-back n bytes fits long) ∙ take-append-drop n bytes) in
    subst (λ (y : ℕ × List ℕ). Takes bytes (big_endian n y.0) y.1 × (y.0 < 2 ^ (8 * n))) is (record { parts = parts; rest_fits = IsBytes-drop n bytes fits }, number-below n bytes fits long)

pub number_again : (n v : ℕ) (rest : List ℕ) → v < 2 ^ (8 * n) → number n (big_endian n v ++ rest) ≡ Ok (v, rest)
unfolding number
number_again n v rest lt =
    ap (λ r. r >>= λ f. Ok (number_from_digits 256 f.0, f.1)) (field_again n (big_endian n v) rest (length-places n v))
    ∙ ap (λ m. Ok (m, rest)) (places-again n v lt)

pub number_if_takes : (p : ℕ → Bool) (kind n : ℕ) (bytes : List ℕ) (x : ℕ × List ℕ) → IsBytes bytes → number_if p kind n bytes ≡ Ok x → Takes bytes (big_endian n x.0) x.1 × (x.0 < 2 ^ (8 * n)) × (p x.0 ≡ true)
unfolding number_if
number_if_takes p kind n bytes x fits e =
    let b = bind_ok (number n bytes) (λ y. cond (p y.0) (Ok y) (Err (fault kind bytes))) x e in
    let g = passed (p b.0.0) (fault kind bytes) b.0 x b.2 in
    let t = number_takes n bytes b.0 fits b.1 in
    subst (λ (y : ℕ × List ℕ). Takes bytes (big_endian n y.0) y.1 × (y.0 < 2 ^ (8 * n)) × (p y.0 ≡ true)) g.1 (t.0, t.1, g.0)

pub number_if_again : (p : ℕ → Bool) (kind n v : ℕ) (rest : List ℕ) → v < 2 ^ (8 * n) → p v ≡ true → number_if p kind n (big_endian n v ++ rest) ≡ Ok (v, rest)
unfolding number_if
number_if_again p kind n v rest lt h =
    ap (λ r. r >>= λ y. cond (p y.0) (Ok y) (Err (fault kind (big_endian n v ++ rest)))) (number_again n v rest lt)
    ∙ ap (λ b. cond b (Ok (v, rest)) (Err (fault kind (big_endian n v ++ rest)))) h

pub same_number_takes : (v kind n : ℕ) (bytes rest : List ℕ) → IsBytes bytes → same_number v kind n bytes ≡ Ok rest → Takes bytes (big_endian n v) rest × (v < 2 ^ (8 * n))
unfolding same_number
same_number_takes v kind n bytes rest fits e =
    let b = bind_ok (number_if (λ m. eqb m v) kind n bytes) (λ x. Ok x.1) rest e in
    let t = number_if_takes (λ m. eqb m v) kind n bytes b.0 fits b.1 in
    let same : b.0.0 ≡ v = eqb-true _ _ t.2 in
    let first : Takes bytes (big_endian n v) b.0.1 × (v < 2 ^ (8 * n)) = subst (λ m. Takes bytes (big_endian n m) b.0.1 × (m < 2 ^ (8 * n))) same (t.0, t.1) in
    subst (λ (r : List ℕ). Takes bytes (big_endian n v) r × (v < 2 ^ (8 * n))) (ok_is b.0.1 rest b.2) first

pub same_number_again : (v kind n : ℕ) (rest : List ℕ) → v < 2 ^ (8 * n) → same_number v kind n (big_endian n v ++ rest) ≡ Ok rest
unfolding same_number
same_number_again v kind n rest lt = ap (λ r. r >>= λ x. Ok x.1) (number_if_again (λ m. eqb m v) kind n v rest lt (eq-eqb v v refl))

pub same_bytes_takes : (value : List ℕ) (kind : ℕ) (bytes rest : List ℕ) → IsBytes bytes → same_bytes value kind bytes ≡ Ok rest → Takes bytes value rest
unfolding same_bytes
same_bytes_takes value kind bytes rest fits e =
    let b = bind_ok (field (length value) bytes) (λ x. cond (bytes_eq x.0 value) (Ok x.1) (Err (fault kind bytes))) rest e in
    let g = passed (bytes_eq b.0.0 value) (fault kind bytes) b.0.1 rest b.2 in
    let t = field_takes (length value) bytes b.0 fits b.1 in
    let same : b.0.0 ≡ value = (bytes_eq-Decides b.0.0 value).0 g.0 in
    subst (λ (r : List ℕ). Takes bytes value r) g.1 (Takes-as bytes b.0.0 value b.0.1 same t.0)

pub same_bytes_again : (value : List ℕ) (kind : ℕ) (rest : List ℕ) → same_bytes value kind (value ++ rest) ≡ Ok rest
unfolding same_bytes
same_bytes_again value kind rest =
    ap (λ r. r >>= λ x. cond (bytes_eq x.0 value) (Ok x.1) (Err (fault kind (value ++ rest)))) (field_again (length value) value rest refl)
    ∙ ap (λ b. cond b (Ok rest) (Err (fault kind (value ++ rest)))) ((bytes_eq-Decides value value).1 refl)
