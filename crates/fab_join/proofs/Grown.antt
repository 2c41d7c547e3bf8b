-- Lists that grow, and lists with a part set.
use Rattle.std.proofs.Common.{◌≡◌, ℕ, ◌+◌, ◌-◌, ◌≤◌, inl, inr, List, ◌++◌, length, drop, take, map, arith, refl, ap, sym, ◌∙◌}
use Rattle.std.proofs.lemmas.List.{take-map, drop-map, take_at, drop_at, take_all, take-append-le, drop-append-le, length-append, length-take-le, length-drop, drop-drop, drop-take, append_assoc, map-append, length-map, take-take}
use lib.Seq.{take-append-add}
use Rattle.trap_runtime.specs.cell_form.specs.Data.{BankData}
use Rattle.fab_join.specs.Banks.{pasted, IsClear}

pub part_mapped : {V W : Type 0} (f : V → W) (xs : List V) (a n : ℕ) → map f (take n (drop a xs)) ≡ take n (drop a (map f xs))
part_mapped f xs a n = sym (take-map f n (drop a xs)) ∙ ap (take n) (sym (drop-map f a xs))

drop-append-ge : {X : Type 0} (b : ℕ) (xs ys : List X) (n : ℕ) → length xs ≡ n → n ≤ b → drop b (xs ++ ys) ≡ drop (b - n) ys
drop-append-ge b xs ys n e le =
    ap (λ k. drop k (xs ++ ys)) (let s : b ≡ n + (b - n) = omega arith in s) ∙ sym (drop-drop (b - n) n (xs ++ ys)) ∙ ap (drop (b - n)) (drop_at xs ys n e)

front_part : {X : Type 0} (d : List X) (a b m : ℕ) → b + m ≤ a → take m (drop b (take a d)) ≡ take m (drop b d)
front_part d a b m le =
    let e : a ≡ b + (a - b) = omega arith in
    ap (λ k. take m (drop b (take k d))) e ∙ ap (take m) (drop-take b (a - b) d) ∙ take-take m (a - b) (drop b d) (omega arith)

-- what a part reads after it is set, and what others read
pub take_pasted : {X : Type 0} (d s : List X) (a : ℕ) → a + length s ≤ length d → take (length s) (drop a (pasted d a s)) ≡ s
take_pasted d s a le =
    let e = length-take-le a d (omega arith) in
    ap (take (length s)) (drop_at (take a d) (s ++ drop (a + length s) d) a e) ∙ take_at s (drop (a + length s) d) (length s) refl

pub length_pasted : {X : Type 0} (d s : List X) (a : ℕ) → a + length s ≤ length d → length (pasted d a s) ≡ length d
length_pasted d s a le =
    let e = length-append (take a d) (s ++ drop (a + length s) d) in
    let f = length-append s (drop (a + length s) d) in
    let g = length-drop (a + length s) d in
    let h = length-take-le a d (omega arith) in
    omega (arith, e, f, g, h)

pub pasted_elsewhere : {X : Type 0} (d s : List X) (a b m : ℕ) → a + length s ≤ length d → IsClear a (length s) b m → take m (drop b (pasted d a s)) ≡ take m (drop b d)
pasted_elsewhere d s a b m le clear =
    let front = length-take-le a d (omega arith) in
    elim clear [
      | inl low ↦ ap (take m)
          (ap (drop b) (sym (append_assoc (take a d) s (drop (a + length s) d)))
          ∙ drop-append-ge b (take a d ++ s) (drop (a + length s) d) (a + length s) (length-append (take a d) s ∙ ap (λ k. k + length s) front) low
          ∙ drop-drop (b - (a + length s)) (a + length s) d
          ∙ ap (λ k. drop k d) (omega arith))
      | inr high ↦
          ap (take m) (drop-append-le b (take a d) (s ++ drop (a + length s) d) (omega arith))
          ∙ take-append-le m (drop b (take a d)) (s ++ drop (a + length s) d) (let g = length-drop b (take a d) in omega (arith, g))
          ∙ front_part d a b m high
    ]

-- a part of a list that grew
pub part_longer : {X : Type 0} (xs more : List X) (a n : ℕ) → a + n ≤ length xs → take n (drop a (xs ++ more)) ≡ take n (drop a xs)
part_longer xs more a n le =
    ap (take n) (drop-append-le a xs more (omega arith)) ∙ take-append-le n (drop a xs) more (rw length-drop (omega arith))

-- the part that was added
pub part_added : {X : Type 0} (xs more : List X) → take (length more) (drop (length xs) (xs ++ more)) ≡ more
part_added xs more = ap (take (length more)) (drop_at xs more (length xs) refl) ∙ take_all (length more) more (omega arith)

pub pasted_mapped : {V W : Type 0} (f : V → W) (d s : List V) (a : ℕ) → map f (pasted d a s) ≡ pasted (map f d) a (map f s)
pasted_mapped f d s a =
    map-append f (take a d) (s ++ drop (a + length s) d)
    ∙ ap (λ xs. xs ++ map f (s ++ drop (a + length s) d)) (sym (take-map f a d))
    ∙ ap (λ ys. take a (map f d) ++ ys) (map-append f s (drop (a + length s) d) ∙ ap (λ zs. map f s ++ zs) (sym (drop-map f (a + length s) d) ∙ ap (λ k. drop (a + k) (map f d)) (sym (length-map s f))))

pub same_bank : (b c : BankData) → b.regs ≡ c.regs → b.mems ≡ c.mems → b.slots ≡ c.slots → b ≡ c
same_bank b c r m k =
    ap (λ x. record { regs = x; mems = b.mems; slots = b.slots }) r ∙ ap (λ x. record { regs = c.regs; mems = x; slots = b.slots }) m ∙ ap (λ x. record { regs = c.regs; mems = c.mems; slots = x }) k

take_over : {X : Type 0} (n k : ℕ) (xs ys : List X) → n ≡ length xs + k → take n (xs ++ ys) ≡ xs ++ take k ys
take_over n k xs ys e = ap (λ m. take m (xs ++ ys)) e ∙ take-append-add xs ys k

-- a part of a list in which items are set within this part
pub put_in_part : {X : Type 0} (xs : List X) (a n f : ℕ) (vs : List X) → f + length vs ≤ n → a + n ≤ length xs → take n (drop a (pasted xs (a + f) vs)) ≡ pasted (take n (drop a xs)) f vs
put_in_part xs a n f vs inside within =
    let ys = drop a xs in
    let v = length vs in
    let long = length-drop a xs in
    let front : length (take (a + f) xs) ≡ a + f = length-take-le (a + f) xs (omega arith) in
    let own : length (take f ys) ≡ f = length-take-le f ys (omega (arith, long)) in
    let rest : drop ((a + f) + v) xs ≡ drop (f + v) ys = ap (λ k. drop k xs) (omega arith) ∙ sym (drop-drop (f + v) a xs) in
    let m = n - (f + v) in
    let split : n ≡ (f + v) + m = omega arith in
    let left : take f ys ≡ take f (take n ys) = sym (take-take f n ys (omega arith)) in
    let right : take m (drop (f + v) ys) ≡ drop (f + v) (take n ys) = sym (drop-take (f + v) m ys) ∙ ap (λ k. drop (f + v) (take k ys)) (sym split) in
    ap (take n) (drop-append-le a (take (a + f) xs) (vs ++ drop ((a + f) + v) xs) (omega (arith, front)))
    ∙ ap (λ zs. take n (zs ++ (vs ++ drop ((a + f) + v) xs))) (drop-take a f xs)
    ∙ take_over n (v + m) (take f ys) (vs ++ drop ((a + f) + v) xs) (omega (arith, own))
    ∙ ap (λ zs. take f ys ++ zs) (take-append-add vs (drop ((a + f) + v) xs) m)
    ∙ ap (λ zs. take f ys ++ (vs ++ take m zs)) rest
    ∙ ap (λ zs. zs ++ (vs ++ take m (drop (f + v) ys))) left
    ∙ ap (λ zs. take f (take n ys) ++ (vs ++ zs)) right
