-- Tables of the nets that use bits of signals.
use Rattle.std.proofs.Common.{◌≡◌, ◌≢◌, ℕ, zero, suc, ◌+◌, ◌<◌, ◌≤◌, ◌^◌, Bool, true, false, List, [], ◌∷◌, ◌++◌, length, drop, get_or, set, refl, sym, ap, ◌∙◌, arith}
use Rattle.std.specs.Prelude.{◌||◌, ◌&&◌, ◌==◌, ◌⊎◌, nat_lt, slice_get, Some, None}
use Rattle.std.specs.Int.{bit_at, trailing_zeros, w128}
use Rattle.std.proofs.lemmas.Bool.{eq-eqb, ne_eqb, and_from, or_left, or_right}
use Rattle.std.proofs.lemmas.Nat.Bits.{bit_at-trailing_zeros}
use Rattle.std.specs.declared.alloc.Global.{Global}
use Rattle.std.specs.declared.vec.Vec.{Vec}
use mathlib.Core.Logic.{inl, inr}
use Rattle.vl_bits.specs.vl_paths.specs.Bits.{Bit}
use Rattle.vl_bits.specs.declared.parts.Part.{Part}
use Rattle.vl_bits.specs.Masks.{has, in_part}
use Rattle.vl_bits.proofs.Lists.{or_assoc, or_none}
use Rattle.cell_level.specs.declared.tables.User.{User}
use Rattle.cell_level.specs.Tables.{in_users, users_of, listed}
use Rattle.cell_level.proofs.Marking.{either}
pub use Rattle.vl_bits.specs.vl_base.proofs.Booleans.{or_and_false as no_parts, or_and_or as more_parts}

pub users_joined : (us : List User) (u : User) (p i : ℕ) → in_users (us ++ u ∷ []) p i ≡ (in_users us p i || ((u.net == p) && has u.bits i))
users_joined [] u p i = or_none ((u.net == p) && has u.bits i)
users_joined (x ∷ xs) u p i = ap (λ z. ((x.net == p) && has x.bits i) || z) (users_joined xs u p i) ∙ sym (or_assoc ((x.net == p) && has x.bits i) (in_users xs p i) ((u.net == p) && has u.bits i))

get_set_same : {A : Type 0} (xs : List A) (k : ℕ) (v : A) → k < length xs → slice_get (set xs k v) k ≡ Some v
get_set_same [] k v l = absurd (omega arith)
get_set_same (x ∷ xs) zero v l = refl
get_set_same (x ∷ xs) (suc k) v l = get_set_same xs k v (omega arith)

get_set_other : {A : Type 0} (xs : List A) (k j : ℕ) (v : A) → j ≢ k → slice_get (set xs k v) j ≡ slice_get xs j
get_set_other [] k j v d = refl
get_set_other (x ∷ xs) zero zero v d = absurd (d refl)
get_set_other (x ∷ xs) zero (suc j) v d = refl
get_set_other (x ∷ xs) (suc k) zero v d = refl
get_set_other (x ∷ xs) (suc k) (suc j) v d = get_set_other xs k j v (λ e. d (ap suc e))

pub get_there : {A : Type 0} (xs : List A) (k : ℕ) (x : A) → k < length xs → x ≡ get_or xs k x → slice_get xs k ≡ Some x
get_there [] k x l e = absurd (omega arith)
get_there (y ∷ ys) zero x l e = ap (λ z. Some z) (sym e)
get_there (y ∷ ys) (suc k) x l e = get_there ys k x (omega arith) e

pub get_past : {A : Type 0} (xs : List A) (k : ℕ) → length xs ≤ k → slice_get xs k ≡ None
get_past [] k l = refl
get_past (y ∷ ys) zero l = absurd (omega arith)
get_past (y ∷ ys) (suc k) l = get_past ys k (omega arith)

-- a user is put into a table
pub put_in : (table : List (Vec User Global)) (part : Part) (net : ℕ) (old new : Vec User Global) → part.signal < length table → old ≡ get_or table part.signal old →
    new.items ≡ old.items ++ record { net = net; bits = part.bits } ∷ [] → (p : ℕ) (b : Bit) → listed (set table part.signal new) p b ≡ (listed table p b || ((net == p) && in_part part b))
put_in table part net old new l r e p b = go (either b.signal part.signal)
  where
    user : User
    user = record { net = net; bits = part.bits }

    swapped : (x y : Bool) → (x && (true && y)) ≡ (x && y)
    swapped true y = refl
    swapped false y = refl

    none : (x y : Bool) → (x && (false && y)) ≡ false
    none true y = refl
    none false y = refl

    go : (b.signal ≡ part.signal) ⊎ (b.signal ≢ part.signal) → listed (set table part.signal new) p b ≡ (listed table p b || ((net == p) && in_part part b))
    go (inl k) =
        let before : slice_get table b.signal ≡ Some old = ap (slice_get table) k ∙ get_there table part.signal old l r in
        let after : slice_get (set table part.signal new) b.signal ≡ Some new = ap (slice_get (set table part.signal new)) k ∙ get_set_same table part.signal new l in
        let test : in_part part b ≡ (true && has part.bits b.place) = ap (λ z. z && has part.bits b.place) (eq-eqb b.signal part.signal k) in
        ap (λ v. in_users (users_of v) p b.place) after ∙ ap (λ us. in_users us p b.place) e ∙ users_joined old.items user p b.place
        ∙ ap (λ v. in_users (users_of v) p b.place || ((net == p) && has part.bits b.place)) (sym before)
        ∙ ap (λ z. listed table p b || z) (sym (ap (λ z. (net == p) && z) test ∙ swapped (net == p) (has part.bits b.place)))
    go (inr d) =
        let same : slice_get (set table part.signal new) b.signal ≡ slice_get table b.signal = get_set_other table part.signal b.signal new d in
        let test : in_part part b ≡ (false && has part.bits b.place) = ap (λ z. z && has part.bits b.place) (ne_eqb b.signal part.signal d) in
        ap (λ v. in_users (users_of v) p b.place) same
        ∙ sym (ap (λ z. listed table p b || z) (ap (λ z. (net == p) && z) test ∙ none (net == p) (has part.bits b.place)) ∙ or_none (listed table p b))

-- one net after another
pub more_nets : (i p : ℕ) (u : Bool) → ((nat_lt p i && u) || ((i == p) && u)) ≡ (nat_lt p (i + 1) && u)
more_nets i p true = grind arith
more_nets i p false = grind arith

pub other_nets : (i p : ℕ) (u v : Bool) → (i ≡ p → u ≡ v) → ((i == p) && u) ≡ ((i == p) && v)
other_nets i p u v h = go (either i p)
  where
    go : (i ≡ p) ⊎ (i ≢ p) → ((i == p) && u) ≡ ((i == p) && v)
    go (inl k) = ap (λ z. (i == p) && z) (h k)
    go (inr d) = ap (λ z. z && u) (ne_eqb i p d) ∙ sym (ap (λ z. z && v) (ne_eqb i p d))

-- a number that isn't 0 has a bit
pub some_bit : (n : ℕ) → 0 < n → n < 2 ^ 128 → (i : ℕ) × (has n i ≡ true)
some_bit n l h = let r = bit_at-trailing_zeros w128 n l h in (trailing_zeros w128 n, eq-eqb (bit_at n (trailing_zeros w128 n)) 1 r.1)

-- ---- one user after another

pub among_users : (us : List User) (i : ℕ) (d : User) (j : ℕ) → i < length us → has (get_or us i d).bits j ≡ true → in_users us (get_or us i d).net j ≡ true
among_users [] i d j l h = absurd (omega arith)
among_users (u ∷ us) zero d j l h = or_left ((u.net == u.net) && has u.bits j) (in_users us u.net j) (and_from (u.net == u.net) (has u.bits j) (eq-eqb u.net u.net refl) h)
among_users (u ∷ us) (suc i) d j l h =
    let v = get_or us i d in
    or_right ((u.net == v.net) && has u.bits j) (in_users us v.net j) (among_users us i d j (omega arith) h)
