-- Edges of nets, from what the tables say.
use Rattle.std.proofs.Common.{◌≡◌, ℕ, zero, suc, ◌+◌, ◌<◌, ◌≤◌, ◌^◌, Bool, true, false, not, List, [], ◌∷◌, length, drop, get_or, refl, sym, ap, ◌∙◌, arith, bit_and}
use Rattle.std.specs.Prelude.{◌&&◌, ◌==◌, ◌⊎◌, nat_eq, nat_lt, slice_get, Option, Some, None, IfSome, is_some}
use Rattle.std.proofs.lemmas.Bool.{eqb-true, eqb-false, eq-eqb, and_parts, and_from, and_right, or_cases, or_left, or_right, true≢false, not-true, not-false, false_from_ne_true, cases_lt, lt-ltb}
use Rattle.std.proofs.lemmas.Nat.{and_le_l}
use Rattle.std.specs.declared.alloc.Global.{Global}
use Rattle.std.specs.declared.vec.Vec.{Vec}
use mathlib.Core.Logic.{inl, inr}
use Rattle.vl_bits.specs.vl_paths.specs.Bits.{Bit}
use Rattle.vl_bits.specs.declared.parts.Part.{Part}
use Rattle.vl_bits.specs.Masks.{has, in_part, in_parts}
use Rattle.vl_bits.proofs.Lists.{next}
use Rattle.vl_bits.proofs.Masking.{has_and, has_none}
use Rattle.cell_level.specs.declared.tables.User.{User}
use Rattle.cell_level.specs.declared.nets.Net.{Net}
use Rattle.cell_level.specs.Cycles.{Leads, IsOnCycle}
use Rattle.cell_level.specs.Nets as spec
use Rattle.cell_level.specs.Tables.{in_users, users_of, listed}
use Rattle.cell_level.specs.Walks.{on, NoneLeads, InOrder}
use Rattle.cell_level.proofs.Users.{some_bit, get_there, get_past}

-- ---- masks

pub meets : (f s : ℕ) → f < 2 ^ 128 → not (nat_eq (bit_and f s) 0) ≡ true → (i : ℕ) × (has f i ≡ true) × (has s i ≡ true)
meets f s l h =
    let e = eqb-false (bit_and f s) 0 (not-true (nat_eq (bit_and f s) 0) h) in
    let r = some_bit (bit_and f s) (omega (arith, e)) (omega (arith, l, and_le_l f s)) in
    let b = and_parts (has f r.0) (has s r.0) (sym (has_and f s r.0) ∙ r.1) in
    (r.0, b.0, b.1)

pub meets_not : (f s : ℕ) → not (nat_eq (bit_and f s) 0) ≡ false → (i : ℕ) → has f i ≡ true → has s i ≡ false
meets_not f s h i e =
    let z : bit_and f s ≡ 0 = eqb-true (bit_and f s) 0 (not-false (nat_eq (bit_and f s) 0) h) in
    sym (ap (λ x. x && has s i) e) ∙ sym (has_and f s i) ∙ ap (λ m. has m i) z ∙ has_none i

-- ---- users and parts

none : Part
none = record { signal = 0; bits = 0 }

pub at_users : (table : List (Vec User Global)) (s : ℕ) (v : Vec User Global) (us : List User) → s < length table → v ≡ get_or table s v → us ≡ v.items → users_of (slice_get table s) ≡ us
at_users table s v us l e h = ap users_of (get_there table s v l e) ∙ sym h

pub among_parts : (ps : List Part) (k : ℕ) (d : Part) (b : Bit) → k < length ps → b.signal ≡ (get_or ps k d).signal → has (get_or ps k d).bits b.place ≡ true → in_parts ps b ≡ true
among_parts [] k d b l e h = absurd (omega arith)
among_parts (p ∷ ps) zero d b l e h = or_left (in_part p b) (in_parts ps b) (and_from (b.signal == p.signal) (has p.bits b.place) (eq-eqb b.signal p.signal e) h)
among_parts (p ∷ ps) (suc k) d b l e h = or_right (in_part p b) (in_parts ps b) (among_parts ps k d b (omega arith) e h)

-- all users of the next part have been passed
pub passed : (table : List (Vec User Global)) (parts : List Part) (flags : List Bool) (k : ℕ) (d : Part) (us : List User) → k < length parts → users_of (slice_get table (get_or parts k d).signal) ≡ us →
    ((p i : ℕ) → in_users us p i ≡ true → has (get_or parts k d).bits i ≡ true → on flags p ≡ true) →
    (p : ℕ) (b : Bit) → listed table p b ≡ true → on flags p ≡ false → in_parts (drop k parts) b ≡ true → in_parts (drop (k + 1) parts) b ≡ true
passed table parts flags k d us l u all p b h f r = go (or_cases (in_part (get_or parts k d) b) (in_parts (drop (k + 1) parts) b) (sym (next parts k d b l) ∙ r))
  where
    go : (in_part (get_or parts k d) b ≡ true) ⊎ (in_parts (drop (k + 1) parts) b ≡ true) → in_parts (drop (k + 1) parts) b ≡ true
    go (inr y) = y
    go (inl y) =
        let both = and_parts (b.signal == (get_or parts k d).signal) (has (get_or parts k d).bits b.place) y in
        let same : users_of (slice_get table b.signal) ≡ us = ap (λ z. users_of (slice_get table z)) (eqb-true b.signal (get_or parts k d).signal both.0) ∙ u in
        absurd (true≢false (sym (all p b.place (sym (ap (λ xs. in_users xs p b.place) same) ∙ h) both.1) ∙ f))

-- ---- nets

pub drives_at : (nets : List Net) (k : ℕ) (x : Net) (ps : List Part) (b : Bit) → k < length nets → x ≡ get_or nets k x → ps ≡ x.drives.items → spec.drives nets k b ≡ in_parts ps b
drives_at nets k x ps b l e h = ap (λ o. spec.net_drives o b) (get_there nets k x l e) ∙ ap (λ xs. in_parts xs b) (sym h)

pub reads_at : (nets : List Net) (k : ℕ) (x : Net) (ps : List Part) (b : Bit) → k < length nets → x ≡ get_or nets k x → ps ≡ x.reads.items → spec.reads nets k b ≡ in_parts ps b
reads_at nets k x ps b l e h = ap (λ o. spec.net_reads o b) (get_there nets k x l e) ∙ ap (λ xs. in_parts xs b) (sym h)

pub drives_past : (nets : List Net) (p : ℕ) (b : Bit) → length nets ≤ p → spec.drives nets p b ≡ false
drives_past nets p b l = ap (λ o. spec.net_drives o b) (get_past nets p l)

pub reads_past : (nets : List Net) (p : ℕ) (b : Bit) → length nets ≤ p → spec.reads nets p b ≡ false
reads_past nets p b l = ap (λ o. spec.net_reads o b) (get_past nets p l)

pub drives_below : (nets : List Net) (p : ℕ) (b : Bit) → spec.drives nets p b ≡ true → p < length nets
drives_below nets p b h = go (cases_lt p (length nets))
  where
    go : (p < length nets) ⊎ (length nets ≤ p) → p < length nets
    go (inl k) = k
    go (inr k) = absurd (true≢false (sym h ∙ drives_past nets p b k))

pub reads_below : (nets : List Net) (p : ℕ) (b : Bit) → spec.reads nets p b ≡ true → p < length nets
reads_below nets p b h = go (cases_lt p (length nets))
  where
    go : (p < length nets) ⊎ (length nets ≤ p) → p < length nets
    go (inl k) = k
    go (inr k) = absurd (true≢false (sym h ∙ reads_past nets p b k))

-- all nets have been passed
pub all_through : (i n p : ℕ) (u : Bool) → n ≤ i → (n ≤ p → u ≡ false) → (nat_lt p i && u) ≡ u
all_through i n p u l h = go (cases_lt p n)
  where
    go : (p < n) ⊎ (n ≤ p) → (nat_lt p i && u) ≡ u
    go (inl k) = ap (λ z. z && u) (lt-ltb p i (omega arith))
    go (inr k) = and_right (nat_lt p i) u (h k) ∙ sym (h k)

pub on_cycle_below : (nets : List Net) (p : ℕ) → IsOnCycle (spec.Edge nets) p → p < length nets
on_cycle_below nets p c = go c.0 c.1
  where
    go : (others : List ℕ) → Leads (spec.Edge nets) p others p → p < length nets
    go [] w = drives_below nets p w.0 w.1
    go (q ∷ qs) w = drives_below nets p w.0.0 w.0.1

none_drives : (nets : List Net) (ps : List ℕ) (q : ℕ) → NoneLeads (spec.Edge nets) ps q → spec.NoneDrives nets ps q
none_drives nets [] q h = tt
none_drives nets (p ∷ ps) q h = (λ b d. false_from_ne_true (spec.reads nets q b) (λ r. h.0 (b, d, r)), none_drives nets ps q h.1)

pub levelled : (nets : List Net) (ps : List ℕ) → InOrder (spec.Edge nets) ps → spec.Levelled nets ps
levelled nets [] h = tt
levelled nets (p ∷ ps) h = (none_drives nets (p ∷ ps) p h.0, levelled nets ps h.1)

-- ---- options

pub if_some : {A : Type 0} (P Q : A → Type 0) (o : Option A) → ((x : A) → P x → Q x) → IfSome o P → IfSome o Q
if_some P Q None f h = tt
if_some P Q (Some x) f h = f x h

pub is_none : {A : Type 0} (o : Option A) → is_some o ≡ false → o ≡ None
is_none None h = refl
is_none (Some x) h = absurd (true≢false h)

pub no_way : {A : Type 0} (o : Option A) (b : Bool) → IfSome o (λ v. b ≡ false) → b ≡ true → o ≡ None
no_way None b h e = refl
no_way (Some x) b h e = absurd (true≢false (sym e ∙ h))
