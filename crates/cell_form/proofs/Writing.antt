-- Writes in order.
use Rattle.std.proofs.Common.{◌≡◌, ◌≢◌, inl, inr, ℕ, zero, suc, ◌+◌, ◌-◌, ◌%◌, ◌<◌, min, Bool, true, false, List, [], ◌∷◌, ◌++◌, length, map, set, get_or, refl, sym, ap, ◌∙◌, arith, subst}
use Rattle.std.specs.Prelude.{not, ◌&&◌, ◌||◌, ◌==◌, if◌then◌else◌, slice_index, slice_index_or, bit_and, bit_xor}
use Rattle.std.specs.List.{AllByRecursion, list_any}
use Rattle.std.specs.Int.{bit_at}
use Rattle.std.proofs.lemmas.List.{length-set, map-set, length-map, get_or-set_same, get_or-set_other, set-get_or, set_past}
use Rattle.std.proofs.lemmas.Nat.Bits.{bit_at_and, bit_at_xor}
use Rattle.std.proofs.lemmas.Bool.{cases_lt, cases_eq}
use Rattle.std.proofs.lemmas.Bool.Decides.{nat_tests}
use Rattle.cell_form.specs.declared.cell.Write.{Write}
use Rattle.cell_form.specs.declared.cell.Write.TheVariants as w
use Rattle.cell_form.specs.Data.{BankData}
use Rattle.cell_form.specs.Cycle.{masked, with_word, wrote, written}
use Rattle.cell_form.specs.Sound.{Shape, IsAmong, IsWrite, shape_of}
use Rattle.cell_form.specs.Writes.{sets_register, sets_word, word_of}
use Rattle.vl_base.proofs.Booleans.{or_parts_false as or-false}
use Rattle.vl_base.proofs.Numbers.{length_at as length-at}
use Rattle.vl_base.proofs.SumLaws.{not-zero}

kept-under : {X : Type 0} (f : BankData → X) (q : Bool) (a b : BankData) → f a ≡ f b → f (if q then b else a) ≡ f b
kept-under f true a b e = refl
kept-under f false a b e = e

-- what a write of a word leaves
abbrev stored : BankData → ℕ → ℕ → ℕ → ℕ → BankData
stored b m k new mask = record b { mems = set b.mems m (with_word (get_or b.mems m []) k new mask) }

module _ (value : ℕ → ℕ) where
  pub written-more : (xs ys : List Write) (b : BankData) → written value (xs ++ ys) b ≡ written value ys (written value xs b)
  written-more [] ys b = refl
  written-more (x ∷ xs) ys b = written-more xs ys (wrote value x b)

  wrote-register : (x : Write) (r : ℕ) (b : BankData) → sets_register r x ≡ false → slice_index (wrote value x b).regs r ≡ slice_index b.regs r
  wrote-register (w.Reg k s) r b h =
      let other : r ≢ k = grind (arith, nat_tests) in
      get_or-set_other b.regs k r (value s) 0 other
  wrote-register (w.Mem m enable word new mask) r b h =
      kept-under (λ (x : BankData). slice_index x.regs r) (value enable == 0) (stored b m (value word) (value new) (value mask)) b refl

  pub register-stays : (xs : List Write) (r : ℕ) (b : BankData) → list_any (sets_register r) xs ≡ false → slice_index (written value xs b).regs r ≡ slice_index b.regs r
  register-stays [] r b h = refl
  register-stays (x ∷ xs) r b h =
      let k = or-false (sets_register r x) (list_any (sets_register r) xs) h in
      register-stays xs r (wrote value x b) k.1 ∙ wrote-register x r b k.0

  wrote-regs : (x : Write) (b : BankData) → length (wrote value x b).regs ≡ length b.regs
  wrote-regs (w.Reg k s) b = length-set b.regs k (value s)
  wrote-regs (w.Mem m enable word new mask) b =
      kept-under (λ (x : BankData). length x.regs) (value enable == 0) (stored b m (value word) (value new) (value mask)) b refl

  pub written-regs : (xs : List Write) (b : BankData) → length (written value xs b).regs ≡ length b.regs
  written-regs [] b = refl
  written-regs (x ∷ xs) b = written-regs xs (wrote value x b) ∙ wrote-regs x b

  pub wrote-slots : (x : Write) (b : BankData) → (wrote value x b).slots ≡ b.slots
  wrote-slots (w.Reg k s) b = refl
  wrote-slots (w.Mem m enable word new mask) b =
      kept-under (λ (x : BankData). x.slots) (value enable == 0) (stored b m (value word) (value new) (value mask)) b refl

  pub written-slots : (xs : List Write) (b : BankData) → (written value xs b).slots ≡ b.slots
  written-slots [] b = refl
  written-slots (x ∷ xs) b = written-slots xs (wrote value x b) ∙ wrote-slots x b

  pub register-stands : (before after : List Write) (r s : ℕ) (b : BankData) → r < length b.regs → list_any (sets_register r) after ≡ false → slice_index (written value (before ++ w.Reg r s ∷ after) b).regs r ≡ value s
  register-stands before after r s b lt h =
      let now = written value before b in
      let there : r < length now.regs = omega (arith, written-regs before b) in
      ap (λ (x : BankData). slice_index x.regs r) (written-more before (w.Reg r s ∷ after) b)
      ∙ register-stays after r (wrote value (w.Reg r s) now) h
      ∙ get_or-set_same now.regs r (value s) 0 there

stored-lengths : (b : BankData) (m k new mask : ℕ) → map (λ (x : List ℕ). length x) (stored b m k new mask).mems ≡ map (λ (x : List ℕ). length x) b.mems
stored-lengths b m k new mask =
    let old = get_or b.mems m [] in
    let f : List ℕ → ℕ = λ (x : List ℕ). length x in
    map-set f b.mems m (with_word old k new mask)
    ∙ ap (set (map f b.mems) m) (length-set old k (masked (get_or old k 0) new mask) ∙ length-at b.mems m)
    ∙ set-get_or (map f b.mems) m 0

-- a word behind a write of another one
stored-beside : (b : BankData) (m k new mask i : ℕ) → (i ≡ k → ⊥) → word_of (stored b m k new mask) m i ≡ word_of b m i
stored-beside b m k new mask i other =
    let old = get_or b.mems m [] in
    elim (cases_lt m (length b.mems)) [
      | inl lt ↦ ap (λ (ws : List ℕ). get_or ws i 0) (get_or-set_same b.mems m (with_word old k new mask) [] lt) ∙ get_or-set_other old k i (masked (get_or old k 0) new mask) 0 other
      | inr past ↦ ap (λ (ms : List (List ℕ)). get_or (get_or ms m []) i 0) (set_past b.mems m (with_word old k new mask) past)
    ]

-- a word behind a write to another memory
stored-elsewhere : (b : BankData) (m k new mask n i : ℕ) → (n ≡ m → ⊥) → word_of (stored b m k new mask) n i ≡ word_of b n i
stored-elsewhere b m k new mask n i other =
    ap (λ (ws : List ℕ). get_or ws i 0) (get_or-set_other b.mems m n (with_word (get_or b.mems m []) k new mask) [] other)

stored-there : (b : BankData) (m k new mask : ℕ) → m < length b.mems → k < length (get_or b.mems m []) → word_of (stored b m k new mask) m k ≡ masked (word_of b m k) new mask
stored-there b m k new mask lt within =
    let old = get_or b.mems m [] in
    ap (λ (ws : List ℕ). get_or ws k 0) (get_or-set_same b.mems m (with_word old k new mask) [] lt)
    ∙ get_or-set_same old k (masked (get_or old k 0) new mask) 0 within

apart : (n m k i : ℕ) → ((n == m) && (k == i)) ≡ false → m ≡ n → i ≡ k → ⊥
apart n m k i h e f = grind (arith, nat_tests)

stored-kept : (b : BankData) (n k new mask m i : ℕ) → ((n == m) && (k == i)) ≡ false → word_of (stored b n k new mask) m i ≡ word_of b m i
stored-kept b n k new mask m i h =
    elim (cases_eq m n) [
      | inl same ↦ (
          let P : ℕ → Type 0 = λ q. word_of (stored b q k new mask) m i ≡ word_of b m i in
          subst P same (stored-beside b m k new mask i (apart n m k i h same)))
      | inr other ↦ stored-elsewhere b n k new mask m i other
    ]

kept-if : (q : Bool) (b : BankData) (n k new mask m i : ℕ) → ((n == m) && (not q && (k == i))) ≡ false → word_of (if q then b else stored b n k new mask) m i ≡ word_of b m i
kept-if true b n k new mask m i h = refl
kept-if false b n k new mask m i h = stored-kept b n k new mask m i h

lengths-if : (q : Bool) (b : BankData) (n k new mask : ℕ) → map (λ (x : List ℕ). length x) (if q then b else stored b n k new mask).mems ≡ map (λ (x : List ℕ). length x) b.mems
lengths-if true b n k new mask = refl
lengths-if false b n k new mask = stored-lengths b n k new mask

module _ (value : ℕ → ℕ) where
  wrote-word : (x : Write) (m i : ℕ) (b : BankData) → sets_word value m i x ≡ false → word_of (wrote value x b) m i ≡ word_of b m i
  wrote-word (w.Reg r s) m i b h = refl
  wrote-word (w.Mem n enable word new mask) m i b h = kept-if (value enable == 0) b n (value word) (value new) (value mask) m i h

  pub word-stays : (xs : List Write) (m i : ℕ) (b : BankData) → list_any (sets_word value m i) xs ≡ false → word_of (written value xs b) m i ≡ word_of b m i
  word-stays [] m i b h = refl
  word-stays (x ∷ xs) m i b h =
      let k = or-false (sets_word value m i x) (list_any (sets_word value m i) xs) h in
      word-stays xs m i (wrote value x b) k.1 ∙ wrote-word x m i b k.0

  wrote-lengths : (x : Write) (b : BankData) → map (λ (y : List ℕ). length y) (wrote value x b).mems ≡ map (λ (y : List ℕ). length y) b.mems
  wrote-lengths (w.Reg r s) b = refl
  wrote-lengths (w.Mem n enable word new mask) b = lengths-if (value enable == 0) b n (value word) (value new) (value mask)

  pub written-lengths : (xs : List Write) (b : BankData) → map (λ (y : List ℕ). length y) (written value xs b).mems ≡ map (λ (y : List ℕ). length y) b.mems
  written-lengths [] b = refl
  written-lengths (x ∷ xs) b = written-lengths xs (wrote value x b) ∙ wrote-lengths x b

  pub written-mems : (xs : List Write) (b : BankData) → length (written value xs b).mems ≡ length b.mems
  written-mems xs b =
      let f : List ℕ → ℕ = λ (y : List ℕ). length y in
      sym (length-map (written value xs b).mems f) ∙ ap (λ (ns : List ℕ). length ns) (written-lengths xs b) ∙ length-map b.mems f

  pub word-stands : (before after : List Write) (m enable word new mask : ℕ) (b : BankData) → m < length b.mems → value word < length (slice_index_or b.mems m []) → value enable ≢ 0 → list_any (sets_word value m (value word)) after ≡ false → word_of (written value (before ++ w.Mem m enable word new mask ∷ after) b) m (value word) ≡ masked (word_of (written value before b) m (value word)) (value new) (value mask)
  word-stands before after m enable word new mask b lt within on h =
      let now = written value before b in
      let there : m < length now.mems = omega (arith, written-mems before b) in
      let same : length (get_or now.mems m []) ≡ length (get_or b.mems m []) = length-at now.mems m ∙ ap (λ (ns : List ℕ). get_or ns m 0) (written-lengths before b) ∙ sym (length-at b.mems m) in
      let inside : value word < length (get_or now.mems m []) = omega (arith, same) in
      ap (λ (x : BankData). word_of x m (value word)) (written-more value before (w.Mem m enable word new mask ∷ after) b)
      ∙ word-stays after m (value word) (wrote value (w.Mem m enable word new mask) now) h
      ∙ ap (λ q. word_of (if q then now else stored now m (value word) (value new) (value mask)) m (value word)) (not-zero (value enable) on)
      ∙ stored-there now m (value word) (value new) (value mask) there inside

shape-if : (q : Bool) (b : BankData) (n k new mask : ℕ) → shape_of (if q then b else stored b n k new mask) ≡ shape_of b
shape-if true b n k new mask = refl
shape-if false b n k new mask = ap (λ x. record { regs = length b.regs; mems = x; slots = length b.slots }) (length-set b.mems n (with_word (get_or b.mems n []) k new mask))

-- a write leaves as many registers, memories and slots
pub wrote-shape : (value : ℕ → ℕ) (x : Write) (b : BankData) → shape_of (wrote value x b) ≡ shape_of b
wrote-shape value (w.Reg k s) b = ap (λ x. record { regs = x; mems = length b.mems; slots = length b.slots }) (length-set b.regs k (value s))
wrote-shape value (w.Mem m enable word new mask) b = shape-if (value enable == 0) b m (value word) (value new) (value mask)

-- ---- writes from slots that have the same values

module _ (s : Shape) (first n : ℕ) (value other : ℕ → ℕ) (agree : (a : ℕ) → IsAmong first n a → value a ≡ other a) where
  wrote-same : (x : Write) (b : BankData) → IsWrite s first n x → wrote value x b ≡ wrote other x b
  wrote-same (w.Reg r a) b h = ap (λ v. record b { regs = set b.regs r v }) (agree a h.1)
  wrote-same (w.Mem m enable word new mask) b h =
      let e0 = agree enable h.1 in
      let e1 = agree word h.2 in
      let e2 = agree new h.3 in
      let e3 = agree mask h.4 in
      ap (λ v. if v == 0 then b else record b { mems = set b.mems m (with_word (get_or b.mems m []) (value word) (value new) (value mask)) }) e0
      ∙ ap (λ v. if other enable == 0 then b else record b { mems = set b.mems m (with_word (get_or b.mems m []) v (value new) (value mask)) }) e1
      ∙ ap (λ v. if other enable == 0 then b else record b { mems = set b.mems m (with_word (get_or b.mems m []) (other word) v (value mask)) }) e2
      ∙ ap (λ v. if other enable == 0 then b else record b { mems = set b.mems m (with_word (get_or b.mems m []) (other word) (other new) v) }) e3

  pub written-same : (xs : List Write) (b : BankData) → AllByRecursion (IsWrite s first n) xs → written value xs b ≡ written other xs b
  written-same [] b h = refl
  written-same (x ∷ xs) b h = written-same xs (wrote value x b) h.1 ∙ ap (written other xs) (wrote-same x b h.0)

-- ---- bits under a mask

mixed : (a b m : ℕ) → a < 2 → b < 2 → m < 2 → (a + min ((a + b) % 2) m) % 2 ≡ (if m == 0 then a else b)
mixed zero zero zero h k l = refl
mixed zero zero (suc zero) h k l = refl
mixed zero (suc zero) zero h k l = refl
mixed zero (suc zero) (suc zero) h k l = refl
mixed (suc zero) zero zero h k l = refl
mixed (suc zero) zero (suc zero) h k l = refl
mixed (suc zero) (suc zero) zero h k l = refl
mixed (suc zero) (suc zero) (suc zero) h k l = refl
mixed (suc (suc a)) b m h k l = absurd (omega arith)
mixed a (suc (suc b)) m h k l = absurd (omega arith)
mixed a b (suc (suc m)) h k l = absurd (omega arith)

pub masked-bit : (old new mask i : ℕ) → bit_at (masked old new mask) i ≡ (if bit_at mask i == 0 then bit_at old i else bit_at new i)
masked-bit old new mask i =
    bit_at_xor old (bit_and (bit_xor old new) mask) i
    ∙ ap (λ n. (bit_at old i + n) % 2) (bit_at_and (bit_xor old new) mask i ∙ ap (λ n. min n (bit_at mask i)) (bit_at_xor old new i))
    ∙ mixed (bit_at old i) (bit_at new i) (bit_at mask i) (omega arith) (omega arith) (omega arith)
