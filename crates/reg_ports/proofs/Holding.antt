-- A bank in which one port holds other words.
use Rattle.std.proofs.Common.{◌≡◌, ◌≢◌, inl, inr, ℕ, zero, suc, ◌<◌, ◌≤◌, Bool, true, false, List, [], ◌∷◌, ◌++◌, length, map, sum, replicate, set, get_or, take, drop, refl, sym, ap, ◌∙◌, arith, subst, length-append, length-drop}
use Rattle.std.specs.Prelude.{if◌then◌else◌, slice_index}
use Rattle.std.proofs.lemmas.List.{length-set, length-map, length-replicate, length-take-le, map-set, set-get_or, set-append_left, get_or-map, get_or-take, get_or-set_same, get_or-set_other, take_at, take-append-drop, nil_from_length}
use Rattle.std.proofs.lemmas.List.Sums.{sum_by-cons}
use Rattle.std.proofs.lemmas.Bool.{cases_Bool}
use Rattle.cell_form.specs.declared.bank.Port.{Port}
use Rattle.cell_form.specs.Data.{BankData}
use Rattle.cell_form.specs.Sound.{SameShape}
use Rattle.cell_form.specs.Writes.{word_of}
use Rattle.reg_ports.specs.Ports.{word_count, word_counts, widths, held, with_held, IsThere, AreApart}
use Rattle.cell_form.specs.vl_base.proofs.Lists.{one_word as one-word}

-- words over the first ones of others
abbrev pub over : List ℕ → List ℕ → List ℕ
over ws old = ws ++ drop (length ws) old

abbrev pub memory_set : Port → List ℕ → BankData → BankData
memory_set p ws b = record b { mems = set b.mems p.value (over ws (get_or b.mems p.value [])) }

abbrev pub variable_set : Port → ℕ → BankData → BankData
variable_set p v b = record b { regs = set (set b.regs p.value v) p.work v }

-- ---- by the kind of the port

pub count-memory : (p : Port) → p.mem ≡ true → word_count p ≡ p.words
count-memory p e = ap (λ (m : Bool). if m then p.words else 1) e

pub count-variable : (p : Port) → p.mem ≡ false → word_count p ≡ 1
count-variable p e = ap (λ (m : Bool). if m then p.words else 1) e

pub held-memory : (b : BankData) (p : Port) → p.mem ≡ true → held b p ≡ take p.words (get_or b.mems p.value [])
held-memory b p e = ap (λ (m : Bool). if m then take p.words (get_or b.mems p.value []) else slice_index b.regs p.work ∷ []) e

pub held-variable : (b : BankData) (p : Port) → p.mem ≡ false → held b p ≡ slice_index b.regs p.work ∷ []
held-variable b p e = ap (λ (m : Bool). if m then take p.words (get_or b.mems p.value []) else slice_index b.regs p.work ∷ []) e

pub held-word : (b : BankData) (p : Port) (k : ℕ) → p.mem ≡ true → k < p.words → slice_index (held b p) k ≡ word_of b p.value k
held-word b p k e lt = ap (λ (xs : List ℕ). slice_index xs k) (held-memory b p e) ∙ get_or-take p.words (get_or b.mems p.value []) k 0 lt

pub with-memory : (p : Port) (ws : List ℕ) (b : BankData) → p.mem ≡ true → with_held p ws b ≡ memory_set p ws b
with-memory p ws b e = ap (λ (m : Bool). if m then memory_set p ws b else variable_set p (slice_index ws 0) b) e

pub with-variable : (p : Port) (ws : List ℕ) (b : BankData) → p.mem ≡ false → with_held p ws b ≡ variable_set p (slice_index ws 0) b
with-variable p ws b e = ap (λ (m : Bool). if m then memory_set p ws b else variable_set p (slice_index ws 0) b) e

-- as many widths as words
pub widths-length : (ports : List Port) → length (widths ports) ≡ sum (word_counts ports)
widths-length [] = refl
widths-length (p ∷ ps) =
    let n = length-append (replicate (word_count p) p.width) (widths ps) in
    let c = length-replicate (word_count p) p.width in
    let total = sum_by-cons (λ (x : ℕ). x) (word_count p) (word_counts ps) in
    let rest = widths-length ps in
    omega arith

-- ---- the shape

abbrev lengths : List (List ℕ) → List ℕ
lengths ms = map (λ (m : List ℕ). length m) ms

pub length-at : (ms : List (List ℕ)) (m : ℕ) → length (get_or ms m []) ≡ get_or (lengths ms) m 0
length-at [] m = refl
length-at (x ∷ xs) zero = refl
length-at (x ∷ xs) (suc m) = length-at xs m

pub over-length : (ws old : List ℕ) → length ws ≤ length old → length (over ws old) ≡ length old
over-length ws old le = omega (arith, length-append ws (drop (length ws) old), length-drop (length ws) old)

memory-shape : (p : Port) (ws : List ℕ) (b : BankData) → length ws ≤ length (get_or b.mems p.value []) → SameShape (memory_set p ws b) b
memory-shape p ws b le =
    let old = get_or b.mems p.value [] in
    let f : List ℕ → ℕ = λ (m : List ℕ). length m in
    record {
      regs = refl;
      mems = map-set f b.mems p.value (over ws old) ∙ ap (set (lengths b.mems) p.value) (over-length ws old le ∙ length-at b.mems p.value) ∙ set-get_or (lengths b.mems) p.value 0;
      slots = refl;
    }

variable-shape : (p : Port) (v : ℕ) (b : BankData) → SameShape (variable_set p v b) b
variable-shape p v b = record { regs = length-set (set b.regs p.value v) p.work v ∙ length-set b.regs p.value v; mems = refl; slots = refl }

pub with-shape : (p : Port) (ws : List ℕ) (b : BankData) → IsThere b p → length ws ≡ word_count p → SameShape (with_held p ws b) b
with-shape p ws b there long =
    let P : BankData → Type 0 = λ x. SameShape x b in
    elim (cases_Bool p.mem) [
      | inl e ↦ (
          let count = count-memory p e in
          let fits = (there.memory e).1 in
          subst P (sym (with-memory p ws b e)) (memory-shape p ws b (omega (arith, count, fits))))
      | inr e ↦ subst P (sym (with-variable p ws b e)) (variable-shape p (slice_index ws 0) b)
    ]

pub mems-length : (a b : BankData) → SameShape a b → length a.mems ≡ length b.mems
mems-length a b h =
    let f : List ℕ → ℕ = λ (m : List ℕ). length m in
    sym (length-map a.mems f) ∙ ap (λ (ns : List ℕ). length ns) h.mems ∙ length-map b.mems f

pub memory-length : (a b : BankData) (m : ℕ) → SameShape a b → length (get_or a.mems m []) ≡ length (get_or b.mems m [])
memory-length a b m h = length-at a.mems m ∙ ap (λ (ns : List ℕ). get_or ns m 0) h.mems ∙ sym (length-at b.mems m)

pub there-same : (a b : BankData) (q : Port) → SameShape a b → IsThere b q → IsThere a q
there-same a b q h there =
    let regs = h.regs in
    let mems = mems-length a b h in
    let words = memory-length a b q.value h in
    record {
      registers = λ e. let t = there.registers e in (omega (arith, t.0), omega (arith, t.1));
      memory = λ e. let t = there.memory e in (omega (arith, t.0), omega (arith, t.1));
    }

-- ---- what it holds

pub held-same : (p : Port) (ws : List ℕ) (b : BankData) → IsThere b p → length ws ≡ word_count p → held (with_held p ws b) p ≡ ws
held-same p ws b there long =
    elim (cases_Bool p.mem) [
      | inl e ↦ (
          let old = get_or b.mems p.value [] in
          let count = count-memory p e in
          let lt = (there.memory e).0 in
          ap (λ (x : BankData). held x p) (with-memory p ws b e) ∙ held-memory (memory_set p ws b) p e
          ∙ ap (take p.words) (get_or-set_same b.mems p.value (over ws old) [] lt) ∙ take_at ws (drop (length ws) old) p.words (long ∙ count))
      | inr e ↦ (
          let v = slice_index ws 0 in
          let lt = (there.registers e).1 in
          let same = length-set b.regs p.value v in
          ap (λ (x : BankData). held x p) (with-variable p ws b e) ∙ held-variable (variable_set p v b) p e
          ∙ ap (λ (x : ℕ). x ∷ []) (get_or-set_same (set b.regs p.value v) p.work v 0 (omega (arith, same, lt))) ∙ one-word ws (long ∙ count-variable p e))
    ]

pub apart-sym : (p q : Port) → AreApart p q → AreApart q p
apart-sym p q h = record {
  registers = λ e f. let t = h.registers f e in (λ x. t.0 (sym x), λ x. t.2 (sym x), λ x. t.1 (sym x), λ x. t.3 (sym x));
  memories = λ e f x. h.memories f e (sym x);
}

pub register-beside : (p : Port) (v : ℕ) (b : BankData) (r : ℕ) → r ≢ p.value → r ≢ p.work → slice_index (variable_set p v b).regs r ≡ slice_index b.regs r
register-beside p v b r n m = get_or-set_other (set b.regs p.value v) p.work r v 0 m ∙ get_or-set_other b.regs p.value r v 0 n

pub held-other : (p q : Port) (ws : List ℕ) (b : BankData) → AreApart p q → held (with_held p ws b) q ≡ held b q
held-other p q ws b h =
    elim (cases_Bool p.mem) [
      | inl e ↦ ap (λ (x : BankData). held x q) (with-memory p ws b e) ∙ (
          let a = memory_set p ws b in
          elim (cases_Bool q.mem) [
            | inl f ↦ (
                let other : q.value ≢ p.value = λ x. h.memories e f (sym x) in
                held-memory a q f ∙ ap (take q.words) (get_or-set_other b.mems p.value q.value (over ws (get_or b.mems p.value [])) [] other) ∙ sym (held-memory b q f))
            | inr f ↦ held-variable a q f ∙ sym (held-variable b q f)
          ])
      | inr e ↦ ap (λ (x : BankData). held x q) (with-variable p ws b e) ∙ (
          let a = variable_set p (slice_index ws 0) b in
          elim (cases_Bool q.mem) [
            | inl f ↦ held-memory a q f ∙ sym (held-memory b q f)
            | inr f ↦ (
                let t = h.registers e f in
                held-variable a q f ∙ ap (λ (x : ℕ). x ∷ []) (register-beside p (slice_index ws 0) b q.work (λ x. t.1 (sym x)) (λ x. t.3 (sym x))) ∙ sym (held-variable b q f))
          ])
    ]

-- ---- a memory in its place

-- a word put into the first ones
pub over-word : (n k x : ℕ) (old : List ℕ) → k < n → n ≤ length old → over (set (take n old) k x) old ≡ set old k x
over-word n k x old lt le =
    let low = take n old in
    let many : length low ≡ n = length-take-le n old le in
    let long : length (set low k x) ≡ n = length-set low k x ∙ many in
    let within : k < length low = omega (arith, many) in
    ap (λ m. set low k x ++ drop m old) long ∙ sym (set-append_left low (drop n old) k x within) ∙ ap (λ (xs : List ℕ). set xs k x) (take-append-drop n old)

-- as a vector has it after a write through its slice
pub over-refill : (ws old new : List ℕ) (n : ℕ) → length ws ≤ length old → n ≡ length old → new ≡ over ws old → take n (over new old) ≡ over ws old
over-refill ws old new n le long is =
    let same = over-length ws old le in
    ap (λ (xs : List ℕ). take n (over xs old)) is ∙ take_at (over ws old) (drop (length (over ws old)) old) n (omega arith)

-- the memories, where one was changed in its place
memories-put : {V : Type 0} (f : V → List ℕ) (ms : List V) (m : ℕ) (old next : V) (ws : List ℕ) → m < length ms → old ≡ get_or ms m old → f next ≡ over ws (f old) → map f (set ms m next) ≡ set (map f ms) m (over ws (get_or (map f ms) m []))
memories-put f ms m old next ws lt read put =
    map-set f ms m next ∙ ap (set (map f ms) m) (put ∙ ap (over ws) (ap f read ∙ sym (get_or-map f ms m old [] lt)))

module _ {V : Type 0} (f : V → List ℕ) (p : Port) (regs slots : List ℕ) (ms : List V) (old next : V) (e : p.mem ≡ true) where
  abbrev bank : List (List ℕ) → BankData
  bank xs = record { regs = regs; mems = xs; slots = slots }

  inside : IsThere (bank (map f ms)) p → p.value < length ms
  inside there = let t = there.memory e in let many = length-map ms f in omega (arith, t.0, many)

  pub bank-put : (ws : List ℕ) → IsThere (bank (map f ms)) p → old ≡ get_or ms p.value old → f next ≡ over ws (f old) → bank (map f (set ms p.value next)) ≡ with_held p ws (bank (map f ms))
  bank-put ws there read put = ap bank (memories-put f ms p.value old next ws (inside there) read put) ∙ sym (with-memory p ws (bank (map f ms)) e)

  pub bank-word : (k x : ℕ) → IsThere (bank (map f ms)) p → k < p.words → old ≡ get_or ms p.value old → f next ≡ set (f old) k x →
      bank (map f (set ms p.value next)) ≡ with_held p (set (held (bank (map f ms)) p) k x) (bank (map f ms))
  bank-word k x there lt read put =
      let all = get_or (map f ms) p.value [] in
      let t = there.memory e in
      let is : all ≡ f old = get_or-map f ms p.value old [] (inside there) ∙ sym (ap f read) in
      let own : held (bank (map f ms)) p ≡ take p.words all = held-memory (bank (map f ms)) p e in
      let word : f next ≡ over (set (held (bank (map f ms)) p) k x) (f old)
      = put ∙ ap (λ (xs : List ℕ). set xs k x) (sym is) ∙ sym (over-word p.words k x all lt t.1)
      ∙ ap (λ (xs : List ℕ). over (set xs k x) all) (sym own) ∙ ap (over (set (held (bank (map f ms)) p) k x)) is in
      bank-put (set (held (bank (map f ms)) p) k x) there read word

  pub bank-refill : (ws new : List ℕ) (n : ℕ) → IsThere (bank (map f ms)) p → length ws ≡ word_count p → old ≡ get_or ms p.value old → n ≡ length (f old) → new ≡ over ws (f old) → f next ≡ take n (over new (f old)) →
      bank (map f (set ms p.value next)) ≡ with_held p ws (bank (map f ms))
  bank-refill ws new n there long read many is put =
      let count = count-memory p e in
      let fits = (there.memory e).1 in
      let same : length (get_or (map f ms) p.value []) ≡ length (f old) = ap (λ (xs : List ℕ). length xs) (get_or-map f ms p.value old [] (inside there) ∙ sym (ap f read)) in
      bank-put ws there read (put ∙ over-refill ws (f old) new n (omega arith) many is)
