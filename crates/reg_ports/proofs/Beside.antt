-- What stands in a bank beside its ports, and banks that are their words.
use Rattle.std.proofs.Common.{◌≡◌, ◌≢◌, inl, inr, ℕ, zero, suc, ◌+◌, ◌-◌, ◌<◌, ◌≤◌, ◌^◌, Bool, true, false, List, [], ◌∷◌, length, set, get_or, take, drop, refl, sym, ap, ◌∙◌, arith, subst}
use Rattle.std.specs.Prelude.{not, ◌&&◌, ◌||◌, ◌==◌, nat_lt, slice_index, All, AllPairs}
use Rattle.std.specs.List.{list_any}
use Rattle.std.proofs.lemmas.List.{length-set, length-map, get_or-map, get_or_default, get_or-set_same, get_or-set_other, get_or-append_right, get_or-drop, get_or-take, ext_get_or}
use Rattle.std.proofs.lemmas.List.Elements.{All-nil, All-cons, All-head, All-tail}
use Rattle.std.proofs.lemmas.Bool.{cases_Bool, cases_eq, both_ways, eqb-true, eqb-false, ltb-true, ltb-false, and_parts, and_cases, or_parts, or_cases, not-true, not-false}
use Rattle.cell_form.specs.declared.bank.Port.{Port}
use Rattle.cell_form.specs.Data.{BankData}
use Rattle.cell_form.specs.Sound.{SameShape}
use Rattle.cell_form.specs.Writes.{word_of}
use Rattle.reg_ports.specs.Ports.{word_count, word_counts, port_widths, held, all_held, captured, widths, with_held, with_word, parted, restored, IsThere, AreApart, IsMap}
use Rattle.reg_ports.specs.Elsewhere.{names_register, names_word, SameElsewhere, CopiesAgree}
use Rattle.reg_ports.proofs.Holding.{over, memory_set, count-memory, held-memory, held-variable, with-memory, with-variable, with-shape, held-same, held-other, register-beside, mems-length, memory-length, there-same, apart-sym}
use Rattle.reg_ports.proofs.Restoring.{restored-shape, restored-held, captured-length, captured-parted, held-length, tail-count, own-count, still-there, head-pairs, tail-pairs, apart-at, all-there, port-there, with-word-is, with-word-map}

-- ---- what a port names

named-register : (r : ℕ) (p : Port) → names_register r p ≡ true → (p.mem ≡ false) × (((p.value == r) || (p.work == r)) ≡ true)
named-register r p h =
    let k = and_parts (not p.mem) ((p.value == r) || (p.work == r)) h in
    (not-true p.mem k.0, k.1)

unnamed-register : (r : ℕ) (p : Port) → p.mem ≡ false → names_register r p ≡ false → (r ≢ p.value) × (r ≢ p.work)
unnamed-register r p e h = elim (and_cases (not p.mem) ((p.value == r) || (p.work == r)) h) [
  | inl is ↦ absurd (both_ways p.mem e (not-false p.mem is))
  | inr neither ↦ (
      let k = or_parts (p.value == r) (p.work == r) neither in
      (λ x. eqb-false p.value r k.0 (sym x), λ x. eqb-false p.work r k.1 (sym x)))
]

named-word : (m k : ℕ) (p : Port) → names_word m k p ≡ true → (p.mem ≡ true) × (p.value ≡ m) × (k < p.words)
named-word m k p h =
    let a = and_parts p.mem ((p.value == m) && nat_lt k p.words) h in
    let b = and_parts (p.value == m) (nat_lt k p.words) a.1 in
    (a.0, eqb-true p.value m b.0, ltb-true k p.words b.1)

unnamed-word : (m k : ℕ) (p : Port) → p.mem ≡ true → m ≡ p.value → names_word m k p ≡ false → p.words ≤ k
unnamed-word m k p e same h = elim (and_cases p.mem ((p.value == m) && nat_lt k p.words) h) [
  | inl is ↦ absurd (both_ways p.mem is e)
  | inr apart ↦ elim (and_cases (p.value == m) (nat_lt k p.words) apart) [
    | inl other ↦ absurd (eqb-false p.value m other (sym same))
    | inr past ↦ ltb-false k p.words past
  ]
]

-- ---- one port set

with-slots : (p : Port) (ws : List ℕ) (b : BankData) → (with_held p ws b).slots ≡ b.slots
with-slots p ws b = elim (cases_Bool p.mem) [
  | inl e ↦ ap (λ (x : BankData). x.slots) (with-memory p ws b e)
  | inr e ↦ ap (λ (x : BankData). x.slots) (with-variable p ws b e)
]

with-register : (p : Port) (ws : List ℕ) (b : BankData) (r : ℕ) → names_register r p ≡ false → slice_index (with_held p ws b).regs r ≡ slice_index b.regs r
with-register p ws b r h = elim (cases_Bool p.mem) [
  | inl e ↦ ap (λ (x : BankData). slice_index x.regs r) (with-memory p ws b e)
  | inr e ↦ (
      let k = unnamed-register r p e h in
      ap (λ (x : BankData). slice_index x.regs r) (with-variable p ws b e) ∙ register-beside p (slice_index ws 0) b r k.0 k.1)
]

over-behind : (ws old : List ℕ) (k : ℕ) → length ws ≤ k → slice_index (over ws old) k ≡ slice_index old k
over-behind ws old k past =
    let e : length ws + (k - length ws) ≡ k = omega arith in
    get_or-append_right ws (drop (length ws) old) (length ws) k 0 refl past ∙ get_or-drop (length ws) old (k - length ws) 0 ∙ ap (slice_index old) e

with-held-word : (p : Port) (ws : List ℕ) (b : BankData) (m k : ℕ) → IsThere b p → length ws ≡ word_count p → names_word m k p ≡ false → word_of (with_held p ws b) m k ≡ word_of b m k
with-held-word p ws b m k there long h = elim (cases_Bool p.mem) [
  | inl e ↦ ap (λ (x : BankData). word_of x m k) (with-memory p ws b e) ∙ (
      let old = get_or b.mems p.value [] in
      elim (cases_eq m p.value) [
        | inl same ↦ (
            let count = count-memory p e in
            let past = unnamed-word m k p e same h in
            let lt = (there.memory e).0 in
            ap (λ j. word_of (memory_set p ws b) j k) same ∙ ap (λ (xs : List ℕ). slice_index xs k) (get_or-set_same b.mems p.value (over ws old) [] lt)
            ∙ over-behind ws old k (omega arith) ∙ ap (λ j. word_of b j k) (sym same))
        | inr other ↦ ap (λ (xs : List ℕ). slice_index xs k) (get_or-set_other b.mems p.value m (over ws old) [] other)
      ])
  | inr e ↦ ap (λ (x : BankData). word_of x m k) (with-variable p ws b e)
]

-- its copies agree
with-copies : (p : Port) (ws : List ℕ) (b : BankData) → IsThere b p → CopiesAgree (with_held p ws b) p
with-copies p ws b there e =
    let v = slice_index ws 0 in
    let regs = set b.regs p.value v in
    let long = length-set b.regs p.value v in
    let t = there.registers e in
    let P : BankData → Type 0 = λ x. slice_index x.regs p.value ≡ slice_index x.regs p.work in
    let work : slice_index (set regs p.work v) p.work ≡ v = get_or-set_same regs p.work v 0 (omega (arith, t.1)) in
    let value : slice_index (set regs p.work v) p.value ≡ v = elim (cases_eq p.value p.work) [
      | inl same ↦ ap (slice_index (set regs p.work v)) same ∙ work
      | inr other ↦ get_or-set_other regs p.work p.value v 0 other ∙ get_or-set_same b.regs p.value v 0 t.0
    ] in
    subst P (sym (with-variable p ws b e)) (value ∙ sym work)

-- copies of another port stay
with-copies-other : (p q : Port) (ws : List ℕ) (b : BankData) → AreApart p q → CopiesAgree b q → CopiesAgree (with_held p ws b) q
with-copies-other p q ws b h agree f =
    let P : BankData → Type 0 = λ x. slice_index x.regs q.value ≡ slice_index x.regs q.work in
    elim (cases_Bool p.mem) [
      | inl e ↦ subst P (sym (with-memory p ws b e)) (agree f)
      | inr e ↦ (
          let v = slice_index ws 0 in
          let t = h.registers e f in
          subst P (sym (with-variable p ws b e))
          (register-beside p v b q.value (λ x. t.0 (sym x)) (λ x. t.2 (sym x)) ∙ agree f ∙ sym (register-beside p v b q.work (λ x. t.1 (sym x)) (λ x. t.3 (sym x)))))
    ]

-- ---- all ports set

restored-slots : (ports : List Port) (ws : List ℕ) (b : BankData) → (restored ports ws b).slots ≡ b.slots
restored-slots [] ws b = refl
restored-slots (p ∷ ps) ws b = restored-slots ps (drop (word_count p) ws) (with_held p (take (word_count p) ws) b) ∙ with-slots p (take (word_count p) ws) b

restored-register : (ports : List Port) (ws : List ℕ) (b : BankData) (r : ℕ) → list_any (names_register r) ports ≡ false → slice_index (restored ports ws b).regs r ≡ slice_index b.regs r
restored-register [] ws b r h = refl
restored-register (p ∷ ps) ws b r h =
    let k = or_parts (names_register r p) (list_any (names_register r) ps) h in
    restored-register ps (drop (word_count p) ws) (with_held p (take (word_count p) ws) b) r k.1 ∙ with-register p (take (word_count p) ws) b r k.0

restored-word : (ports : List Port) (ws : List ℕ) (b : BankData) (m n : ℕ) → All (IsThere b) ports → length ws ≡ length (widths ports) → list_any (names_word m n) ports ≡ false → word_of (restored ports ws b) m n ≡ word_of b m n
restored-word [] ws b m n there many h = refl
restored-word (p ∷ ps) ws b m n there many h =
    let k = or_parts (names_word m n p) (list_any (names_word m n) ps) h in
    let own = take (word_count p) ws in
    restored-word ps (drop (word_count p) ws) (with_held p own b) m n (still-there p ps ws b there many) (tail-count p ps ws many) k.1
    ∙ with-held-word p own b m n (All-head (IsThere b) p ps there) (own-count p ps ws many) k.0

pub restored-elsewhere : (ports : List Port) (ws : List ℕ) (b : BankData) → All (IsThere b) ports → length ws ≡ length (widths ports) → SameElsewhere ports (restored ports ws b) b
restored-elsewhere ports ws b there many = record {
  registers = λ r h. restored-register ports ws b r h;
  words = λ m k h. restored-word ports ws b m k there many h;
  slots = restored-slots ports ws b;
  shape = restored-shape ports ws b there many;
}

restored-copies-other : (ports : List Port) (q : Port) (ws : List ℕ) (b : BankData) → All (AreApart q) ports → CopiesAgree b q → CopiesAgree (restored ports ws b) q
restored-copies-other [] q ws b h agree = agree
restored-copies-other (p ∷ ps) q ws b h agree =
    restored-copies-other ps q (drop (word_count p) ws) (with_held p (take (word_count p) ws) b) (All-tail (AreApart q) p ps h)
    (with-copies-other p q (take (word_count p) ws) b (apart-sym q p (All-head (AreApart q) p ps h)) agree)

pub restored-copies : (ports : List Port) (ws : List ℕ) (b : BankData) → All (IsThere b) ports → AllPairs AreApart ports → length ws ≡ length (widths ports) → All (CopiesAgree (restored ports ws b)) ports
restored-copies [] ws b there apart many = All-nil (CopiesAgree b)
restored-copies (p ∷ ps) ws b there apart many =
    let own = take (word_count p) ws in
    let rest = drop (word_count p) ws in
    let now = with_held p own b in
    let end = restored ps rest now in
    All-cons (CopiesAgree end) p ps (restored-copies-other ps p rest now (head-pairs AreApart p ps apart) (with-copies p own b (All-head (IsThere b) p ps there)))
    (restored-copies ps rest now (still-there p ps ws b there many) (tail-pairs AreApart p ps apart) (tail-count p ps ws many))

-- ---- a bank is its words

module _ (a b : BankData) where
  first-same : (p : Port) (ps : List Port) → all_held (p ∷ ps) a ≡ all_held (p ∷ ps) b → held a p ≡ held b p
  first-same p ps e = ap (λ (xss : List (List ℕ)). get_or xss 0 []) e

  rest-same : (p : Port) (ps : List Port) → all_held (p ∷ ps) a ≡ all_held (p ∷ ps) b → all_held ps a ≡ all_held ps b
  rest-same p ps e = ap (λ (xss : List (List ℕ)). drop 1 xss) e

  register-of : (p : Port) (r : ℕ) → names_register r p ≡ true → held a p ≡ held b p → CopiesAgree a p → CopiesAgree b p → slice_index a.regs r ≡ slice_index b.regs r
  register-of p r h same left right =
      let n = named-register r p h in
      let work : slice_index a.regs p.work ≡ slice_index b.regs p.work = ap (λ (xs : List ℕ). slice_index xs 0) (sym (held-variable a p n.0) ∙ same ∙ held-variable b p n.0) in
      let P : ℕ → Type 0 = λ j. slice_index a.regs j ≡ slice_index b.regs j in
      elim (or_cases (p.value == r) (p.work == r) n.1) [
        | inl e ↦ subst P (eqb-true p.value r e) (left n.0 ∙ work ∙ sym (right n.0))
        | inr e ↦ subst P (eqb-true p.work r e) work
      ]

  word-of : (p : Port) (m k : ℕ) → names_word m k p ≡ true → held a p ≡ held b p → word_of a m k ≡ word_of b m k
  word-of p m k h same =
      let n = named-word m k p h in
      let P : ℕ → Type 0 = λ j. word_of a j k ≡ word_of b j k in
      subst P n.1
      (sym (get_or-take p.words (get_or a.mems p.value []) k 0 n.2) ∙ ap (λ (xs : List ℕ). slice_index xs k) (sym (held-memory a p n.0) ∙ same ∙ held-memory b p n.0)
      ∙ get_or-take p.words (get_or b.mems p.value []) k 0 n.2)

  registers-named : (ports : List Port) (r : ℕ) → list_any (names_register r) ports ≡ true → all_held ports a ≡ all_held ports b → All (CopiesAgree a) ports → All (CopiesAgree b) ports → slice_index a.regs r ≡ slice_index b.regs r
  registers-named [] r h same left right = absurd (cc)
  registers-named (p ∷ ps) r h same left right = elim (or_cases (names_register r p) (list_any (names_register r) ps) h) [
    | inl e ↦ register-of p r e (first-same p ps same) (All-head (CopiesAgree a) p ps left) (All-head (CopiesAgree b) p ps right)
    | inr e ↦ registers-named ps r e (rest-same p ps same) (All-tail (CopiesAgree a) p ps left) (All-tail (CopiesAgree b) p ps right)
  ]

  words-named : (ports : List Port) (m k : ℕ) → list_any (names_word m k) ports ≡ true → all_held ports a ≡ all_held ports b → word_of a m k ≡ word_of b m k
  words-named [] m k h same = absurd (cc)
  words-named (p ∷ ps) m k h same = elim (or_cases (names_word m k p) (list_any (names_word m k) ps) h) [
    | inl e ↦ word-of p m k e (first-same p ps same)
    | inr e ↦ words-named ps m k e (rest-same p ps same)
  ]

  pub same-bank : (ports : List Port) → SameElsewhere ports a b → all_held ports a ≡ all_held ports b → All (CopiesAgree a) ports → All (CopiesAgree b) ports → a ≡ b
  same-bank ports beside same left right =
      let regs : a.regs ≡ b.regs = ext_get_or 0 a.regs b.regs beside.shape.regs (λ r lt. elim (cases_Bool (list_any (names_register r) ports)) [
        | inl e ↦ registers-named ports r e same left right
        | inr e ↦ beside.registers r e
      ]) in
      let word : (m k : ℕ) → word_of a m k ≡ word_of b m k = λ m k. elim (cases_Bool (list_any (names_word m k) ports)) [
        | inl e ↦ words-named ports m k e same
        | inr e ↦ beside.words m k e
      ] in
      let mems : a.mems ≡ b.mems = ext_get_or [] a.mems b.mems (mems-length a b beside.shape) (λ m lt.
      ext_get_or 0 (get_or a.mems m []) (get_or b.mems m []) (memory-length a b m beside.shape) (λ k within. word m k)) in
      ap (λ (x : List ℕ). record { regs = x; mems = a.mems; slots = a.slots }) regs
      ∙ ap (λ (x : List (List ℕ)). record { regs = b.regs; mems = x; slots = a.slots }) mems
      ∙ ap (λ (x : List ℕ). record { regs = b.regs; mems = b.mems; slots = x }) beside.slots

pub elsewhere-then : (ports : List Port) (a b c : BankData) → SameElsewhere ports a b → SameElsewhere ports b c → SameElsewhere ports a c
elsewhere-then ports a b c h k = record {
  registers = λ r e. h.registers r e ∙ k.registers r e;
  words = λ m n e. h.words m n e ∙ k.words m n e;
  slots = h.slots ∙ k.slots;
  shape = record { regs = h.shape.regs ∙ k.shape.regs; mems = h.shape.mems ∙ k.shape.mems; slots = h.shape.slots ∙ k.shape.slots };
}

-- ---- one word set

pub with-elsewhere : (ports : List Port) (b : BankData) (i : ℕ) (p : Port) (ws : List ℕ) → i < length ports → p ≡ get_or ports i p → IsThere b p → length ws ≡ word_count p → SameShape (with_held p ws b) b → SameElsewhere ports (with_held p ws b) b
with-elsewhere ports b i p ws lt is there long shape = record {
  registers = λ r h. with-register p ws b r (none-at (names_register r) ports i p lt is h);
  words = λ m k h. with-held-word p ws b m k there long (none-at (names_word m k) ports i p lt is h);
  slots = with-slots p ws b;
  shape = shape;
}
  where
    none-at : (f : Port → Bool) (xs : List Port) (j : ℕ) (q : Port) → j < length xs → q ≡ get_or xs j q → list_any f xs ≡ false → f q ≡ false
    none-at f [] j q lt is h = absurd (omega arith)
    none-at f (x ∷ xs) zero q lt is h = ap f is ∙ (or_parts (f x) (list_any f xs) h).0
    none-at f (x ∷ xs) (suc j) q lt is h = none-at f xs j q (omega arith) is (or_parts (f x) (list_any f xs) h).1

module _ (ports : List Port) (b : BankData) (i k v : ℕ) (h : IsMap ports b) (small : k < slice_index (word_counts ports) i) where
  abbrev none : Port
  none = record { mem = false; value = 0; work = 0; width = 0; words = 0 }

  at : i < length ports
  at = port-there ports i k small

  abbrev own : Port
  own = get_or ports i none

  is : own ≡ get_or ports i own
  is = get_or_default ports i none own at

  there : IsThere b own
  there = (h.each i none at).there

  long : length (set (held b own) k v) ≡ word_count own
  long = length-set (held b own) k v ∙ held-length b own there

  abbrev new : BankData
  new = with_held own (set (held b own) k v) b

  set-is : with_word ports i k v b ≡ new
  set-is = with-word-is ports b i k own h at is v

  far : (j : ℕ) (d : Port) → j < length ports → (i ≡ j → ⊥) → AreApart own (get_or ports j d)
  far j d lt other = subst (λ (x : Port). AreApart x (get_or ports j d)) (get_or_default ports i d none at) (apart-at ports i j d h.apart other at lt)

  pub written-map : v < 2 ^ slice_index (port_widths ports) i → IsMap ports (with_word ports i k v b)
  written-map fits = with-word-map ports b i k own h at is v (slice_index (port_widths ports) i) fits refl

  pub written-elsewhere : SameElsewhere ports (with_word ports i k v b) b
  written-elsewhere = subst (λ (x : BankData). SameElsewhere ports x b) (sym set-is)
      (with-elsewhere ports b i own (set (held b own) k v) at is there long (with-shape own (set (held b own) k v) b there long))

  pub written-copies : All (CopiesAgree b) ports → All (CopiesAgree (with_word ports i k v b)) ports
  written-copies agree = λ j d lt.
      subst (λ (x : BankData). CopiesAgree x (get_or ports j d)) (sym set-is) (elim (cases_eq i j) [
        | inl same ↦ subst (CopiesAgree new) (get_or_default ports i none d at ∙ ap (λ n. get_or ports n d) same) (with-copies own (set (held b own) k v) b there)
        | inr other ↦ with-copies-other own (get_or ports j d) (set (held b own) k v) b (far j d lt other) (agree j d lt)
      ])

  pub written-held : all_held ports (with_word ports i k v b) ≡ set (all_held ports b) i (set (get_or (all_held ports b) i []) k v)
  written-held =
      let old = all_held ports b in
      let word = set (get_or old i []) k v in
      let was : get_or old i [] ≡ held b own = get_or-map (held b) ports i none [] at in
      let many = length-map ports (held b) in
      let same_length : length (all_held ports new) ≡ length (set old i word) = length-map ports (held new) ∙ sym (length-set old i word ∙ many) in
      ap (all_held ports) set-is ∙ ext_get_or [] (all_held ports new) (set old i word) same_length (λ j within.
      let all = length-map ports (held new) in
      let lt : j < length ports = omega arith in
      let q = get_or ports j none in
      let P : List ℕ → Type 0 = λ xs. xs ≡ get_or (set old i word) j [] in
      subst P (sym (get_or-map (held new) ports j none [] lt)) (elim (cases_eq i j) [
        | inl same ↦ (
            let inside : i < length old = omega arith in
            ap (λ n. held new (get_or ports n none)) (sym same) ∙ held-same own (set (held b own) k v) b there long ∙ ap (λ (xs : List ℕ). set xs k v) (sym was)
            ∙ sym (get_or-set_same old i word [] inside) ∙ ap (λ n. get_or (set old i word) n []) same)
        | inr other ↦ (
            let away : j ≢ i = λ x. other (sym x) in
            held-other own q (set (held b own) k v) b (far j none lt other) ∙ sym (get_or-map (held b) ports j none [] lt) ∙ sym (get_or-set_other old i j word [] away))
      ]))

-- ---- captured and restored

pub words-bank : (ports : List Port) (a b : BankData) → IsMap ports a → IsMap ports b → SameElsewhere ports a b → captured ports a ≡ captured ports b → All (CopiesAgree a) ports → All (CopiesAgree b) ports → a ≡ b
words-bank ports a b h k beside same left right =
    same-bank a b ports beside (sym (captured-parted ports a (all-there ports a h.each)) ∙ ap (parted (word_counts ports)) same ∙ captured-parted ports b (all-there ports b k.each)) left right

pub capture-held : (ports : List Port) (b c : BankData) → IsMap ports b → IsMap ports c → all_held ports (restored ports (captured ports b) c) ≡ all_held ports b
capture-held ports b c h k =
    let there = all-there ports b h.each in
    restored-held ports (captured ports b) c (all-there ports c k.each) k.apart (captured-length ports b there) ∙ captured-parted ports b there

pub capture-restored : (ports : List Port) (b c : BankData) → IsMap ports b → All (CopiesAgree b) ports → SameElsewhere ports c b → restored ports (captured ports b) c ≡ b
capture-restored ports b c h agree beside =
    let ws = captured ports b in
    let held_there = all-there ports b h.each in
    let there : All (IsThere c) ports = λ k d lt. there-same c b (get_or ports k d) beside.shape (held_there k d lt) in
    let many = captured-length ports b held_there in
    let end = restored ports ws c in
    same-bank end b ports (elsewhere-then ports end c b (restored-elsewhere ports ws c there many) beside)
    (restored-held ports ws c there h.apart many ∙ captured-parted ports b held_there) (restored-copies ports ws c there h.apart many) agree
