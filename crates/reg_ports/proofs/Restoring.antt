-- A bank with some or all of its ports set.
use Rattle.std.proofs.Common.{◌≡◌, ◌≢◌, inl, inr, ℕ, zero, suc, ◌<◌, ◌≤◌, ◌^◌, List, [], ◌∷◌, ◌++◌, length, map, sum, set, get_or, take, drop, replicate, refl, sym, ap, ◌∙◌, arith, subst, length-append, length-drop, Some}
use Rattle.std.specs.Prelude.{slice_index, All, AllPairs}
use Rattle.std.specs.List.{AllZip, flat_map}
use Rattle.std.specs.Option.{option_map_or}
use Rattle.std.proofs.lemmas.List.{length-map, length-take-le, length-replicate, length-set, take-append-drop, take_at, drop_at, get_or-map, get_or_default, get_or_past}
use Rattle.std.proofs.lemmas.List.Sums.{sum_by-cons}
use Rattle.std.proofs.lemmas.Option.{slice_get-get_or}
use Rattle.std.proofs.lemmas.List.Elements.{All-nil, All-cons, All-head, All-tail, All-set, length_all_zip}
use Rattle.std.proofs.lemmas.Bool.{cases_Bool, cases_eq, cases_lt, cases_order}
use Rattle.cell_form.specs.declared.bank.Port.{Port}
use Rattle.cell_form.specs.Data.{BankData}
use Rattle.cell_form.specs.Sound.{SameShape}
use Rattle.reg_ports.specs.Ports.{word_count, word_counts, port_widths, held, all_held, captured, widths, with_held, with_word, parted, restored, IsThere, IsPort, AreApart, IsMap}
use Rattle.reg_ports.specs.Refusals.{AreFit}
use Rattle.reg_ports.proofs.Holding.{count-memory, count-variable, held-memory, held-variable, with-shape, there-same, held-same, held-other, apart-sym, widths-length}

-- ---- how many words a port holds

pub held-length : (b : BankData) (p : Port) → IsThere b p → length (held b p) ≡ word_count p
held-length b p there = elim (cases_Bool p.mem) [
  | inl e ↦ (
      let t = there.memory e in
      ap (λ (xs : List ℕ). length xs) (held-memory b p e) ∙ length-take-le p.words (get_or b.mems p.value []) t.1 ∙ sym (count-memory p e))
  | inr e ↦ ap (λ (xs : List ℕ). length xs) (held-variable b p e) ∙ sym (count-variable p e)
]

pub all-there : (ports : List Port) (b : BankData) → All (IsPort b) ports → All (IsThere b) ports
all-there ports b h = λ k d lt. (h k d lt).there

-- ---- apart

pub tail-pairs : {X : Type 0} (R : X → X → Type 0) (x : X) (xs : List X) → AllPairs R (x ∷ xs) → AllPairs R xs
tail-pairs R x xs h = λ i j d lt within. h (suc i) (suc j) d (omega arith) (omega arith)

pub head-pairs : {X : Type 0} (R : X → X → Type 0) (x : X) (xs : List X) → AllPairs R (x ∷ xs) → All (R x) xs
head-pairs R x xs h = λ k d lt. h 0 (suc k) d (omega arith) (omega arith)

pub apart-at : (ports : List Port) (i k : ℕ) (d : Port) → AllPairs AreApart ports → i ≢ k → i < length ports → k < length ports → AreApart (get_or ports i d) (get_or ports k d)
apart-at ports i k d h other lt within = elim (cases_order i k) [
  | inl same ↦ absurd (other same)
  | inr order ↦ elim order [
    | inl below ↦ h i k d below within
    | inr above ↦ apart-sym (get_or ports k d) (get_or ports i d) (h k i d above lt)
  ]
]

-- ---- one port set

pub set-map : (ports : List Port) (b : BankData) (i : ℕ) (p : Port) (ws : List ℕ) → IsMap ports b → i < length ports → p ≡ get_or ports i p → length ws ≡ word_count p → All (λ w. w < 2 ^ p.width) ws → IsMap ports (with_held p ws b)
set-map ports b i p ws h lt is long fits =
    let now = with_held p ws b in
    let own : IsPort b p = subst (IsPort b) (sym is) (h.each i p lt) in
    let shape = with-shape p ws b own.there long in
    let at : (k : ℕ) (d : Port) → p ≡ get_or ports i d = λ k d. is ∙ get_or_default ports i p d lt in
    record {
      each = λ k d within.
          let q = get_or ports k d in
          let old = h.each k d within in
          record {
            width = old.width;
            there = there-same now b q shape old.there;
            fits = elim (cases_eq i k) [
              | inl same ↦ (
                  let here : p ≡ q = at k d ∙ ap (λ j. get_or ports j d) same in
                  let F : Port → Type 0 = λ x. All (λ w. w < 2 ^ x.width) (held now x) in
                  let G : List ℕ → Type 0 = λ xs. All (λ w. w < 2 ^ p.width) xs in
                  subst F here (subst G (sym (held-same p ws b own.there long)) fits))
              | inr other ↦ (
                  let G : List ℕ → Type 0 = λ xs. All (λ w. w < 2 ^ q.width) xs in
                  let far : AreApart p q = subst (λ (x : Port). AreApart x q) (sym (at k d)) (apart-at ports i k d h.apart other lt within) in
                  subst G (sym (held-other p q ws b far)) old.fits)
            ];
          };
      apart = h.apart;
    }

-- ---- all ports set

pub head-count : (p : Port) (ps : List Port) (ws : List ℕ) → length ws ≡ length (widths (p ∷ ps)) → word_count p ≤ length ws
head-count p ps ws many =
    let n = length-append (replicate (word_count p) p.width) (widths ps) in
    let c = length-replicate (word_count p) p.width in
    omega arith

pub tail-count : (p : Port) (ps : List Port) (ws : List ℕ) → length ws ≡ length (widths (p ∷ ps)) → length (drop (word_count p) ws) ≡ length (widths ps)
tail-count p ps ws many =
    let n = length-append (replicate (word_count p) p.width) (widths ps) in
    let c = length-replicate (word_count p) p.width in
    let d = length-drop (word_count p) ws in
    omega arith

pub own-count : (p : Port) (ps : List Port) (ws : List ℕ) → length ws ≡ length (widths (p ∷ ps)) → length (take (word_count p) ws) ≡ word_count p
own-count p ps ws many = length-take-le (word_count p) ws (head-count p ps ws many)

-- the ports behind one are there when it is set
pub still-there : (p : Port) (ps : List Port) (ws : List ℕ) (b : BankData) → All (IsThere b) (p ∷ ps) → length ws ≡ length (widths (p ∷ ps)) → All (IsThere (with_held p (take (word_count p) ws) b)) ps
still-there p ps ws b there many =
    let own = take (word_count p) ws in
    let shape = with-shape p own b (All-head (IsThere b) p ps there) (own-count p ps ws many) in
    λ k d lt. there-same (with_held p own b) b (get_or ps k d) shape (All-tail (IsThere b) p ps there k d lt)

same-shape-then : (a b c : BankData) → SameShape a b → SameShape b c → SameShape a c
same-shape-then a b c h k = record { regs = h.regs ∙ k.regs; mems = h.mems ∙ k.mems; slots = h.slots ∙ k.slots }

pub restored-shape : (ports : List Port) (ws : List ℕ) (b : BankData) → All (IsThere b) ports → length ws ≡ length (widths ports) → SameShape (restored ports ws b) b
restored-shape [] ws b there many = record { regs = refl; mems = refl; slots = refl }
restored-shape (p ∷ ps) ws b there many =
    let own = take (word_count p) ws in
    let now = with_held p own b in
    same-shape-then (restored ps (drop (word_count p) ws) now) now b (restored-shape ps (drop (word_count p) ws) now (still-there p ps ws b there many) (tail-count p ps ws many))
    (with-shape p own b (All-head (IsThere b) p ps there) (own-count p ps ws many))

-- a port that is apart from those set
pub restored-other : (ports : List Port) (q : Port) (ws : List ℕ) (b : BankData) → All (AreApart q) ports → held (restored ports ws b) q ≡ held b q
restored-other [] q ws b h = refl
restored-other (p ∷ ps) q ws b h =
    let now = with_held p (take (word_count p) ws) b in
    restored-other ps q (drop (word_count p) ws) now (All-tail (AreApart q) p ps h) ∙ held-other p q (take (word_count p) ws) b (apart-sym q p (All-head (AreApart q) p ps h))

pub restored-held : (ports : List Port) (ws : List ℕ) (b : BankData) → All (IsThere b) ports → AllPairs AreApart ports → length ws ≡ length (widths ports) → all_held ports (restored ports ws b) ≡ parted (word_counts ports) ws
restored-held [] ws b there apart many = refl
restored-held (p ∷ ps) ws b there apart many =
    let own = take (word_count p) ws in
    let now = with_held p own b in
    let rest = drop (word_count p) ws in
    let end = restored ps rest now in
    let mine : held end p ≡ own = restored-other ps p rest now (head-pairs AreApart p ps apart) ∙ held-same p own b (All-head (IsThere b) p ps there) (own-count p ps ws many) in
    ap (λ (xs : List ℕ). xs ∷ all_held ps end) mine
    ∙ ap (λ (xss : List (List ℕ)). own ∷ xss) (restored-held ps rest now (still-there p ps ws b there many) (tail-pairs AreApart p ps apart) (tail-count p ps ws many))

-- ---- words taken apart

zip-split : (c w : ℕ) (xs ws : List ℕ) → AllZip (λ w v. v < 2 ^ w) (replicate c w ++ xs) ws → All (λ v. v < 2 ^ w) (take c ws) × AllZip (λ w v. v < 2 ^ w) xs (drop c ws)
zip-split zero w xs ws h = (All-nil (λ v. v < 2 ^ w), h)
zip-split (suc c) w xs [] h = absurd h
zip-split (suc c) w xs (v ∷ ws) h =
    let k = zip-split c w xs ws h.1 in
    (All-cons (λ v. v < 2 ^ w) v (take c ws) h.0 k.0, k.1)

-- the words of each port are numbers of its width
abbrev Suits : Port → List ℕ → Type 0
Suits p ws = All (λ v. v < 2 ^ p.width) ws

pub parted-fits : (ports : List Port) (ws : List ℕ) → AreFit ports ws → AllZip Suits ports (parted (word_counts ports) ws)
parted-fits [] ws h = tt
parted-fits (p ∷ ps) ws h =
    let k = zip-split (word_count p) p.width (widths ps) ws h in
    (k.0, parted-fits ps (drop (word_count p) ws) k.1)

suits-at : (ports : List Port) (wss : List (List ℕ)) (k : ℕ) (d : Port) → AllZip Suits ports wss → k < length ports → Suits (get_or ports k d) (get_or wss k [])
suits-at [] wss k d h lt = absurd (omega arith)
suits-at (p ∷ ps) [] k d h lt = absurd h
suits-at (p ∷ ps) (ws ∷ wss) zero d h lt = h.0
suits-at (p ∷ ps) (ws ∷ wss) (suc k) d h lt = suits-at ps wss k d h.1 (omega arith)

pub fit-length : (ports : List Port) (ws : List ℕ) → AreFit ports ws → length ws ≡ length (widths ports)
fit-length ports ws h = sym (length_all_zip (λ w v. v < 2 ^ w) (widths ports) ws h)

pub restored-map : (ports : List Port) (ws : List ℕ) (b : BankData) → IsMap ports b → AreFit ports ws → IsMap ports (restored ports ws b)
restored-map ports ws b h fit =
    let end = restored ports ws b in
    let many = fit-length ports ws fit in
    let there = all-there ports b h.each in
    let shape = restored-shape ports ws b there many in
    let holds = restored-held ports ws b there h.apart many in
    record {
      each = λ k d lt.
          let q = get_or ports k d in
          let old = h.each k d lt in
          let is : held end q ≡ get_or (parted (word_counts ports) ws) k [] = sym (get_or-map (held end) ports k d [] lt) ∙ ap (λ (xss : List (List ℕ)). get_or xss k []) holds in
          record {
            width = old.width;
            there = there-same end b q shape old.there;
            fits = subst (Suits q) (sym is) (suits-at ports (parted (word_counts ports) ws) k d (parted-fits ports ws fit) lt);
          };
      apart = h.apart;
    }

-- ---- one word set

-- the port of a number that has words
pub port-there : (ports : List Port) (i k : ℕ) → k < slice_index (word_counts ports) i → i < length ports
port-there ports i k lt = elim (cases_lt i (length ports)) [
  | inl within ↦ within
  | inr past ↦ (
      let none = get_or_past (word_counts ports) i 0 in
      let many = length-map ports word_count in
      absurd (omega arith))
]

module _ (ports : List Port) (b : BankData) (i k : ℕ) (p : Port) (h : IsMap ports b) (lt : i < length ports) (is : p ≡ get_or ports i p) where
  pub with-word-is : (v : ℕ) → with_word ports i k v b ≡ with_held p (set (held b p) k v) b
  with-word-is v = ap (λ o. option_map_or (λ q. with_held q (set (held b q) k v) b) o b) (slice_get-get_or ports i p lt ∙ ap (λ (x : Port). Some x) (sym is))

  pub own-port : IsPort b p
  own-port = subst (IsPort b) (sym is) (h.each i p lt)

  pub word-long : (v : ℕ) → length (set (held b p) k v) ≡ word_count p
  word-long v = length-set (held b p) k v ∙ held-length b p own-port.there

  pub with-word-map : (v w : ℕ) → v < 2 ^ w → w ≡ slice_index (port_widths ports) i → IsMap ports (with_word ports i k v b)
  with-word-map v w fits width =
      let wide : w ≡ p.width = width ∙ get_or-map (λ (q : Port). q.width) ports i p 0 lt ∙ ap (λ (q : Port). q.width) (sym is) in
      let F : ℕ → Type 0 = λ n. v < 2 ^ n in
      let own = All-set (λ x. x < 2 ^ p.width) (held b p) k v (subst F wide fits) own-port.fits in
      subst (IsMap ports) (sym (with-word-is v)) (set-map ports b i p (set (held b p) k v) h lt is (word-long v) own)

-- ---- the words of all ports

pub captured-length : (ports : List Port) (b : BankData) → All (IsThere b) ports → length (captured ports b) ≡ length (widths ports)
captured-length [] b there = refl
captured-length (p ∷ ps) b there =
    let here = held-length b p (All-head (IsThere b) p ps there) in
    let rest = captured-length ps b (All-tail (IsThere b) p ps there) in
    let m = length-append (held b p) (captured ps b) in
    let n = length-append (replicate (word_count p) p.width) (widths ps) in
    let c = length-replicate (word_count p) p.width in
    omega arith

pub captured-parted : (ports : List Port) (b : BankData) → All (IsThere b) ports → parted (word_counts ports) (captured ports b) ≡ all_held ports b
captured-parted [] b there = refl
captured-parted (p ∷ ps) b there =
    let own = held b p in
    let rest = captured ps b in
    let long = held-length b p (All-head (IsThere b) p ps there) in
    ap (λ (xs : List ℕ). xs ∷ parted (word_counts ps) (drop (word_count p) (own ++ rest))) (take_at own rest (word_count p) long)
    ∙ ap (λ (xs : List ℕ). own ∷ parted (word_counts ps) xs) (drop_at own rest (word_count p) long)
    ∙ ap (λ (xss : List (List ℕ)). own ∷ xss) (captured-parted ps b (All-tail (IsThere b) p ps there))

zip-join : (c w : ℕ) (vs xs ws : List ℕ) → length vs ≡ c → All (λ v. v < 2 ^ w) vs → AllZip (λ w v. v < 2 ^ w) xs ws → AllZip (λ w v. v < 2 ^ w) (replicate c w ++ xs) (vs ++ ws)
zip-join zero w [] xs ws e fits h = h
zip-join zero w (v ∷ vs) xs ws e fits h = absurd (omega arith)
zip-join (suc c) w [] xs ws e fits h = absurd (omega arith)
zip-join (suc c) w (v ∷ vs) xs ws e fits h =
    (All-head (λ x. x < 2 ^ w) v vs fits, zip-join c w vs xs ws (omega arith) (All-tail (λ x. x < 2 ^ w) v vs fits) h)

pub captured-fit : (ports : List Port) (b : BankData) → All (IsPort b) ports → AreFit ports (captured ports b)
captured-fit [] b h = tt
captured-fit (p ∷ ps) b h =
    let own = All-head (IsPort b) p ps h in
    zip-join (word_count p) p.width (held b p) (widths ps) (captured ps b) (held-length b p own.there) own.fits (captured-fit ps b (All-tail (IsPort b) p ps h))

pub captured-joined : (ports : List Port) (b : BankData) → captured ports b ≡ flat_map (λ (xs : List ℕ). xs) (all_held ports b)
captured-joined [] b = refl
captured-joined (p ∷ ps) b = ap (λ (xs : List ℕ). held b p ++ xs) (captured-joined ps b)

pub parted-joined : (ns ws : List ℕ) → length ws ≡ sum ns → flat_map (λ (xs : List ℕ). xs) (parted ns ws) ≡ ws
parted-joined [] [] many = refl
parted-joined [] (v ∷ ws) many = absurd (omega arith)
parted-joined (n ∷ ns) ws many =
    let total = sum_by-cons (λ (x : ℕ). x) n ns in
    let d = length-drop n ws in
    ap (λ (xs : List ℕ). take n ws ++ xs) (parted-joined ns (drop n ws) (omega arith)) ∙ take-append-drop n ws

pub joined-parted : (wss : List (List ℕ)) → parted (map (λ (ws : List ℕ). length ws) wss) (flat_map (λ (xs : List ℕ). xs) wss) ≡ wss
joined-parted [] = refl
joined-parted (ws ∷ wss) =
    let rest = flat_map (λ (xs : List ℕ). xs) wss in
    let ns = map (λ (xs : List ℕ). length xs) wss in
    ap (λ (xs : List ℕ). xs ∷ parted ns (drop (length ws) (ws ++ rest))) (take_at ws rest (length ws) refl)
    ∙ ap (λ (xs : List ℕ). ws ∷ parted ns xs) (drop_at ws rest (length ws) refl) ∙ ap (λ (xss : List (List ℕ)). ws ∷ xss) (joined-parted wss)

pub restored-captured : (ports : List Port) (ws : List ℕ) (b : BankData) → All (IsThere b) ports → AllPairs AreApart ports → length ws ≡ length (widths ports) → captured ports (restored ports ws b) ≡ ws
restored-captured ports ws b there apart many =
    captured-joined ports (restored ports ws b) ∙ ap (flat_map (λ (xs : List ℕ). xs)) (restored-held ports ws b there apart many) ∙ parted-joined (word_counts ports) ws (many ∙ widths-length ports)

-- the ports of a bank are those of each of its shape that holds numbers of their widths
pub shape-map : (ports : List Port) (a b : BankData) → IsMap ports b → SameShape a b → AreFit ports (captured ports a) → IsMap ports a
shape-map ports a b h shape fit =
    let there : All (IsThere a) ports = λ k d lt. there-same a b (get_or ports k d) shape (h.each k d lt).there in
    let fits = subst (AllZip Suits ports) (captured-parted ports a there) (parted-fits ports (captured ports a) fit) in
    record {
      each = λ k d lt.
          let q = get_or ports k d in
          record {
            width = (h.each k d lt).width;
            there = there k d lt;
            fits = subst (Suits q) (get_or-map (held a) ports k d [] lt) (suits-at ports (all_held ports a) k d fits lt);
          };
      apart = h.apart;
    }
