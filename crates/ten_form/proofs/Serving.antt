-- What serving a trap does to a bank that holds a state.
use Rattle.std.proofs.Common.{◌≡◌, ◌≢◌, refl, sym, ap, ◌∙◌, arith, ℕ, zero, suc, ◌^◌, ◌<◌, ◌≤◌, Bool, true, false, List, [], ◌∷◌, length}
use Rattle.std.proofs.lemmas.Bool.{eqb-true, eq-eqb}
use Rattle.std.specs.Prelude.{nat_eq, slice_set, slice_index, slice_index_or, replicate}
use Rattle.std.proofs.lemmas.List.{get_or-set_same, get_or-set_other, length-set, length-map}
use Rattle.vl_design.specs.Laws.{IsFine}
use Rattle.vl_design.specs.Sound.{IsSignal, IsMemory}
use Rattle.vl_design.specs.State.{State}
use Rattle.vl_design.specs.Syntax.{Row, Flat}
use Rattle.vl_design.specs.Value.{value_of, words_of}
use Rattle.vl_design.specs.Width.{names_of}
use Rattle.vl_design.proofs.Kept.{words_set, words_other}
use Rattle.vl_runs.specs.Computed.{computed_at}
use Rattle.cell_emit.specs.cell_form.specs.Data.{BankData}
use Rattle.cell_emit.specs.Envs.{HasOneWord}
use Rattle.cell_emit.proofs.Assigning.{one-long, signal-there}
use Rattle.cell_emit.proofs.Staying.{memory-other}
use Rattle.ten_form.specs.Banks.{cell_nodes, stores_in, HoldsState}
use Rattle.ten_form.specs.Nets.{cleared}
use Rattle.ten_form.specs.Registers.{answer_register, ticks_register, value_register, work_register, update_register, mask_register, register_count}
use Rattle.ten_form.specs.Stores.{words_down}
use Rattle.ten_form.proofs.Same.{holds-behind, stores-behind}

-- ---- values of variables in a list with others cleared

-- the words of a signal that isn't computed
pub cleared-kept : (rows : List Row) (values : List (List ℕ)) (k : ℕ) → computed_at rows k ≡ false → k < length rows → words_of (cleared rows values) k ≡ words_of values k
cleared-kept [] values k h l = absurd (omega arith)
cleared-kept (r ∷ rows) [] k h l = refl
cleared-kept (r ∷ rows) (ws ∷ values) zero h l = rw h refl
cleared-kept (r ∷ rows) (ws ∷ values) (suc k) h l = cleared-kept rows values k h (omega arith)

-- those of another one
cleared-other : (rows : List Row) (values : List (List ℕ)) (k j : ℕ) (ws : List ℕ) → k ≢ j → words_of (cleared rows (slice_set values j ws)) k ≡ words_of (cleared rows values) k
cleared-other [] values k j ws h = refl
cleared-other (r ∷ rows) [] k j ws h = refl
cleared-other (r ∷ rows) (v ∷ values) zero zero ws h = absurd (h refl)
cleared-other (r ∷ rows) (v ∷ values) zero (suc j) ws h = refl
cleared-other (r ∷ rows) (v ∷ values) (suc k) zero ws h = refl
cleared-other (r ∷ rows) (v ∷ values) (suc k) (suc j) ws h = cleared-other rows values k j ws (λ e. h (ap suc e))

-- ---- a bank that holds another state of the same updates and ticks

module _ (d : Flat) (committed : List (List ℕ)) where
  pub record Alters (b b' : BankData) (s s' : State) : Type 0 where
    pub works : (k : ℕ) → IsSignal (names_of d) k → slice_index b'.regs (work_register k) ≡ value_of (cleared d.rows s'.values) k
    pub memories : (m : ℕ) → IsMemory (names_of d) m → slice_index_or b'.mems m [] ≡ words_of s'.values m
    pub answer : slice_index b'.regs answer_register ≡ s'.answer
    pub small : s'.answer < 2 ^ 32
    pub values : (k : ℕ) → slice_index b'.regs (value_register k) ≡ slice_index b.regs (value_register k)
    pub updates : (k : ℕ) → slice_index b'.regs (update_register k) ≡ slice_index b.regs (update_register k)
    pub masks : (k : ℕ) → slice_index b'.regs (mask_register k) ≡ slice_index b.regs (mask_register k)
    pub stores : (r : ℕ) → register_count (length d.rows) ≤ r → slice_index b'.regs r ≡ slice_index b.regs r
    pub ticks_kept : slice_index b'.regs ticks_register ≡ slice_index b.regs ticks_register
    pub later : s'.later ≡ s.later
    pub ticks : s'.ticks ≡ s.ticks

  pub holds-altered : (b b' : BankData) (s s' : State) → Alters b b' s s' → HoldsState d b s committed → HoldsState d b' s' committed
  holds-altered b b' s s' a h =
      let g = h.signals in
      record {
        signals = record {
          works = a.works;
          values = λ k i. a.values k ∙ g.values k i;
          pending = record {
            updates = λ base k f i. rw (a.later, a.updates k, a.masks k) (g.pending.updates base k f i);
            update_fits = λ k i. rw (a.updates k) (g.pending.update_fits k i);
            mask_fits = λ k i. rw (a.masks k) (g.pending.mask_fits k i);
          };
          ticks = a.ticks_kept ∙ (g.ticks ∙ sym a.ticks);
          few = rw a.ticks g.few;
          answer = a.answer;
          small = a.small;
        };
        memories = a.memories;
        words = rw a.later (holds-behind b b' (register_count (length d.rows)) a.stores d (stores_in d) s.later (stores-behind (register_count (length d.rows)) (words_down (cell_nodes d))) h.words);
      }

  -- the same bank
  pub holds-same : (b : BankData) (s s' : State) → s'.values ≡ s.values → s'.later ≡ s.later → s'.ticks ≡ s.ticks → s'.answer ≡ s.answer → HoldsState d b s committed → HoldsState d b s' committed
  holds-same b s s' values later ticks answer h =
      holds-altered b b s s'
      (record {
        works = λ k i. h.signals.works k i ∙ ap (λ z. value_of (cleared d.rows z) k) (sym values);
        memories = λ m i. h.memories m i ∙ ap (λ z. words_of z m) (sym values);
        answer = h.signals.answer ∙ sym answer;
        small = rw answer h.signals.small;
        values = λ k. refl;
        updates = λ k. refl;
        masks = λ k. refl;
        stores = λ r l. refl;
        ticks_kept = refl;
        later = later;
        ticks = ticks;
      })
      h

  -- with another answer
  pub holds-answer : (b : BankData) (s s' : State) (r v : ℕ) → r ≡ answer_register → 1 < length b.regs → v < 2 ^ 32 → s'.values ≡ s.values → s'.later ≡ s.later → s'.ticks ≡ s.ticks → s'.answer ≡ v →
      HoldsState d b s committed → HoldsState d (record b { regs = slice_set b.regs r v }) s' committed
  holds-answer b s s' r v e l small values later ticks answer h =
      let other : (j : ℕ) → j ≢ 1 → slice_index (slice_set b.regs r v) j ≡ slice_index b.regs j = λ j n. rw e (get_or-set_other b.regs 1 j v 0 n) in
      holds-altered b (record b { regs = slice_set b.regs r v }) s s'
      (record {
        works = λ k i. other (work_register k) (λ z. omega (arith, z)) ∙ (h.signals.works k i ∙ ap (λ z. value_of (cleared d.rows z) k) (sym values));
        memories = λ m i. h.memories m i ∙ ap (λ z. words_of z m) (sym values);
        answer = rw e (get_or-set_same b.regs 1 v 0 l) ∙ sym answer;
        small = rw answer small;
        values = λ k. other (value_register k) (λ z. omega (arith, z));
        updates = λ k. other (update_register k) (λ z. omega (arith, z));
        masks = λ k. other (mask_register k) (λ z. omega (arith, z));
        stores = λ j l. other j (λ z. omega (arith, z, l));
        ticks_kept = other 2 (λ z. omega (arith, z));
        later = later;
        ticks = ticks;
      })
      h

  -- with another value of a variable and another answer
  pub holds-read : (b : BankData) (s s' : State) (r t v n k : ℕ) → r ≡ answer_register → t ≡ work_register k → work_register k < length b.regs → n < 2 ^ 32 → HasOneWord d.rows → IsFine d.rows s.values → IsSignal (names_of d) k → computed_at d.rows k ≡ false →
      s'.values ≡ slice_set s.values k (slice_set (words_of s.values k) 0 v) → s'.later ≡ s.later → s'.ticks ≡ s.ticks → s'.answer ≡ n →
      HoldsState d b s committed → HoldsState d (record b { regs = slice_set (slice_set b.regs t v) r n }) s' committed
  holds-read b s s' r t v n k e f l small one fine is kept values later ticks answer h =
      let regs = slice_set (slice_set b.regs t v) r n in
      let other : (j : ℕ) → j ≢ 1 → j ≢ work_register k → slice_index regs j ≡ slice_index b.regs j =
      λ j p q. rw (e, f) (get_or-set_other (slice_set b.regs (work_register k) v) 1 j n 0 p ∙ get_or-set_other b.regs (work_register k) j v 0 q) in
      holds-altered b (record b { regs = regs }) s s'
      (record {
        works = λ j i. at-signal j i;
        memories = λ m i. h.memories m i ∙ (sym (words_other s.values k m (slice_set (words_of s.values k) 0 v) (memory-other (names_of d) k m is i)) ∙ ap (λ z. words_of z m) (sym values));
        answer = rw e (get_or-set_same (slice_set b.regs t v) 1 n 0 (let z = length-set b.regs t v in omega (arith, z, l))) ∙ sym answer;
        small = rw answer small;
        values = λ j. other (value_register j) (λ z. omega (arith, z)) (λ z. omega (arith, z));
        updates = λ j. other (update_register j) (λ z. omega (arith, z)) (λ z. omega (arith, z));
        masks = λ j. other (mask_register j) (λ z. omega (arith, z)) (λ z. omega (arith, z));
        stores = λ j l. other j (λ z. omega (arith, z, l)) (λ z. (let there = signal-there d.rows k is in omega (arith, z, l, there)));
        ticks_kept = other 2 (λ z. omega (arith, z)) (λ z. omega (arith, z));
        later = later;
        ticks = ticks;
      })
      h
    where
      there : k < length s.values
      there = let a = fine.shape.many in let b = length-map d.rows (λ (r : Row). replicate {A = ℕ} r.words 0) in let c = signal-there d.rows k is in omega (arith, a, b, c)

      long : length (words_of s.values k) ≡ 1
      long = one-long d.rows s.values k one fine is

      written : words_of s'.values k ≡ slice_set (words_of s.values k) 0 v
      written = ap (λ z. words_of z k) values ∙ words_set s.values k (slice_set (words_of s.values k) 0 v) there

      here : slice_index (slice_set (slice_set b.regs t v) r n) (work_register k) ≡ value_of (cleared d.rows s'.values) k
      here =
          let first : slice_index (slice_set (slice_set b.regs t v) r n) (work_register k) ≡ v =
          rw (e, f) (get_or-set_other (slice_set b.regs (work_register k) v) 1 (work_register k) n 0 (λ z. omega (arith, z)) ∙ get_or-set_same b.regs (work_register k) v 0 l) in
          let second : value_of (cleared d.rows s'.values) k ≡ v =
          ap (λ (z : List ℕ). slice_index z 0) (cleared-kept d.rows s'.values k kept (signal-there d.rows k is) ∙ written) ∙ get_or-set_same (words_of s.values k) 0 v 0 (omega (arith, long)) in
          first ∙ sym second

      at-signal : (j : ℕ) → IsSignal (names_of d) j → slice_index (slice_set (slice_set b.regs t v) r n) (work_register j) ≡ value_of (cleared d.rows s'.values) j
      at-signal j i = of (nat_eq j k) refl
        where
          of : (q : Bool) → nat_eq j k ≡ q → slice_index (slice_set (slice_set b.regs t v) r n) (work_register j) ≡ value_of (cleared d.rows s'.values) j
          of true q = let same : j ≡ k = eqb-true j k q in rw same here
          of false q =
              let apart : j ≢ k = λ z. (let y = eq-eqb j k z in cc (y, q)) in
              rw (e, f) (get_or-set_other (slice_set b.regs (work_register k) v) 1 (work_register j) n 0 (λ z. omega (arith, z)) ∙ get_or-set_other b.regs (work_register k) (work_register j) v 0 (λ z. apart (omega (arith, z))))
              ∙ (h.signals.works j i
              ∙ (ap (λ (z : List ℕ). slice_index z 0) (sym (cleared-other d.rows s.values j k (slice_set (words_of s.values k) 0 v) apart))
              ∙ ap (λ z. value_of (cleared d.rows z) j) (sym values)))

  -- with other words of a memory
  pub holds-loaded : (b : BankData) (s s' : State) (m : ℕ) (ws : List ℕ) → m < length b.mems → m < length s.values → IsMemory (names_of d) m →
      s'.values ≡ slice_set s.values m ws → s'.later ≡ s.later → s'.ticks ≡ s.ticks → s'.answer ≡ s.answer →
      HoldsState d b s committed → HoldsState d (record b { mems = slice_set b.mems m ws }) s' committed
  holds-loaded b s s' m ws l there is values later ticks answer h =
      holds-altered b (record b { mems = slice_set b.mems m ws }) s s'
      (record {
        works = λ k i. h.signals.works k i
            ∙ (ap (λ (z : List ℕ). slice_index z 0) (sym (cleared-other d.rows s.values k m ws (λ e. memory-other (names_of d) k m i is (sym e))))
            ∙ ap (λ z. value_of (cleared d.rows z) k) (sym values));
        memories = λ j i. at-memory j i (nat_eq j m) refl;
        answer = h.signals.answer ∙ sym answer;
        small = rw answer h.signals.small;
        values = λ k. refl;
        updates = λ k. refl;
        masks = λ k. refl;
        stores = λ r l. refl;
        ticks_kept = refl;
        later = later;
        ticks = ticks;
      })
      h
    where
      at-memory : (j : ℕ) → IsMemory (names_of d) j → (q : Bool) → nat_eq j m ≡ q → slice_index_or (slice_set b.mems m ws) j [] ≡ words_of s'.values j
      at-memory j i true q =
          let same : j ≡ m = eqb-true j m q in
          rw same (get_or-set_same b.mems m ws [] l ∙ sym (ap (λ z. words_of z m) values ∙ words_set s.values m ws there))
      at-memory j i false q =
          let apart : j ≢ m = λ z. (let y = eq-eqb j m z in cc (y, q)) in
          get_or-set_other b.mems m j ws [] apart ∙ (h.memories j i ∙ (sym (words_other s.values m j ws apart) ∙ ap (λ z. words_of z j) (sym values)))
