-- A bank that is made of a machine holds its state.
use Rattle.std.proofs.Common.{◌≡◌, ℕ, zero, suc, ◌+◌, ◌-◌, ◌*◌, ◌<◌, ◌≤◌, ◌^◌, Bool, true, false, List, [], ◌∷◌, ◌++◌, length, map, drop, take, refl, sym, ap, ◌∙◌, arith, subst, length-append}
use Rattle.std.specs.Prelude.{◌==◌, ◌&&◌, not, if◌then◌else◌, replicate, slice_get, slice_index, slice_index_or, bit_xor}
use Rattle.std.specs.Int.Bits.{and_zero_r, xor_zero_r}
use Rattle.std.specs.List.{AllByRecursion}
use Rattle.std.proofs.Math.Pow.{pow_pos}
use Rattle.std.proofs.lemmas.List.{length-replicate}
use Rattle.std.proofs.lemmas.List.Elements.{All-from_recursion}
use Rattle.vl_eval.specs.vl_design.specs.declared.design.SigKind.{SigKind}
use Rattle.vl_eval.specs.vl_design.specs.declared.design.SigKind.TheVariants.{Net, Var, Comb, Loop, Mem, Clock}
use Rattle.vl_eval.specs.vl_design.specs.Functions.{zeros}
use Rattle.vl_eval.specs.vl_design.specs.Laws.{IsFine}
use Rattle.vl_eval.specs.vl_design.specs.Sound.{IsOf, IsMem, HasValue, IsMemory}
use Rattle.vl_eval.specs.vl_design.specs.State.{State}
use Rattle.vl_eval.specs.vl_design.specs.Syntax.{Row, Flat}
use Rattle.vl_eval.specs.vl_design.specs.Value.{value_of, words_of}
use Rattle.vl_eval.specs.vl_design.specs.Width.{names_of, signal_form}
use Rattle.ten_form.specs.vl_runs.specs.Computed.{is_computed}
use Rattle.vl_run.specs.declared.machine.Machine.{Machine}
use Rattle.ten_core.specs.cell_form.specs.Cycle.{masked}
use Rattle.ten_core.specs.cell_form.specs.Data.{BankData}
use Rattle.ten_core.specs.cell_form.specs.Sound.{shape_of}
use Rattle.sub_nodes.specs.Cycles.{committed_in}
use Rattle.ten_form.specs.declared.store.Store.{Store}
use Rattle.ten_form.specs.Holding.{enable_register, word_register, value_register, mask_register, stored_by, IsStore, IsIdle, HoldsWords}
use Rattle.ten_form.specs.Stores.{words_down}
use Rattle.ten_form.proofs.Same.{all-from, all-with, stores-behind}
use Rattle.ten_form.specs.Banks.{cell_nodes, stores_in, stores_before, IsFor, HoldsPending, HoldsSignals, HoldsState}
use Rattle.ten_form.specs.Nets.{cleared}
use Rattle.ten_form.specs.Registers.{register_count}
use Rattle.ten_form.specs.States.{idle_before, HoldsStage}
use Rattle.ten_parcel.specs.Banks.{IsStateAt}
use Rattle.ten_parcel.specs.Lists.{held, registers, some_words, memory_of, memories, IsBankAt}
use Rattle.vl_eval.specs.vl_base.proofs.Lists.{zero_index as zero-at, index_past as past-end}
use Rattle.vl_eval.specs.vl_design.proofs.Shared.{fine-many as fine-long, long-as as zeros-long}
use Rattle.ten_core.specs.cell_form.proofs.Shared.{masked-none}

-- ---- registers

-- those of a signal stand before those of the next ones
next-signal : (v w x y : ℕ) (xs : List ℕ) (k i : ℕ) → slice_index (v ∷ w ∷ x ∷ y ∷ xs) (4 * suc k + i) ≡ slice_index xs (4 * k + i)
next-signal v w x y xs k i = let e : 4 * suc k + i ≡ suc (suc (suc (suc (4 * k + i)))) = omega arith in ap (slice_index (v ∷ w ∷ x ∷ y ∷ xs)) e

-- behind three others
behind-three : (v w x : ℕ) (xs : List ℕ) (n k : ℕ) → n ≡ suc (suc (suc k)) → slice_index (v ∷ w ∷ x ∷ xs) n ≡ slice_index xs k
behind-three v w x xs n k e = ap (slice_index (v ∷ w ∷ x ∷ xs)) e

nulled : (words : List ℕ) → 0 ≡ slice_index (map (λ (x : ℕ). 0) words) 0
nulled [] = refl
nulled (w ∷ words) = refl

held-is : (kind : SigKind) (words : List ℕ) → HasValue kind → held kind words ≡ slice_index (if is_computed kind then map (λ (x : ℕ). 0) words else words) 0
held-is Net words h = nulled words
held-is Var words h = refl
held-is Comb words h = nulled words
held-is Loop words h = refl
held-is Mem words h = absurd h
held-is Clock words h = refl

value-at : (rows : List Row) (values : List (List ℕ)) (k : ℕ) → IsOf HasValue (slice_get rows k) → slice_index (registers rows values) (4 * k + 0) ≡ value_of (cleared rows values) k
value-at [] values k h = absurd h
value-at (r ∷ rows) [] k h = refl
value-at (r ∷ rows) (words ∷ values) zero h = held-is r.kind words h.0
value-at (r ∷ rows) (words ∷ values) (suc k) h = next-signal _ _ _ _ (registers rows values) k 0 ∙ value-at rows values k h

work-at : (rows : List Row) (values : List (List ℕ)) (k : ℕ) → IsOf HasValue (slice_get rows k) → slice_index (registers rows values) (4 * k + 1) ≡ value_of (cleared rows values) k
work-at [] values k h = absurd h
work-at (r ∷ rows) [] k h = refl
work-at (r ∷ rows) (words ∷ values) zero h = held-is r.kind words h.0
work-at (r ∷ rows) (words ∷ values) (suc k) h = next-signal _ _ _ _ (registers rows values) k 1 ∙ work-at rows values k h

update-at : (rows : List Row) (values : List (List ℕ)) (k : ℕ) → slice_index (registers rows values) (4 * k + 2) ≡ 0
update-at [] values k = refl
update-at (r ∷ rows) [] k = refl
update-at (r ∷ rows) (words ∷ values) zero = refl
update-at (r ∷ rows) (words ∷ values) (suc k) = next-signal _ _ _ _ (registers rows values) k 2 ∙ update-at rows values k

mask-at : (rows : List Row) (values : List (List ℕ)) (k : ℕ) → slice_index (registers rows values) (4 * k + 3) ≡ 0
mask-at [] values k = refl
mask-at (r ∷ rows) [] k = refl
mask-at (r ∷ rows) (words ∷ values) zero = refl
mask-at (r ∷ rows) (words ∷ values) (suc k) = next-signal _ _ _ _ (registers rows values) k 3 ∙ mask-at rows values k

registers-long : (rows : List Row) (values : List (List ℕ)) → length values ≡ length rows → length (registers rows values) ≡ 4 * length rows
registers-long [] values h = refl
registers-long (r ∷ rows) [] h = absurd (omega (arith, h))
registers-long (r ∷ rows) (words ∷ values) h = let e = registers-long rows values (omega (arith, h)) in omega (arith, e)

-- ---- memories

all-words : (n : ℕ) (words : List ℕ) → length words ≡ n → some_words n words ≡ words
all-words zero [] h = refl
all-words zero (w ∷ words) h = absurd (omega (arith, h))
all-words (suc n) [] h = absurd (omega (arith, h))
all-words (suc n) (w ∷ words) h = ap (λ ws. w ∷ ws) (all-words n words (omega (arith, h)))

-- one word more
pub words-more : (n : ℕ) (words : List ℕ) → some_words (suc n) words ≡ some_words n words ++ slice_index words n ∷ []
words-more zero [] = refl
words-more zero (w ∷ words) = refl
words-more (suc n) [] = ap (λ ws. 0 ∷ ws) (words-more n [])
words-more (suc n) (w ∷ words) = ap (λ ws. w ∷ ws) (words-more n words)

memory-is : (kind : SigKind) (n : ℕ) (words : List ℕ) → IsMem kind → length words ≡ n → memory_of kind n words ≡ words
memory-is Net n words h e = absurd h
memory-is Var n words h e = absurd h
memory-is Comb n words h e = absurd h
memory-is Loop n words h e = absurd h
memory-is Mem n words h e = all-words n words e
memory-is Clock n words h e = absurd h

memory-at : (rows : List Row) (values : List (List ℕ)) (m : ℕ) → ((k : ℕ) → length (words_of values k) ≡ length (words_of (zeros rows) k)) →
    IsOf IsMem (slice_get rows m) → slice_index_or (memories rows values) m [] ≡ words_of values m
memory-at [] values m e h = absurd h
memory-at (r ∷ rows) [] m e h = refl
memory-at (r ∷ rows) (words ∷ values) zero e h = memory-is r.kind r.words words h.0 (e zero ∙ length-replicate r.words 0)
memory-at (r ∷ rows) (words ∷ values) (suc m) e h = memory-at rows values m (λ k. e (suc k)) h

memories-long : (rows : List Row) (values : List (List ℕ)) → length values ≡ length rows → length (memories rows values) ≡ length rows
memories-long [] values h = refl
memories-long (r ∷ rows) [] h = absurd (omega (arith, h))
memories-long (r ∷ rows) (words ∷ values) h = let e = memories-long rows values (omega (arith, h)) in omega (arith, e)

-- ---- stores

-- a write that isn't enabled leaves the word
not-enabled : (c k : Bool) (e v w : ℕ) → e ≡ 0 → (if c && (not (e == 0) && k) then w else v) ≡ v
not-enabled c k e v w z = ap (λ x. if c && (not (x == 0) && k) then w else v) z ∙ of c
  where
    of : (c : Bool) → (if c && false then w else v) ≡ v
    of true = refl
    of false = refl

-- stores that are idle write no word
by-idle : (b : BankData) (xs : List Store) (m j v : ℕ) → AllByRecursion (IsIdle b) xs → stored_by b xs m j v ≡ v
by-idle b [] m j v h = refl
by-idle b (x ∷ xs) m j v h =
    let w = masked v (slice_index b.regs (value_register x)) (slice_index b.regs (mask_register x)) in
    ap (stored_by b xs m j) (not-enabled (x.memory == m) (slice_index b.regs (word_register x) == j) (slice_index b.regs (enable_register x)) v w h.0)
    ∙ by-idle b xs m j v h.1

-- ---- the bank

before-zeros : (xs : List ℕ) (n k : ℕ) → slice_index (xs ++ replicate n 0) k ≡ slice_index xs k
before-zeros [] n k = zero-at n k
before-zeros (x ∷ xs) n zero = refl
before-zeros (x ∷ xs) n (suc k) = before-zeros xs n k

module _ (d : Flat) (m : Machine) (stores slots node : ℕ) (b : BankData) (h : IsBankAt d.rows m stores slots node b) (fine : IsFine d.rows m.values.items) where
  abbrev values : List (List ℕ)
  values = m.values.items

  abbrev own : List ℕ
  own = registers d.rows values

  behind : (n k : ℕ) → n ≡ suc (suc (suc k)) → slice_index b.regs n ≡ slice_index own k
  behind n k e =
      ap (λ rs. slice_index rs n) h.regs
      ∙ (behind-three node m.answer m.ticks (own ++ replicate (4 * stores) 0) n k e ∙ before-zeros own (4 * stores) k)

  no-update : (k : ℕ) → slice_index b.regs (4 * k + 5) ≡ 0
  no-update k = behind (4 * k + 5) (4 * k + 2) (omega arith) ∙ update-at d.rows values k

  no-mask : (k : ℕ) → slice_index b.regs (4 * k + 6) ≡ 0
  no-mask k = behind (4 * k + 6) (4 * k + 3) (omega arith) ∙ mask-at d.rows values k

  -- the registers behind those of signals
  no-store : (r : ℕ) → register_count (length d.rows) ≤ r → slice_index b.regs r ≡ 0
  no-store r l =
      let long = registers-long d.rows values (fine-long d.rows values fine) in
      behind r (r - 3) (omega (arith, l)) ∙ past-end own (r - 3) (omega (arith, l, long))

  pub bank-fits : stores ≡ length (stores_in d) → IsFor d slots (shape_of b)
  bank-fits many =
      let as-many = fine-long d.rows values fine in
      record {
        regs = (
            let e = ap (λ (rs : List ℕ). length rs) h.regs in
            let both = length-append own (replicate (4 * stores) 0) in
            let signals = registers-long d.rows values as-many in
            let zeros = length-replicate {A = ℕ} (4 * stores) 0 in
            omega (arith, e, both, signals, zeros, many)
            );
        mems = ap (λ (ms : List (List ℕ)). length ms) h.mems ∙ memories-long d.rows values as-many;
        slots = let e = ap (λ (ss : List ℕ). length ss) h.slots ∙ length-replicate slots 0 in omega (arith, e);
      }

  pending : HoldsPending d b []
  pending = record {
    updates = λ base k f i. sym (ap (masked (value_of base k) (slice_index b.regs (4 * k + 5))) (no-mask k) ∙ masked-none (value_of base k) (slice_index b.regs (4 * k + 5)));
    update_fits = λ k i. subst (λ v. v < 2 ^ (signal_form d.rows k).width) (sym (no-update k)) (pow_pos (signal_form d.rows k).width);
    mask_fits = λ k i. subst (λ v. v < 2 ^ (signal_form d.rows k).width) (sym (no-mask k)) (pow_pos (signal_form d.rows k).width);
  }

  -- ---- stores

  abbrev IsBehind : Store → Type 0
  IsBehind x = register_count (length d.rows) ≤ x.first

  idle : (x : Store) → IsBehind x → IsIdle b x
  idle x l = no-store (enable_register x) l

  store : (x : Store) → IsBehind x → IsMemory (names_of d) x.memory → IsStore d b x
  store x l i =
      let wide = (signal_form d.rows x.memory).width in
      record {
        memory = i;
        enable = subst (λ v. v < 2) (sym (no-store (enable_register x) l)) (omega arith);
        word = subst (λ v. v < 2 ^ 32) (sym (no-store (word_register x) (omega (arith, l)))) (pow_pos 32);
        value = subst (λ v. v < 2 ^ wide) (sym (no-store (value_register x) (omega (arith, l)))) (pow_pos wide);
        mask = subst (λ v. v < 2 ^ wide) (sym (no-store (mask_register x) (omega (arith, l)))) (pow_pos wide);
      }

  no-words : AllByRecursion (λ x. IsMemory (names_of d) x.memory) (stores_in d) → HoldsWords d b (stores_in d) []
  no-words are =
      let later = stores-behind (register_count (length d.rows)) (words_down (cell_nodes d)) in
      record {
        each = All-from_recursion (IsStore d b) (stores_in d) (all-with IsBehind (λ x. IsMemory (names_of d) x.memory) (IsStore d b) store (stores_in d) later are);
        words = λ base n j f i l. sym (by-idle b (stores_in d) n j (slice_index (words_of base n) j) (all-from IsBehind (IsIdle b) idle (stores_in d) later));
      }

  idle-before : (n : ℕ) → AllByRecursion (IsIdle b) (stores_before d n)
  idle-before n =
      let more = 4 * length (words_down (drop n (cell_nodes d))) in
      let from = register_count (length d.rows) + more in
      all-from (λ x. from ≤ x.first) (IsIdle b) (λ x l. idle x (omega (arith, l))) (stores_before d n) (stores-behind from (words_down (take n (cell_nodes d))))

  -- ---- states

  module _ (are : AllByRecursion (λ x. IsMemory (names_of d) x.memory) (stores_in d)) (few : m.ticks < 2 ^ 32) (small : m.answer < 2 ^ 32) (s : State) (is : IsStateAt m s) where
    cleared-is : (k : ℕ) → value_of (cleared d.rows values) k ≡ value_of (cleared d.rows s.values) k
    cleared-is k = ap (λ v. value_of (cleared d.rows v) k) (sym is.values)

    signals : HoldsSignals d b s s.values
    signals = record {
      works = λ k i. behind (4 * k + 4) (4 * k + 1) (omega arith) ∙ (work-at d.rows values k i ∙ cleared-is k);
      values = λ k i. behind (4 * k + 3) (4 * k + 0) (omega arith) ∙ (value-at d.rows values k i ∙ cleared-is k);
      pending = subst (HoldsPending d b) (sym is.later) pending;
      ticks = ap (λ rs. slice_index rs 2) h.regs ∙ sym is.ticks;
      few = subst (λ n. n < 2 ^ 32) (sym is.ticks) few;
      answer = ap (λ rs. slice_index rs 1) h.regs ∙ sym is.answer;
      small = subst (λ n. n < 2 ^ 32) (sym is.answer) small;
    }

    holds : HoldsState d b s s.values
    holds = record {
      signals = signals;
      memories = λ n i.
          ap (λ ms. slice_index_or ms n []) h.mems ∙ (memory-at d.rows values n fine.shape.words i ∙ ap (λ v. words_of v n) (sym is.values));
      words = subst (HoldsWords d b (stores_in d)) (sym is.later) (no-words are);
    }

    pub bank-holds : HoldsStage d b (committed_in node s)
    bank-holds = record {
      node = ap (λ rs. slice_index rs 0) h.regs;
      holds = holds;
      idle = λ x e. idle-before (idle_before node x);
    }
