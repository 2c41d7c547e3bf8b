-- A bank with the words of a snapshot put back.
use Rattle.std.proofs.Common.{◌≡◌, ◌≢◌, inl, inr, ℕ, zero, suc, ◌+◌, ◌*◌, ◌^◌, ◌<◌, ◌≤◌, Bool, true, false, List, [], ◌∷◌, length, map, take, drop, Option, Some, refl, sym, ap, ◌∙◌, subst, arith}
use Rattle.std.specs.Prelude.{if◌then◌else◌, replicate, slice_get, slice_index, slice_index_or}
use Rattle.std.specs.List.{AllByRecursion}
use Rattle.std.proofs.lemmas.List.{length-map, take_all}
use Rattle.std.proofs.lemmas.List.Elements.{recursion_from_All}
use Rattle.std.proofs.lemmas.Option.{same_Some, slice_get_within}
use Rattle.vl_design.specs.declared.design.SigKind.{SigKind}
use Rattle.vl_design.specs.declared.design.SigKind.TheVariants.{Var, Mem}
use Rattle.vl_design.specs.Functions.{zeros}
use Rattle.vl_design.specs.Laws.{IsFine}
use Rattle.vl_design.specs.Snapshots.{is_kept, kept_values}
use Rattle.vl_design.specs.Sound.{IsMem, IsSignal, IsMemory, HasValue}
use Rattle.vl_design.specs.State.{State}
use Rattle.vl_design.specs.Syntax.{Row, Flat}
use Rattle.vl_design.specs.Value.{value_of, words_of}
use Rattle.vl_design.specs.Width.{names_of, signal_form}
use Rattle.vl_design.proofs.Fine.{zeros_fine}
use Rattle.ten_form.specs.vl_runs.specs.Computed.{is_computed}
use Rattle.trap_runtime.specs.cell_form.specs.Cycle.{masked}
use Rattle.trap_runtime.specs.cell_form.specs.declared.bank.Port.{Port}
use Rattle.trap_runtime.specs.cell_form.specs.Data.{BankData}
use Rattle.trap_runtime.specs.cell_form.specs.Sound.{SameShape, shape_of}
use Rattle.reg_ports.specs.Elsewhere.{SameElsewhere, CopiesAgree}
use Rattle.reg_ports.specs.Ports.{word_count, word_counts, held, all_held, parted, restored, IsMap}
use Rattle.reg_ports.specs.Refusals.{AreFit}
use Rattle.reg_ports.proofs.Beside.{restored-elsewhere, restored-copies}
use Rattle.reg_ports.proofs.Restoring.{all-there, fit-length, restored-held, restored-shape}
use Rattle.ten_form.specs.Holding.{IsIdle}
use Rattle.ten_form.specs.Stores.{words_down}
use Rattle.ten_form.proofs.Same.{stores-behind, holds-behind, idle-behind}
use Rattle.ten_form.specs.Banks.{cell_nodes, stores_in, stores_before, IsFor, HoldsPending, HoldsState}
use Rattle.ten_form.specs.Nets.{cleared}
use Rattle.ten_form.specs.Registers.{state_register, answer_register, ticks_register, value_register, work_register, update_register, mask_register, register_count}
use Rattle.ten_core.specs.Holding.{CanBeHeld}
use Rattle.ten_core.specs.Ports.{port_of, ports_from}
use Rattle.ten_core.proofs.Listing.{is-memory, is-var-or-mem, held-mem, held-var, copies-var, count-is, OneWord, rows-all, Named, named, port-at, no-port}
use Rattle.ten_core.proofs.Taking.{unless_computed, cleared-at, zeros-at, as-many, map-is}

-- ---- the values of a snapshot's words

-- a signal that isn't kept is 0
pub not-kept : (rows : List Row) (words : List ℕ) (k : ℕ) (r : Row) → slice_get rows k ≡ Some r → is_kept r.kind ≡ false → words_of (kept_values rows words) k ≡ replicate r.words 0
not-kept [] words k r e none = let z : ⊥ = cc in absurd z
not-kept (x ∷ rows) words zero r e none =
    let is = same_Some x r e in
    let n : is_kept x.kind ≡ false = ap (λ (y : Row). is_kept y.kind) is ∙ none in
    ap (λ (b : Bool). words_of (if b then take x.words words ∷ kept_values rows (drop x.words words) else replicate x.words 0 ∷ kept_values rows words) 0) n
    ∙ ap (λ (y : Row). replicate {A = ℕ} y.words 0) is
not-kept (x ∷ rows) words (suc k) r e none = at (λ ws. not-kept rows ws k r e none) (is_kept x.kind)
  where
    at : ((ws : List ℕ) → words_of (kept_values rows ws) k ≡ replicate r.words 0) → (b : Bool) → words_of (if b then take x.words words ∷ kept_values rows (drop x.words words) else replicate x.words 0 ∷ kept_values rows words) (suc k) ≡ replicate r.words 0
    at others true = others (drop x.words words)
    at others false = others words

-- ---- what ports hold that hold the parts of words

module _ (c : BankData) where
  abbrev HoldsParts : List Port → List ℕ → Type 0
  HoldsParts ports words = all_held ports c ≡ parted (word_counts ports) words

  own-part : (p : Port) (ps : List Port) (words : List ℕ) → HoldsParts (p ∷ ps) words → held c p ≡ take (word_count p) words
  own-part p ps words h = ap (λ (xss : List (List ℕ)). slice_index_or xss 0 []) h

  other-parts : (p : Port) (ps : List Port) (words : List ℕ) → HoldsParts (p ∷ ps) words → HoldsParts ps (drop (word_count p) words)
  other-parts p ps words h = ap (λ (xss : List (List ℕ)). drop 1 xss) h

  pub part-is : (k : ℕ) (rows : List Row) (words : List ℕ) → AllByRecursion OneWord rows → HoldsParts (ports_from k rows) words →
      (j n : ℕ) (x : Row) → n ≡ k + j → slice_get rows j ≡ Some x → is_kept x.kind ≡ true → held c (port_of n x) ≡ words_of (kept_values rows words) j
  part-is k [] words one h j n x e i kept = let z : ⊥ = cc in absurd z
  part-is k (r ∷ rs) words one h zero n x e i kept = at (is_kept r.kind) refl h
    where
      here : k ≡ n
      here = omega (arith, e)

      at : (b : Bool) → is_kept r.kind ≡ b → HoldsParts (if b then port_of k r ∷ ports_from (k + 1) rs else ports_from (k + 1) rs) words →
          held c (port_of n x) ≡ words_of (if b then take r.words words ∷ kept_values rs (drop r.words words) else replicate r.words 0 ∷ kept_values rs words) 0
      at true f own =
          let first = own-part (port_of k r) (ports_from (k + 1) rs) words own ∙ ap (λ (w : ℕ). take w words) (count-is k r f one.0) in
          subst (λ (m : ℕ). held c (port_of m x) ≡ take r.words words) here (subst (λ (y : Row). held c (port_of k y) ≡ take r.words words) (same_Some r x i) first)
      at false f own =
          let same = ap (λ (y : Row). is_kept y.kind) (same_Some r x i) in
          let z : ⊥ = cc (f, kept, same) in absurd z
  part-is k (r ∷ rs) words one h (suc j) n x e i kept = at (λ ws parts. part-is (k + 1) rs ws one.1 parts j n x (omega (arith, e)) i kept) (is_kept r.kind) refl h
    where
      at : ((ws : List ℕ) → HoldsParts (ports_from (k + 1) rs) ws → held c (port_of n x) ≡ words_of (kept_values rs ws) j) →
          (b : Bool) → is_kept r.kind ≡ b → HoldsParts (if b then port_of k r ∷ ports_from (k + 1) rs else ports_from (k + 1) rs) words →
          held c (port_of n x) ≡ words_of (if b then take r.words words ∷ kept_values rs (drop r.words words) else replicate r.words 0 ∷ kept_values rs words) (suc j)
      at others true f own =
          let rest = other-parts (port_of k r) (ports_from (k + 1) rs) words own in
          others (drop r.words words) (subst (λ (w : ℕ). HoldsParts (ports_from (k + 1) rs) (drop w words)) (count-is k r f one.0) rest)
      at others false f own = others words own

-- ---- lengths of memories

length-at : (xs : List (List ℕ)) (k : ℕ) → slice_index (map (λ (m : List ℕ). length m) xs) k ≡ length (slice_index_or xs k [])
length-at [] k = refl
length-at (x ∷ xs) zero = refl
length-at (x ∷ xs) (suc k) = length-at xs k

same-length : (a b : BankData) (k : ℕ) → SameShape a b → length (slice_index_or a.mems k []) ≡ length (slice_index_or b.mems k [])
same-length a b k h = sym (length-at a.mems k) ∙ ap (λ (ns : List ℕ). slice_index ns k) h.mems ∙ length-at b.mems k

-- the shape of a bank with words put back
pub shape-stays : (ports : List Port) (words : List ℕ) (b : BankData) → IsMap ports b → AreFit ports words → shape_of (restored ports words b) ≡ shape_of b
shape-stays ports words b map-is fit =
    let c = restored ports words b in
    let same = restored-shape ports words b (all-there ports b map-is.each) (fit-length ports words fit) in
    let mems : length c.mems ≡ length b.mems =
    sym (length-map c.mems (λ (m : List ℕ). length m)) ∙ ap (λ (ns : List ℕ). length ns) same.mems ∙ length-map b.mems (λ (m : List ℕ). length m) in
    λ i. record { regs = same.regs i; mems = mems i; slots = same.slots i }

-- ---- a bank that held zeros

module _ (d : Flat) (can : CanBeHeld d) (least : ℕ) (b : BankData) (for : IsFor d least (shape_of b)) (s : State) (zero-values : s.values ≡ zeros d.rows) (none-later : s.later ≡ [])
    (holds : HoldsState d b s s.values) (words : List ℕ) (fit : AreFit (ports_from 0 d.rows) words) where
  abbrev ports : List Port
  ports = ports_from 0 d.rows

  abbrev pub put : BankData
  put = restored ports words b

  abbrev pub values : List (List ℕ)
  values = kept_values d.rows words

  fine : IsFine d.rows s.values
  fine = subst (IsFine d.rows) (sym zero-values) (zeros_fine d.rows)

  is-map : IsMap ports b
  is-map = map-is d can b s s.values fine holds least for

  one-words : AllByRecursion OneWord d.rows
  one-words = rows-all OneWord d.rows (λ k r e h. can.words.one k r e h)

  elsewhere : SameElsewhere ports put b
  elsewhere = restored-elsewhere ports words b (all-there ports b is-map.each) (fit-length ports words fit)

  held-is : (k : ℕ) (r : Row) → slice_get d.rows k ≡ Some r → is_kept r.kind ≡ true → held put (port_of k r) ≡ words_of values k
  held-is k r i kept =
      part-is put 0 d.rows words one-words (restored-held ports words b (all-there ports b is-map.each) is-map.apart (fit-length ports words fit)) k k r (omega arith) i kept

  copies-agree : (k : ℕ) (r : Row) → slice_get d.rows k ≡ Some r → is_kept r.kind ≡ true → CopiesAgree put (port_of k r)
  copies-agree k r i kept =
      let all = recursion_from_All (CopiesAgree put) ports (restored-copies ports words b (all-there ports b is-map.each) is-map.apart (fit-length ports words fit)) in
      port-at (CopiesAgree put) 0 d.rows all k k r (omega arith) i kept

  -- ---- registers that stay

  abbrev Stays : ℕ → Type 0
  Stays n = slice_index put.regs n ≡ slice_index b.regs n

  stays : (n : ℕ) → ((j : ℕ) (x : Row) → slice_get d.rows j ≡ Some x → is_kept x.kind ≡ true → (value_register j ≢ n) × (work_register j ≢ n)) → Stays n
  stays n h = elsewhere.registers n (no-port n d.rows h)

  early-stays : (n : ℕ) → n < 3 → Stays n
  early-stays n lt = stays n (λ j x i kept. (λ e. omega (arith, e, lt), λ e. omega (arith, e, lt)))

  update-stays : (k : ℕ) → Stays (update_register k)
  update-stays k = stays (update_register k) (λ j x i kept. (λ e. omega (arith, e), λ e. omega (arith, e)))

  mask-stays : (k : ℕ) → Stays (mask_register k)
  mask-stays k = stays (mask_register k) (λ j x i kept. (λ e. omega (arith, e), λ e. omega (arith, e)))

  late-stays : (n : ℕ) → register_count (length d.rows) ≤ n → Stays n
  late-stays n le = stays n (λ j x i kept.
      let lt = slice_get_within d.rows j x i in
      (λ e. omega (arith, e, le, lt), λ e. omega (arith, e, le, lt)))

  -- a signal that isn't kept is none that is
  other : (k j : ℕ) (r x : Row) → slice_get d.rows k ≡ Some r → is_kept r.kind ≡ false → slice_get d.rows j ≡ Some x → is_kept x.kind ≡ true → j ≢ k
  other k j r x i none l kept e =
      let same : slice_get d.rows j ≡ slice_get d.rows k = ap (slice_get d.rows) e in
      let row = same_Some x r (sym l ∙ same ∙ i) in
      let kind = ap (λ (y : Row). is_kept y.kind) row in
      let z : ⊥ = cc (none, kept, kind) in z

  work-stays : (k : ℕ) (r : Row) → slice_get d.rows k ≡ Some r → is_kept r.kind ≡ false → Stays (work_register k)
  work-stays k r i none = stays (work_register k) (λ j x l kept.
      let far = other k j r x i none l kept in
      (λ e. omega (arith, e), λ e. far (omega (arith, e))))

  value-stays : (k : ℕ) (r : Row) → slice_get d.rows k ≡ Some r → is_kept r.kind ≡ false → Stays (value_register k)
  value-stays k r i none = stays (value_register k) (λ j x l kept.
      let far = other k j r x i none l kept in
      (λ e. far (omega (arith, e)), λ e. omega (arith, e)))

  -- ---- signals

  -- a value in both states that is 0 there, since the signal isn't kept
  still-zero : (k : ℕ) (r : Row) → slice_get d.rows k ≡ Some r → is_kept r.kind ≡ false → value_of s.values k ≡ value_of values k
  still-zero k r i none =
      ap (λ (v : List (List ℕ)). value_of v k) zero-values ∙ ap (λ (ws : List ℕ). slice_index ws 0) (zeros-at d.rows k r i ∙ sym (not-kept d.rows words k r i none))

  cleared-zero : (k : ℕ) (r : Row) → slice_get d.rows k ≡ Some r → is_kept r.kind ≡ false → value_of (cleared d.rows s.values) k ≡ value_of (cleared d.rows values) k
  cleared-zero k r i none =
      cleared-at d.rows s.values k ∙ ap (unless_computed (slice_get d.rows k)) (still-zero k r i none) ∙ sym (cleared-at d.rows values k)

  cleared-kept : (k : ℕ) (r : Row) → slice_get d.rows k ≡ Some r → r.kind ≡ Var → value_of (cleared d.rows values) k ≡ value_of values k
  cleared-kept k r i e =
      let v = value_of values k in
      cleared-at d.rows values k ∙ ap (λ (o : Option Row). unless_computed o v) i ∙ ap (λ (kind : SigKind). if is_computed kind then 0 else v) e

  -- the work copy and the value of a variable
  work-kept : (k : ℕ) (r : Row) → slice_get d.rows k ≡ Some r → is_kept r.kind ≡ true → r.kind ≡ Var → slice_index put.regs (work_register k) ≡ value_of (cleared d.rows values) k
  work-kept k r i kept e = ap (λ (ws : List ℕ). slice_index ws 0) (sym (held-var put k r e) ∙ held-is k r i kept) ∙ sym (cleared-kept k r i e)

  value-kept : (k : ℕ) (r : Row) → slice_get d.rows k ≡ Some r → is_kept r.kind ≡ true → r.kind ≡ Var → slice_index put.regs (value_register k) ≡ value_of (cleared d.rows values) k
  value-kept k r i kept e = copies-var put k r e (copies-agree k r i kept) ∙ work-kept k r i kept e

  no-mem : (kind : SigKind) → HasValue kind → kind ≡ Mem → ⊥
  no-mem kind h e = subst HasValue e h

  work-is : (k : ℕ) → IsSignal (names_of d) k → slice_index put.regs (work_register k) ≡ value_of (cleared d.rows values) k
  work-is k i = of (named HasValue (slice_get d.rows k) i)
    where
      of : Named HasValue (slice_get d.rows k) → slice_index put.regs (work_register k) ≡ value_of (cleared d.rows values) k
      of x = at (is_kept x.row.kind) refl
        where
          at : (b : Bool) → is_kept x.row.kind ≡ b → slice_index put.regs (work_register k) ≡ value_of (cleared d.rows values) k
          at true f = elim (is-var-or-mem x.row.kind f) [ inl e ↦ work-kept k x.row x.is f e | inr e ↦ absurd (no-mem x.row.kind x.kind e) ]
          at false f = work-stays k x.row x.is f ∙ holds.signals.works k i ∙ cleared-zero k x.row x.is f

  value-is : (k : ℕ) → IsSignal (names_of d) k → slice_index put.regs (value_register k) ≡ value_of (cleared d.rows values) k
  value-is k i = of (named HasValue (slice_get d.rows k) i)
    where
      of : Named HasValue (slice_get d.rows k) → slice_index put.regs (value_register k) ≡ value_of (cleared d.rows values) k
      of x = at (is_kept x.row.kind) refl
        where
          at : (b : Bool) → is_kept x.row.kind ≡ b → slice_index put.regs (value_register k) ≡ value_of (cleared d.rows values) k
          at true f = elim (is-var-or-mem x.row.kind f) [ inl e ↦ value-kept k x.row x.is f e | inr e ↦ absurd (no-mem x.row.kind x.kind e) ]
          at false f = value-stays k x.row x.is f ∙ holds.signals.values k i ∙ cleared-zero k x.row x.is f

  -- ---- what is pending

  pending : HoldsPending d put s.later
  pending = record {
    updates = λ base k f i.
        holds.signals.pending.updates base k f i
        ∙ ap (λ (u : ℕ). masked (value_of base k) u (slice_index b.regs (mask_register k))) (sym (update-stays k))
        ∙ ap (λ (m : ℕ). masked (value_of base k) (slice_index put.regs (update_register k)) m) (sym (mask-stays k));
    update_fits = λ k i. subst (λ v. v < 2 ^ (signal_form d.rows k).width) (sym (update-stays k)) (holds.signals.pending.update_fits k i);
    mask_fits = λ k i. subst (λ v. v < 2 ^ (signal_form d.rows k).width) (sym (mask-stays k)) (holds.signals.pending.mask_fits k i);
  }

  -- ---- memories

  memory-kept : (k : ℕ) (r : Row) → slice_get d.rows k ≡ Some r → r.kind ≡ Mem → IsMemory (names_of d) k → slice_index_or put.mems k [] ≡ words_of values k
  memory-kept k r i e m =
      let kept : is_kept r.kind ≡ true = ap is_kept e in
      let long : length (slice_index_or b.mems k []) ≡ r.words = ap (λ (ws : List ℕ). length ws) (holds.memories k m) ∙ as-many d can b s s.values fine holds k r i in
      let same = same-length put b k elsewhere.shape in
      sym (take_all r.words (slice_index_or put.mems k []) (omega (arith, long, same))) ∙ sym (held-mem put k r e) ∙ held-is k r i kept

  memory-is : (m : ℕ) → IsMemory (names_of d) m → slice_index_or put.mems m [] ≡ words_of values m
  memory-is m i = let x = named IsMem (slice_get d.rows m) i in memory-kept m x.row x.is (is-memory x.row.kind x.kind) i

  -- ---- all of it

  pub now-holds : HoldsState d put (record s { values = values }) values
  now-holds = record {
    signals = record {
      works = work-is;
      values = value-is;
      pending = pending;
      ticks = early-stays ticks_register (omega arith) ∙ holds.signals.ticks;
      few = holds.signals.few;
      answer = early-stays answer_register (omega arith) ∙ holds.signals.answer;
      small = holds.signals.small;
    };
    memories = memory-is;
    words =
        holds-behind b put (register_count (length d.rows)) late-stays d (stores_in d) s.later (stores-behind (register_count (length d.rows)) (words_down (cell_nodes d))) holds.words;
  }

  pub node-stays : Stays state_register
  node-stays = early-stays state_register (omega arith)

  pub idle-stays : (n : ℕ) → AllByRecursion (IsIdle b) (stores_before d n) → AllByRecursion (IsIdle put) (stores_before d n)
  idle-stays n h =
      let more = 4 * length (words_down (drop n (cell_nodes d))) in
      let from = register_count (length d.rows) + more in
      idle-behind b put from (λ r le. late-stays r (omega (arith, le))) (stores_before d n) (stores-behind from (words_down (take n (cell_nodes d)))) h
