-- The cells and writes of an update's state.
use Rattle.std.proofs.Common.{◌≡◌, ◌≢◌, ℕ, ◌+◌, ◌*◌, ◌<◌, ◌≤◌, true, Bool, List, [], ◌∷◌, ◌++◌, length, length-append, Some, refl, sym, ap, ◌∙◌, arith, subst, inl, inr}
use Rattle.std.specs.Prelude.{◌⊎◌, slice_get, slice_index, slice_index_or, All}
use Rattle.std.specs.List.{AllByRecursion}
use Rattle.std.proofs.lemmas.List.Elements.{recursion_from_All}
use Rattle.std.proofs.lemmas.Option.{slice_get_within}
use Rattle.vl_design.specs.vl_base.specs.declared.files.File.{File}
use Rattle.vl_design.specs.Queue.{with_updates}
use Rattle.vl_design.specs.Sound.{IsMem, IsMemory}
use Rattle.vl_design.specs.State.{State, counted}
use Rattle.vl_design.specs.Syntax.{Flat}
use Rattle.vl_design.specs.Value.{words_of}
use Rattle.vl_design.specs.Width.{names_of, signal_form}
use Rattle.cell_waves.proofs.Joining.{memory-kept}
use Rattle.cell_emit.specs.cell_form.proofs.Fitting.{all-push}
use Rattle.cell_emit.specs.cell_form.specs.Cycle.{written}
use Rattle.cell_emit.specs.cell_form.specs.Data.{ListData, BankData}
use Rattle.cell_emit.specs.cell_form.specs.Sound.{Shape, IsWrite, shape_of}
use Rattle.cell_emit.specs.cell_form.specs.declared.cell.Write.{Write}
use Rattle.cell_emit.specs.cell_form.specs.declared.cell.Write.TheVariants as w
use Rattle.cell_emit.specs.declared.pending.Site.{Site}
use Rattle.cell_emit.proofs.Samples.{named}
use Rattle.cell_emit.proofs.Frames.{held-stays, in-stays, grows-then, longer-grows}
use Rattle.cell_emit.specs.Slots.{held, width_at, IsIn, AreSound, Grows, Gives, Nothing}
use Rattle.cell_waves.proofs.Listing.{all-both, all-from, all-with, each-from}
use Rattle.cell_waves.proofs.Reading.{read-stays, reads-sites}
use Rattle.cell_waves.proofs.UpdatingOfStores.{update-memories, update-empty, update-idle, update-others}
use Rattle.cell_waves.specs.Applying.{apply_writes, IsUpdate, behind_update}
use Rattle.cell_waves.specs.Applying as words
use Rattle.cell_waves.specs.Keeping.{each_written, IsLeft}
use Rattle.cell_waves.specs.Reading.{EachHas, HasStore, IsRead, Reads}
use Rattle.cell_waves.proofs.Ending.{signal-below}
use Rattle.cell_waves.proofs.Lasting.{last-here, last-other, register-behind}
use Rattle.cell_waves.specs.Applies.{Applies, IsUpdated, SameWrites}
use Rattle.cell_waves.specs.Copies.{HasSignals, is_written, count_to, marked_one}
use Rattle.cell_waves.specs.Lasts.{held_after, IsRegister}
use Rattle.ten_form.specs.sub_nodes.specs.Cycles.{Stage, settled}
use Rattle.ten_form.specs.sub_nodes.specs.Nodes.{Node, Apply}
use Rattle.ten_form.specs.Banks.{cell_nodes, stores_in, stores_before, IsFor, HoldsSignals, HoldsState}
use Rattle.ten_form.specs.Nets.{nets_of}
use Rattle.ten_form.specs.Registers.{state_register, register_count}
use Rattle.ten_form.specs.States.{idle_before, MayCycle}
use Rattle.ten_form.proofs.Apart.{many-from, IsWithin, within-from}
use Rattle.ten_form.proofs.Cutting.{all-fewer}
use Rattle.ten_form.specs.Holding.{enable_register, IsIdle}
use Rattle.ten_form.specs.Stores.{words_down}
use Rattle.ten_form.specs.declared.store.Store.{Store}
use Rattle.cell_states.specs.Designs.{ComputesAlone}
use Rattle.cell_states.specs.Mades.{IsMade}
use Rattle.cell_states.specs.Marks.{AreDelayed}
use Rattle.cell_states.specs.Widths.{register_width}
use Rattle.cell_states.proofs.Alone.{pass-keeps}
use Rattle.cell_states.proofs.Finishing.{signal-of}
use Rattle.cell_states.proofs.Narrowing.{one-bit, signal-width, stores-widths, apply-within}
use Rattle.cell_trim.specs.Widths.{IsWithin as SetsWithin}
use Rattle.cell_emit.specs.Envs.{IsSlot}
use Rattle.cell_emit.proofs.Staying.{is-slot-stays}

-- ---- writes

-- writes from slots of a list are from slots of a longer one
is-write-more : (z : Shape) (first n m : ℕ) (x : Write) → n ≤ m → IsWrite z first n x → IsWrite z first m x
is-write-more z first n m (w.Reg r v) le h = let i = h.1 in (h.0, (i.0, (let j = i.1 in omega (arith, le, j))))
is-write-more z first n m (w.Mem k enable word value mask) le h =
    let a = h.1.1 in
    let b = h.2.1 in
    let c = h.3.1 in
    let e = h.4.1 in
    (h.0, (h.1.0, omega (arith, le, a)), (h.2.0, omega (arith, le, b)), (h.3.0, omega (arith, le, c)), (h.4.0, omega (arith, le, e)))

writes-more : (z : Shape) (first n m : ℕ) (xs : List Write) → n ≤ m → AllByRecursion (IsWrite z first n) xs → AllByRecursion (IsWrite z first m) xs
writes-more z first n m [] le h = tt
writes-more z first n m (x ∷ xs) le h = (is-write-more z first n m x le h.0, writes-more z first n m xs le h.1)

-- ---- the stores of a design

module _ (d : Flat) where
  abbrev first : ℕ
  first = register_count (length d.rows)

  abbrev IsAmong : Store → Type 0
  IsAmong = IsWithin first (first + 4 * length (words_down (cell_nodes d)))

  among : AllByRecursion IsAmong (stores_in d)
  among = within-from first (words_down (cell_nodes d))

  memory-below : (m : ℕ) → IsMemory (names_of d) m → m < length d.rows
  memory-below m i = let n = named IsMem (slice_get d.rows m) i in slice_get_within d.rows m n.row n.is

  -- a bank for the design has them
  pub stores-there : (z : Shape) → AllByRecursion (λ (x : Store). IsMemory (names_of d) x.memory) (stores_in d) → IsFor d 0 z → AllByRecursion (HasStore z) (stores_in d)
  stores-there z memories h =
      let regs = h.regs in
      let mems = h.mems in
      let many = many-from first (words_down (cell_nodes d)) in
      all-with IsAmong (λ x. IsMemory (names_of d) x.memory) (HasStore z)
      (λ x a m. (let high = a.1 in omega (arith, high, regs, many), (let low = memory-below x.memory m in omega (arith, low, mems)))) (stores_in d) among memories

  -- their registers stand behind those of signals
  pub none-among : (r : ℕ) → r < first → AllByRecursion (λ x. r ≢ enable_register x) (stores_in d)
  none-among r lt = all-from IsAmong (λ x. r ≢ enable_register x) (λ x a e. (let low = a.0 in omega (arith, lt, low, e))) (stores_in d) among

  -- ---- an update

  module _ (order : List ℕ) (old l0 l1 l2 l3 : ListData) (here : ℕ) (marks : List Bool) (to next : ℕ) (sites : List Site) (sets : List Write)
      (starts : (z : Shape) → AreSound z old) (zeros : Gives Nothing 1 old l0 here 1 (λ b. 0)) (memories : AllByRecursion (λ (x : Store). IsMemory (names_of d) x.memory) (stores_in d)) (reads : Reads d.rows (stores_in d) l0 l1 [] sites)
      (delayed : AreDelayed d marks) (applies : Applies d (marked_one marks) here l1 l2 [] sets) (gives : Gives Nothing 1 l2 l3 next 32 (λ b. to)) (alone : ComputesAlone d) where
    abbrev before : List Write
    before = sets ++ w.Reg state_register next ∷ []

    abbrev all : List Write
    all = before ++ each_written (apply_writes here) (stores_in d) sites

    g01 : Grows l0 l1
    g01 = longer-grows (λ z. AllByRecursion (HasStore z) (stores_in d)) (4 * length (stores_in d)) l0 l1 reads.longer

    g12 : Grows l1 l2
    g12 = longer-grows (HasSignals (length d.rows)) (6 * count_to (marked_one marks) (length d.rows)) l1 l2 applies.longer

    g23 : Grows l2 l3
    g23 = longer-grows Nothing 1 l2 l3 gives.longer

    g13 : Grows l1 l3
    g13 = grows-then l1 l2 l3 g12 g23

    g03 : Grows l0 l3
    g03 = grows-then l0 l1 l3 g01 g13

    sound0 : (z : Shape) → IsFor d 0 z → AreSound z l0
    sound0 z h = zeros.longer.sound z tt (starts z)

    sound1 : (z : Shape) → IsFor d 0 z → AreSound z l1
    sound1 z h = reads.longer.sound z (stores-there z memories h) (sound0 z h)

    sound2 : (z : Shape) → IsFor d 0 z → AreSound z l2
    sound2 z h = (let regs = h.regs in applies.longer.sound z (omega (arith, regs)) (sound1 z h))

    sound3 : (z : Shape) → IsFor d 0 z → AreSound z l3
    sound3 z h = gives.longer.sound z tt (sound2 z h)

    read1 : EachHas (IsRead d.rows l1) (stores_in d) sites
    read1 = subst (EachHas (IsRead d.rows l1) (stores_in d)) (sym reads.are) reads.read

    read3 : EachHas (IsRead d.rows l3) (stores_in d) sites
    read3 = each-from (IsRead d.rows l1) (IsRead d.rows l3) (λ x s k. read-stays d.rows l1 l3 x s g13 k) (stores_in d) sites read1

    many : length l2.cells ≤ length l3.cells
    many = let e = ap (λ (l : ListData). length l.cells) g23.is in let f = length-append l2.cells g23.more in omega (arith, e, f)

    first-same : l3.first ≡ l2.first
    first-same = ap (λ (l : ListData). l.first) g23.is

    here-in : IsIn l3 here
    here-in = in-stays l0 l3 here g03 zeros.there

    zero : (z : Shape) (b : BankData) → IsFor d 0 z → held b l3 here ≡ 0
    zero z b h = held-stays b l0 l3 here g03 zeros.there ∙ zeros.value z b (starts z)

    before-writes : (z : Shape) → IsFor d 0 z → AllByRecursion (IsWrite z l3.first (length l3.cells)) before
    before-writes z h =
        all-push (IsWrite z l3.first (length l3.cells)) sets (w.Reg state_register next)
        (subst (λ f. AllByRecursion (IsWrite z f (length l3.cells)) sets) (sym first-same) (writes-more z l2.first (length l2.cells) (length l3.cells) sets many (applies.sound z h tt)))
        (let r = h.regs in (omega (arith, r), gives.there))

    here-slot : IsSlot l3 here 1
    here-slot = is-slot-stays l0 l3 here 1 g03 (record { there = zeros.there; width = zeros.width })

    slot-narrow : (copy k s : ℕ) → 3 ≤ copy → copy ≤ 6 → is_written copy (slice_get d.rows k) ≡ true → marked_one marks k ≡ true → (s ≡ here) ⊎ IsSlot l2 s (signal_form d.rows k).width → width_at l3 s ≤ register_width d (4 * k + copy)
    slot-narrow copy k s low high i m side =
        subst (λ n. width_at l3 s ≤ n) (sym (signal-width d copy k low high (λ z. sym (delayed.each k (signal-below (names_of d) k (signal-of (names_of d) copy k i))) ∙ m) i)) (of side)
      where
        of : (s ≡ here) ⊎ IsSlot l2 s (signal_form d.rows k).width → width_at l3 s ≤ (signal_form d.rows k).width
        of (inl e) = let one = ap (width_at l3) e ∙ here-slot.width in let wide = one-bit d.rows k (signal-of (names_of d) copy k i) in omega (arith, one, wide)
        of (inr h) = let e = (is-slot-stays l2 l3 s (signal_form d.rows k).width g23 h).width in omega (arith, e)

    narrow : AllByRecursion (SetsWithin (register_width d) l3) all
    narrow =
        all-both (SetsWithin (register_width d) l3) before (each_written (apply_writes here) (stores_in d) sites)
        (all-push (SetsWithin (register_width d) l3) sets (w.Reg state_register next) (applies.within (register_width d) l3 slot-narrow tt) (let e = gives.width in let le : width_at l3 next ≤ 32 = omega (arith, e) in le))
        (apply-within d l3 here (stores_in d) sites here-slot.width (stores-widths d))

    registers : AllByRecursion IsRegister before
    registers = all-push IsRegister sets (w.Reg state_register next) (applies.registers tt) tt

    left : AllByRecursion (IsLeft before) (stores_in d)
    left =
        all-from IsAmong (IsLeft before)
        (λ x a r low high. (let far = a.0 in
        last-other sets state_register r next (λ e. omega (arith, far, low, e)) ∙ applies.others r (omega (arith, far, low)))) (stores_in d) among

    updated : (files : List File) (s : State) → IsUpdated d s (settled d files (nets_of d files order) (counted (with_updates d.rows s)))
    updated files s = record {
      values = λ k i other. ap (λ ws. slice_index ws 0) (pass-keeps d files (counted (with_updates d.rows s)) k alone other order (with_updates d.rows s).values);
      later = refl;
      answer = refl;
      ticks = refl;
    }

    module _ (number : ℕ) (files : List File) (b : BankData) (i : Stage) (may : MayCycle d order files number (Apply to) 0 b i) where
      abbrev done : State
      done = settled d files (nets_of d files order) (counted (with_updates d.rows i.state))

      is-update : IsUpdate d b l3 (stores_in d) sites here before i.state.values i.state.later
      is-update = record {
        shape = shape_of b;
        sound = sound3 (shape_of b) may.shape;
        there = stores-there (shape_of b) memories may.shape;
        read = read3;
        zero = zero (shape_of b) b may.shape;
        registers = registers;
        left = left;
        fine = may.tidy.fine;
        memories = may.stage.holds.memories;
        holds = may.stage.holds.words;
      }

      abbrev after : BankData
      after = written (held b l3) all b

      node : slice_index after.regs state_register ≡ to
      node =
          update-others d b l3 (stores_in d) sites here before i.state.values i.state.later is-update state_register (none-among state_register (omega arith))
          ∙ register-behind (held b l3) before b state_register (let r = may.shape.regs in omega (arith, r))
          ∙ ap (λ o. held_after (held b l3) o (slice_index b.regs state_register)) (last-here sets state_register next) ∙ gives.value (shape_of b) b (sound2 (shape_of b) may.shape)

      signals : (same : SameWrites d sets all) → HoldsSignals d after done done.values
      signals same =
          applies.holds b i.state done i.committed l3 all (sound1 (shape_of b) may.shape) may.shape (λ r low high. refl) may.stage.holds.signals may.others may.tidy.fine g23 same (updated files i.state)
          (λ k j m. may.due.later k (sym (delayed.each k (signal-below (names_of d) k j)) ∙ m)) (may.due.committed to refl)

      words-hold : (m : ℕ) → IsMemory (names_of d) m → slice_index_or after.mems m [] ≡ words_of done.values m
      words-hold m k =
          update-memories d b l3 (stores_in d) sites here before i.state.values i.state.later is-update m k
          ∙ sym (pass-keeps d files (counted (with_updates d.rows i.state)) m alone (memory-kept (names_of d) m k) order (with_updates d.rows i.state).values)

      holds : (same : SameWrites d sets all) → HoldsState d after done done.values
      holds same = record { signals = signals same; memories = words-hold; words = update-empty d b l3 (stores_in d) sites here before i.state.values i.state.later is-update }

      idle : (x : Node) → slice_get (cell_nodes d) to ≡ Some x → AllByRecursion (IsIdle after) (stores_before d (idle_before to x))
      idle x e = all-fewer (IsIdle after) first (cell_nodes d) (idle_before to x) (update-idle d b l3 (stores_in d) sites here before i.state.values i.state.later is-update)

    pub update-made : words.Applies (stores_in d) sites here before all → (number : ℕ) → IsMade d order number (Apply to) l3 all
    update-made writes number = record {
      sound = sound3;
      writes = λ z h. writes.sound (names_of d) z l3 (stores-there z memories h) (reads-sites d l3 (stores_in d) sites memories read3) here-in (before-writes z h);
      narrow = narrow;
      does = λ files b i may. record {
        node = node number files b i may;
        holds = holds number files b i may
            (λ r low high. writes.others r (none-among r high) ∙ last-other sets state_register r next (λ z. omega (arith, low, z)));
        idle = idle number files b i may;
      };
    }

-- the same of what is equal to the stores, the sites and the writes
pub update-of : (d : Flat) (order : List ℕ) (old l0 l1 l2 l3 : ListData) (here : ℕ) (marks : List Bool) (to next : ℕ) (stores : List Store) (sites read : List Site) (sets before after : List Write) → stores ≡ stores_in d → read ≡ sites →
    before ≡ sets ++ w.Reg state_register next ∷ [] → after ≡ before ++ each_written (apply_writes here) stores read → words.Applies stores read here before after →
    ((z : Shape) → AreSound z old) → Gives Nothing 1 old l0 here 1 (λ b. 0) → All (λ (x : Store). IsMemory (names_of d) x.memory) stores → Reads d.rows stores l0 l1 [] sites → AreDelayed d marks →
    Applies d (marked_one marks) here l1 l2 [] sets → Gives Nothing 1 l2 l3 next 32 (λ b. to) → ComputesAlone d → (number : ℕ) → IsMade d order number (Apply to) l3 after
update-of d order old l0 l1 l2 l3 here marks to next stores sites read sets before after same-stores same-sites same-before is writes starts zeros memories reads delayed applies gives alone number =
    let Memories : List Store → Type 0 = λ xs. AllByRecursion (λ (x : Store). IsMemory (names_of d) x.memory) xs in
    let all : List Write = (sets ++ w.Reg state_register next ∷ []) ++ each_written (apply_writes here) (stores_in d) sites in
    let same-all : after ≡ all =
    is ∙ ap (λ xs. xs ++ each_written (apply_writes here) stores read) same-before
    ∙ ap (λ xs. (sets ++ w.Reg state_register next ∷ []) ++ each_written (apply_writes here) xs read) same-stores
    ∙ ap (λ ss. (sets ++ w.Reg state_register next ∷ []) ++ each_written (apply_writes here) (stores_in d) ss) same-sites in
    let w0 = subst (λ xs. words.Applies xs read here before after) same-stores writes in
    let w1 = subst (λ ss. words.Applies (stores_in d) ss here before after) same-sites w0 in
    let w2 = subst (λ xs. words.Applies (stores_in d) sites here xs after) same-before w1 in
    let w3 = subst (λ xs. words.Applies (stores_in d) sites here (sets ++ w.Reg state_register next ∷ []) xs) same-all w2 in
    let known : Memories (stores_in d) = subst Memories same-stores (recursion_from_All (λ (x : Store). IsMemory (names_of d) x.memory) stores memories) in
    subst (IsMade d order number (Apply to) l3) (sym same-all)
    (update-made d order old l0 l1 l2 l3 here marks to next sites sets starts zeros known (subst (λ xs. Reads d.rows xs l0 l1 [] sites) same-stores reads) delayed applies gives alone w3 number)
