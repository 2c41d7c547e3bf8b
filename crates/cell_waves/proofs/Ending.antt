-- What a bank holds behind the writes of a segment, and of a wave.
use Rattle.std.proofs.Common.{◌≡◌, ◌≢◌, ℕ, ◌+◌, ◌*◌, ◌-◌, ◌<◌, ◌≤◌, ◌^◌, Bool, true, false, List, [], ◌∷◌, length, Option, Some, None, refl, sym, ap, ◌∙◌, arith, subst, inl, inr}
use Rattle.std.specs.Prelude.{◌⊎◌, ◌==◌, ◌&&◌, not, nat_lt, if◌then◌else◌, slice_get, slice_index, slice_index_or, All}
use Rattle.std.specs.List.{AllByRecursion}
use Rattle.std.proofs.Math.Pow.{pow_pos}
use Rattle.std.proofs.lemmas.Bool.{eqb-true, le-ltb, eq-eqb}
use Rattle.std.proofs.lemmas.List.Elements.{All-head, All-tail}
use Rattle.std.proofs.lemmas.List.{ext_get_or}
use Rattle.std.proofs.lemmas.Option.{slice_get_within}
use Rattle.ten_form.specs.vl_design.specs.Syntax.{Row, Flat}
use Rattle.ten_form.specs.vl_design.specs.Width.{Names, names_of, signal_form}
use Rattle.ten_form.specs.vl_design.specs.Value.{words_of, value_of}
use Rattle.ten_form.specs.vl_design.specs.Sound.{HasValue, IsSignal, IsMemory}
use Rattle.ten_form.specs.vl_design.specs.State.{State, Update, all_updated, sample}
use Rattle.ten_form.specs.vl_design.specs.Laws.{IsFine}
use Rattle.ten_form.specs.vl_design.proofs.Kept.{OfUpdates, updates_keep}
use Rattle.ten_form.specs.vl_runs.specs.Computed.{computed_at}
use Rattle.cell_emit.specs.vl_sites.specs.Others.{other_at}
use Rattle.cell_emit.specs.cell_form.specs.declared.cell.Write.{Write}
use Rattle.cell_emit.specs.cell_form.specs.Data.{ListData, BankData}
use Rattle.cell_emit.specs.cell_form.specs.Cycle.{masked, written}
use Rattle.cell_emit.specs.cell_form.specs.Sound.{Shape}
use Rattle.cell_emit.specs.Slots.{held, AreSound}
use Rattle.cell_emit.proofs.Frames.{held-fits}
use Rattle.cell_emit.specs.Envs.{Env, entry, IsEntry, held_or, word_or, Fits, Stands}
use Rattle.cell_emit.specs.Pendings.{PendingSlots, slot_of, ArePending}
use Rattle.cell_emit.proofs.Samples.{named}
use Rattle.ten_form.specs.Registers.{answer_register, ticks_register, value_register, work_register, update_register, mask_register, register_count}
use Rattle.ten_form.specs.Nets.{cleared}
use Rattle.ten_form.specs.Banks.{HoldsPending, HoldsSignals, HoldsState}
use Rattle.cell_waves.specs.Lasts.{last_write, held_after, IsRegister}
use Rattle.cell_waves.specs.Copies.{is_written, differs, changed, marked_one, marked_change, each_one, slot_or, wanted, or_before, IsHeld, Sets}
use Rattle.cell_waves.specs.Ends.{Ends, Leads, IsLike}
use Rattle.cell_waves.proofs.Clearing.{cleared-computed, cleared-kept}
use Rattle.cell_waves.proofs.Lasting.{register-behind, memories-after}
use Rattle.cell_waves.proofs.Setting.{wanted-some, wanted-not, wanted-left}
use Rattle.cell_waves.proofs.Written.{written-if, written-signal, other-unwritten, other-kept}
pub use Rattle.cell_emit.proofs.Placing.{held-or-fits as entry-fits}

-- ---- signals

pub signal-below : (names : Names) (k : ℕ) → IsSignal names k → k < length names.rows
signal-below names k i =
    let n = named HasValue (slice_get names.rows k) i in
    slice_get_within names.rows k n.row n.is

-- a variable's value stays where those of computed signals are taken as 0
pub value-kept : (d : Flat) (values : List (List ℕ)) (k : ℕ) → IsSignal (names_of d) k → computed_at d.rows k ≡ false → value_of (cleared d.rows values) k ≡ value_of values k
value-kept d values k i c = ap (λ ws. slice_index ws 0) (cleared-kept d.rows values k (signal-below (names_of d) k i) c)

-- ---- entries

pub entry-slot : (at : Env) (k : ℕ) → at.first ≡ 0 → entry at k ≡ slot_of at.slots k
entry-slot at k e =
    let F : ℕ → Option ℕ = λ f. if nat_lt k f then None else slice_index_or at.slots (k - f) None in
    let same : k - 0 ≡ k = omega arith in
    ap F e ∙ ap (λ t. if t then None else slice_index_or at.slots (k - 0) None) (le-ltb k 0 (omega arith)) ∙ ap (λ j. slice_index_or at.slots j None) same

differs-not : (a b : Option ℕ) → differs a b ≡ false → a ≡ b
differs-not None None e = refl
differs-not None (Some b) e = absurd (cc)
differs-not (Some a) None e = absurd (cc)
differs-not (Some a) (Some b) e = of (a == b) refl e
  where
    of : (t : Bool) → (a == b) ≡ t → not t ≡ false → Some a ≡ Some b
    of true h f = ap Some (eqb-true a b h)
    of false h f = absurd (cc)

held-slot : (b : BankData) (l : ListData) (none : ℕ) (e : Option ℕ) → held b l none ≡ 0 → held b l (slot_or none e) ≡ held_or b l e
held-slot b l none None h = h
held-slot b l none (Some r) h = refl

pub entry-there : (l : ListData) (w : ℕ) (e : Option ℕ) → IsEntry l w e → IsHeld l e
entry-there l w None h = h
entry-there l w (Some r) h = h.there

pub update-held : (names : Names) (l : ListData) (p : PendingSlots) (copy k : ℕ) → ArePending names l p → is_written copy (slice_get names.rows k) ≡ true → IsHeld l (slot_of p.update k)
update-held names l p copy k h w = entry-there l (signal_form names.rows k).width (slot_of p.update k) (h.update k (written-signal copy (slice_get names.rows k) w))

-- what the register of a signal holds that is written where its entry has changed, or always
pub entry-written : (rows : List Row) (copy : ℕ) (chosen : ℕ → Bool) (after : List (Option ℕ)) (none k : ℕ) (b : BankData) (l : ListData) (last : Option ℕ) (old : ℕ) → held b l none ≡ 0 →
    is_written copy (slice_get rows k) ≡ true → last ≡ wanted rows copy chosen after none k → (chosen k ≡ false → old ≡ held_or b l (slot_of after k)) → held_after (held b l) last old ≡ held_or b l (slot_of after k)
entry-written rows copy chosen after none k b l last old zero w is same = ap (λ e. held_after (held b l) e old) is ∙ of (chosen k) refl
  where
    of : (t : Bool) → chosen k ≡ t → held_after (held b l) (wanted rows copy chosen after none k) old ≡ held_or b l (slot_of after k)
    of true e = ap (λ x. held_after (held b l) x old) (wanted-some rows copy after none chosen k w e) ∙ held-slot b l none (slot_of after k) zero
    of false e = ap (λ x. held_after (held b l) x old) (wanted-left rows copy after none chosen k e) ∙ same e

-- that of a signal that isn't written is as it was
pub entry-left : (rows : List Row) (copy : ℕ) (chosen : ℕ → Bool) (after : List (Option ℕ)) (none k : ℕ) (b : BankData) (l : ListData) (last : Option ℕ) (old : ℕ) →
    is_written copy (slice_get rows k) ≡ false → last ≡ wanted rows copy chosen after none k → held_after (held b l) last old ≡ old
entry-left rows copy chosen after none k b l last old w is = ap (λ e. held_after (held b l) e old) (is ∙ wanted-not rows copy after none chosen k w)

-- ---- memories

-- two samples whose memory has one entry have the same words
pub words-same : (names : Names) (b : BankData) (l : ListData) (at0 at1 : Env) (s t : State) (m : ℕ) → Stands names b l at0 (sample s) → Stands names b l at1 (sample t) → IsMemory names m → entry at1 m ≡ entry at0 m →
    words_of t.values m ≡ words_of s.values m
words-same names b l at0 at1 s t m h k i e =
    ext_get_or 0 (words_of t.values m) (words_of s.values m) (k.fine.shape.words m ∙ sym (h.fine.shape.words m))
    (λ j lt. k.words m j i ∙ ap (λ x. word_or b x j) e ∙ sym (h.words m j i))

-- a bank holds the memories of a state behind writes of registers, where slots say that they are those of a state that it held
pub memories-hold : (d : Flat) (b : BankData) (l : ListData) (at0 at1 : Env) (s t : State) (committed : List (List ℕ)) (value : ℕ → ℕ) (sets : List Write) (m : ℕ) → AllByRecursion IsRegister sets → HoldsState d b s committed →
    Stands (names_of d) b l at0 (sample s) → Stands (names_of d) b l at1 (sample t) → IsMemory (names_of d) m → entry at1 m ≡ entry at0 m → slice_index_or (written value sets b).mems m [] ≡ words_of t.values m
memories-hold d b l at0 at1 s t committed value sets m registers holds h k i e =
    ap (λ (ms : List (List ℕ)). slice_index_or ms m []) (memories-after value sets b registers) ∙ holds.memories m i ∙ sym (words-same (names_of d) b l at0 at1 s t m h k i e)

-- ---- a signal of which no update is pending

of-others : (p : ℕ → Bool) (us : List Update) → All (λ u. p u.signal ≡ false) us → OfUpdates p us
of-others p [] h = tt
of-others p (u ∷ us) h = (All-head (λ (u : Update). p u.signal ≡ false) u us h, of-others p us (All-tail (λ (u : Update). p u.signal ≡ false) u us h))

-- keeps its value
pub value-stays : (rows : List Row) (k : ℕ) (us : List Update) (values : List (List ℕ)) → All (λ u. (u.signal == k) ≡ false) us → value_of (all_updated rows values us) k ≡ value_of values k
value-stays rows k us values h =
    sym (ap (λ ws. slice_index ws 0) (updates_keep (λ j. j == k) k (eq-eqb k k refl) rows us (of-others (λ j. j == k) us h) values))

-- so does a loop variable or a clock, of which none ever is
pub others-stay : (rows : List Row) (k : ℕ) (us : List Update) (values : List (List ℕ)) → other_at rows k ≡ true → All (λ (u : Update). other_at rows u.signal ≡ false) us →
    value_of (all_updated rows values us) k ≡ value_of values k
others-stay rows k us values o h = sym (ap (λ ws. slice_index ws 0) (updates_keep (other_at rows) k o rows us (of-others (other_at rows) us h) values))

-- ---- the writes of a segment, and of a wave

module _ (d : Flat) (b : BankData) (l : ListData) (s t : State) (committed : List (List ℕ)) (marks : List Bool) (at0 at1 : Env) (p0 p1 : PendingSlots) (none : ℕ) (commits : Bool) (sets : List Write)
    (h : Leads d b l s t committed marks at0 at1 p0 p1 none) (e : Ends d.rows commits marks at0 at1 p0 p1 none sets) where
  abbrev names : Names
  names = names_of d

  abbrev behind : BankData
  behind = written (held b l) sets b

  after : (r : ℕ) → r < 4 * length d.rows + 3 → slice_index behind.regs r ≡ held_after (held b l) (last_write sets r) (slice_index b.regs r)
  after r lt = let many = h.bank.regs in register-behind (held b l) sets b r (omega (arith, many, lt))

  room : (k : ℕ) → IsSignal names k → 4 * k + 6 < 4 * length d.rows + 3
  room k i = let lt = signal-below names k i in omega (arith, lt)

  work-value : (k : ℕ) → IsSignal names k → computed_at d.rows k ≡ false → held_or b l (slot_of at1.slots k) ≡ value_of t.values k
  work-value k i c = ap (held_or b l) (sym (entry-slot at1 k h.first_behind)) ∙ sym (h.stands_behind.values k i)

  work-before : (k : ℕ) → IsSignal names k → computed_at d.rows k ≡ false → changed at0.slots at1.slots k ≡ false → slice_index b.regs (work_register k) ≡ held_or b l (slot_of at1.slots k)
  work-before k i c same =
      h.before.works k i ∙ value-kept d s.values k i c ∙ h.stands.values k i
      ∙ ap (held_or b l) (entry-slot at0 k h.first ∙ differs-not (slot_of at0.slots k) (slot_of at1.slots k) same)

  works-hold : (k : ℕ) → IsSignal names k → (o c : Bool) → other_at d.rows k ≡ o → computed_at d.rows k ≡ c → (u : List (List ℕ)) → (computed_at d.rows k ≡ false → value_of u k ≡ value_of t.values k) →
      slice_index behind.regs (work_register k) ≡ value_of (cleared d.rows u) k
  works-hold k i true c o e' u like =
      let lt = room k i in
      let q = other-kept (slice_get d.rows k) o in
      after (work_register k) (omega (arith, lt)) ∙ entry-left d.rows 4 (changed at0.slots at1.slots) at1.slots none k b l _ _ (other-unwritten 4 (slice_get d.rows k) o) (e.works k (signal-below names k i))
      ∙ h.before.works k i ∙ value-kept d s.values k i q ∙ h.others.now k o ∙ sym (h.others_behind.now k o) ∙ sym (like q) ∙ sym (value-kept d u k i q)
  works-hold k i false true o c u like =
      let lt = room k i in
      after (work_register k) (omega (arith, lt)) ∙ entry-left d.rows 4 (changed at0.slots at1.slots) at1.slots none k b l _ _ (written-if names 4 k true false i o c refl) (e.works k (signal-below names k i))
      ∙ h.before.works k i ∙ cleared-computed d.rows s.values k c ∙ sym (cleared-computed d.rows u k c)
  works-hold k i false false o c u like =
      let lt = room k i in
      after (work_register k) (omega (arith, lt)) ∙ entry-written d.rows 4 (changed at0.slots at1.slots) at1.slots none k b l _ _ h.zero (written-if names 4 k false true i o c refl) (e.works k (signal-below names k i)) (work-before k i c)
      ∙ work-value k i c ∙ sym (like c) ∙ sym (value-kept d u k i c)

  -- a register of a signal that is marked holds what its slot does
  updates-hold : (k : ℕ) → IsSignal names k → other_at d.rows k ≡ false → marked_one marks k ≡ true → slice_index behind.regs (update_register k) ≡ held_or b l (slot_of p1.update k)
  updates-hold k i o m =
      let lt = room k i in
      after (update_register k) (omega (arith, lt))
      ∙ entry-written d.rows 5 (marked_change marks p0.update p1.update) p1.update none k b l _ _ h.zero (written-if names 5 k (computed_at d.rows k) true i o refl refl) (e.updates k (signal-below names k i))
      (λ same. sym (h.read.update k i o) ∙ ap (held_or b l) (differs-not (slot_of p0.update k) (slot_of p1.update k) (sym (ap (λ q. q && changed p0.update p1.update k) m) ∙ same)))

  masks-hold : (k : ℕ) → IsSignal names k → other_at d.rows k ≡ false → marked_one marks k ≡ true → slice_index behind.regs (mask_register k) ≡ held_or b l (slot_of p1.mask k)
  masks-hold k i o m =
      after (mask_register k) (room k i)
      ∙ entry-written d.rows 6 (marked_change marks p0.mask p1.mask) p1.mask none k b l _ _ h.zero (written-if names 6 k (computed_at d.rows k) true i o refl refl) (e.masks k (signal-below names k i))
      (λ same. sym (h.read.mask k i o) ∙ ap (held_or b l) (differs-not (slot_of p0.mask k) (slot_of p1.mask k) (sym (ap (λ q. q && changed p0.mask p1.mask k) m) ∙ same)))

  -- no update is pending of a loop variable or a clock, or of a signal that isn't marked
  abbrev Kept : ℕ → Type 0
  Kept k = (other_at d.rows k ≡ true) ⊎ (marked_one marks k ≡ false)

  abbrev Marked : ℕ → Type 0
  Marked k = (other_at d.rows k ≡ false) × (marked_one marks k ≡ true)

  which : (k : ℕ) → Kept k ⊎ Marked k
  which k = of (other_at d.rows k) refl (marked_one marks k) refl
    where
      of : (o : Bool) → other_at d.rows k ≡ o → (m : Bool) → marked_one marks k ≡ m → Kept k ⊎ Marked k
      of true o m e = inl (inl o)
      of false o false m = inl (inr m)
      of false o true m = inr (o, m)

  -- such a one keeps its value
  stays-before : (k : ℕ) (base : List (List ℕ)) → IsSignal names k → Kept k → value_of (all_updated d.rows base s.later) k ≡ value_of base k
  stays-before k base i (inl o) = others-stay d.rows k s.later base o h.others.later
  stays-before k base i (inr m) = value-stays d.rows k s.later base (h.none_before k i m)

  stays-behind : (k : ℕ) (base : List (List ℕ)) → IsSignal names k → Kept k → value_of (all_updated d.rows base t.later) k ≡ value_of base k
  stays-behind k base i (inl o) = others-stay d.rows k t.later base o h.others_behind.later
  stays-behind k base i (inr m) = value-stays d.rows k t.later base (h.none_behind k i m)

  -- and its registers are as they were
  update-kept : (k : ℕ) → IsSignal names k → Kept k → slice_index behind.regs (update_register k) ≡ slice_index b.regs (update_register k)
  update-kept k i (inl o) =
      let lt = room k i in
      after (update_register k) (omega (arith, lt))
      ∙ entry-left d.rows 5 (marked_change marks p0.update p1.update) p1.update none k b l _ _ (other-unwritten 5 (slice_get d.rows k) o) (e.updates k (signal-below names k i))
  update-kept k i (inr m) =
      let lt = room k i in
      after (update_register k) (omega (arith, lt))
      ∙ ap (λ x. held_after (held b l) x (slice_index b.regs (update_register k)))
      (e.updates k (signal-below names k i) ∙ wanted-left d.rows 5 p1.update none (marked_change marks p0.update p1.update) k (ap (λ q. q && changed p0.update p1.update k) m))

  mask-kept : (k : ℕ) → IsSignal names k → Kept k → slice_index behind.regs (mask_register k) ≡ slice_index b.regs (mask_register k)
  mask-kept k i (inl o) =
      after (mask_register k) (room k i)
      ∙ entry-left d.rows 6 (marked_change marks p0.mask p1.mask) p1.mask none k b l _ _ (other-unwritten 6 (slice_get d.rows k) o) (e.masks k (signal-below names k i))
  mask-kept k i (inr m) =
      after (mask_register k) (room k i)
      ∙ ap (λ x. held_after (held b l) x (slice_index b.regs (mask_register k)))
      (e.masks k (signal-below names k i) ∙ wanted-left d.rows 6 p1.mask none (marked_change marks p0.mask p1.mask) k (ap (λ q. q && changed p0.mask p1.mask k) m))

  updated-hold : (base : List (List ℕ)) (k : ℕ) → IsFine d.rows base → IsSignal names k → Kept k ⊎ Marked k →
      value_of (all_updated d.rows base t.later) k ≡ masked (value_of base k) (slice_index behind.regs (update_register k)) (slice_index behind.regs (mask_register k))
  updated-hold base k fine i (inr m) =
      h.pends base k fine i ∙ ap (λ x. masked (value_of base k) x (held_or b l (slot_of p1.mask k))) (sym (updates-hold k i m.0 m.1))
      ∙ ap (masked (value_of base k) (slice_index behind.regs (update_register k))) (sym (masks-hold k i m.0 m.1))
  updated-hold base k fine i (inl m) =
      stays-behind k base i m ∙ sym (stays-before k base i m) ∙ h.before.pending.updates base k fine i
      ∙ ap (λ x. masked (value_of base k) x (slice_index b.regs (mask_register k))) (sym (update-kept k i m))
      ∙ ap (masked (value_of base k) (slice_index behind.regs (update_register k))) (sym (mask-kept k i m))

  update-fits : (k : ℕ) → IsSignal names k → Kept k ⊎ Marked k → slice_index behind.regs (update_register k) < 2 ^ (signal_form d.rows k).width
  update-fits k i (inr m) = subst (λ v. v < 2 ^ (signal_form d.rows k).width) (sym (updates-hold k i m.0 m.1)) (entry-fits h.shape b l (signal_form d.rows k).width (slot_of p1.update k) h.sound (h.pending.update k i))
  update-fits k i (inl m) = subst (λ v. v < 2 ^ (signal_form d.rows k).width) (sym (update-kept k i m)) (h.before.pending.update_fits k i)

  mask-fits : (k : ℕ) → IsSignal names k → Kept k ⊎ Marked k → slice_index behind.regs (mask_register k) < 2 ^ (signal_form d.rows k).width
  mask-fits k i (inr m) = subst (λ v. v < 2 ^ (signal_form d.rows k).width) (sym (masks-hold k i m.0 m.1)) (entry-fits h.shape b l (signal_form d.rows k).width (slot_of p1.mask k) h.sound (h.pending.mask k i))
  mask-fits k i (inl m) = subst (λ v. v < 2 ^ (signal_form d.rows k).width) (sym (mask-kept k i m)) (h.before.pending.mask_fits k i)

  pending-hold : HoldsPending d behind t.later
  pending-hold = record {
    updates = λ base k fine i. updated-hold base k fine i (which k);
    update_fits = λ k i. update-fits k i (which k);
    mask_fits = λ k i. mask-fits k i (which k);
  }

  ticks-hold : held_after (held b l) (last_write sets ticks_register) s.ticks ≡ t.ticks → slice_index behind.regs ticks_register ≡ t.ticks
  ticks-hold is = after ticks_register (omega arith) ∙ ap (held_after (held b l) (last_write sets ticks_register)) h.before.ticks ∙ is

  answer-hold : slice_index behind.regs answer_register ≡ t.answer
  answer-hold = after answer_register (omega arith) ∙ ap (λ x. held_after (held b l) x (slice_index b.regs answer_register)) e.answer ∙ h.before.answer ∙ sym h.answer

  small : t.answer < 2 ^ 32
  small = subst (λ n. n < 2 ^ 32) (sym h.answer) h.before.small

  values-kept : commits ≡ false → (k : ℕ) → IsSignal names k → slice_index behind.regs (value_register k) ≡ value_of (cleared d.rows committed) k
  values-kept c k i =
      let lt = room k i in
      after (value_register k) (omega (arith, lt))
      ∙ ap (λ x. held_after (held b l) x (slice_index b.regs (value_register k))) (e.values k (signal-below names k i) ∙ ap (λ q. if q then wanted d.rows 3 each_one at1.slots none k else None) c) ∙ h.before.values k i

  values-done : commits ≡ true → (k : ℕ) → IsSignal names k → (o c : Bool) → other_at d.rows k ≡ o → computed_at d.rows k ≡ c → (u : List (List ℕ)) → (computed_at d.rows k ≡ false → value_of u k ≡ value_of t.values k) →
      slice_index behind.regs (value_register k) ≡ value_of (cleared d.rows u) k
  values-done all k i true c o e' u like =
      let lt = room k i in
      let q = other-kept (slice_get d.rows k) o in
      let is : last_write sets (value_register k) ≡ wanted d.rows 3 each_one at1.slots none k = e.values k (signal-below names k i) ∙ ap (λ q. if q then wanted d.rows 3 each_one at1.slots none k else None) all in
      after (value_register k) (omega (arith, lt)) ∙ entry-left d.rows 3 each_one at1.slots none k b l _ _ (other-unwritten 3 (slice_get d.rows k) o) is
      ∙ h.before.values k i ∙ value-kept d committed k i q ∙ h.others.before k o ∙ sym (h.others_behind.now k o) ∙ sym (like q) ∙ sym (value-kept d u k i q)
  values-done all k i false true o c u like =
      let lt = room k i in
      let is : last_write sets (value_register k) ≡ wanted d.rows 3 each_one at1.slots none k = e.values k (signal-below names k i) ∙ ap (λ q. if q then wanted d.rows 3 each_one at1.slots none k else None) all in
      after (value_register k) (omega (arith, lt)) ∙ entry-left d.rows 3 each_one at1.slots none k b l _ _ (written-if names 3 k true false i o c refl) is
      ∙ h.before.values k i ∙ cleared-computed d.rows committed k c ∙ sym (cleared-computed d.rows u k c)
  values-done all k i false false o c u like =
      let lt = room k i in
      let is : last_write sets (value_register k) ≡ wanted d.rows 3 each_one at1.slots none k = e.values k (signal-below names k i) ∙ ap (λ q. if q then wanted d.rows 3 each_one at1.slots none k else None) all in
      after (value_register k) (omega (arith, lt)) ∙ entry-written d.rows 3 each_one at1.slots none k b l _ _ h.zero (written-if names 3 k false true i o c refl) is (λ f. absurd (cc))
      ∙ work-value k i c ∙ sym (like c) ∙ sym (value-kept d u k i c)

  pub segment-writes : commits ≡ false → held_after (held b l) (last_write sets ticks_register) s.ticks ≡ t.ticks → HoldsSignals d (written (held b l) sets b) t committed
  segment-writes c ticks = record {
    works = λ k i. works-hold k i (other_at d.rows k) (computed_at d.rows k) refl refl t.values (λ z. refl);
    values = values-kept c;
    pending = pending-hold;
    ticks = ticks-hold ticks;
    few = h.few;
    answer = answer-hold;
    small = small;
  }

  pub commit-writes : commits ≡ true → held_after (held b l) (last_write sets ticks_register) s.ticks ≡ t.ticks → (u : State) → IsLike d t u → HoldsSignals d (written (held b l) sets b) u u.values
  commit-writes c ticks u like = record {
    works = λ k i. works-hold k i (other_at d.rows k) (computed_at d.rows k) refl refl u.values (like.values k i);
    values = λ k i. values-done c k i (other_at d.rows k) (computed_at d.rows k) refl refl u.values (like.values k i);
    pending = subst (HoldsPending d behind) (sym like.later) pending-hold;
    ticks = ticks-hold ticks ∙ sym like.ticks;
    few = subst (λ n. n < 2 ^ 32) (sym like.ticks) h.few;
    answer = answer-hold ∙ sym like.answer;
    small = subst (λ n. n < 2 ^ 32) (sym like.answer) small;
  }

-- ---- how such writes are made

-- writes before those of signals: none is of a register of a signal, or of the answer
pub record Starts (n : ℕ) (sets : List Write) : Type 0 where
  pub registers : AllByRecursion IsRegister sets
  pub signals : (r : ℕ) → 3 ≤ r → r < register_count n → last_write sets r ≡ None
  pub answer : last_write sets answer_register ≡ None

pub starts-none : (n : ℕ) → Starts n []
starts-none n = record { registers = tt; signals = λ r h i. refl; answer = refl }

pub or-none : (e : Option ℕ) → or_before e None ≡ e
or-none None = refl
or-none (Some s) = refl

module _ (rows : List Row) (marks : List Bool) (at0 at1 : Env) (p0 p1 : PendingSlots) (none : ℕ) (s0 s1 s2 s3 : List Write) (start : Starts (length rows) s0)
    (a : Sets rows 4 (changed at0.slots at1.slots) at1.slots none s0 s1) (b : Sets rows 5 (marked_change marks p0.update p1.update) p1.update none s1 s2) (c : Sets rows 6 (marked_change marks p0.mask p1.mask) p1.mask none s2 s3) where
  first-work : (k : ℕ) → k < length rows → last_write s1 (4 * k + 4) ≡ wanted rows 4 (changed at0.slots at1.slots) at1.slots none k
  first-work k lt = a.each k ∙ ap (or_before (wanted rows 4 (changed at0.slots at1.slots) at1.slots none k)) (start.signals (4 * k + 4) (omega arith) (omega (arith, lt))) ∙ or-none _

  first-update : (k : ℕ) → k < length rows → last_write s2 (4 * k + 5) ≡ wanted rows 5 (marked_change marks p0.update p1.update) p1.update none k
  first-update k lt =
      b.each k ∙ ap (or_before (wanted rows 5 (marked_change marks p0.update p1.update) p1.update none k)) (a.others (4 * k + 5) (λ j z. omega (arith, z)) ∙ start.signals (4 * k + 5) (omega arith) (omega (arith, lt))) ∙ or-none _

  first-mask : (k : ℕ) → k < length rows → last_write s3 (4 * k + 6) ≡ wanted rows 6 (marked_change marks p0.mask p1.mask) p1.mask none k
  first-mask k lt =
      c.each k ∙ ap (or_before (wanted rows 6 (marked_change marks p0.mask p1.mask) p1.mask none k))
      (b.others (4 * k + 6) (λ j z. omega (arith, z)) ∙ a.others (4 * k + 6) (λ j z. omega (arith, z)) ∙ start.signals (4 * k + 6) (omega arith) (omega (arith, lt))) ∙ or-none _

  no-value : (k : ℕ) → k < length rows → last_write s3 (4 * k + 3) ≡ None
  no-value k lt =
      c.others (4 * k + 3) (λ j z. omega (arith, z)) ∙ b.others (4 * k + 3) (λ j z. omega (arith, z)) ∙ a.others (4 * k + 3) (λ j z. omega (arith, z)) ∙ start.signals (4 * k + 3) (omega arith) (omega (arith, lt))

  no-answer : last_write s3 1 ≡ None
  no-answer = c.others 1 (λ j z. omega (arith, z)) ∙ b.others 1 (λ j z. omega (arith, z)) ∙ a.others 1 (λ j z. omega (arith, z)) ∙ start.answer

  pub ends-segment : Ends rows false marks at0 at1 p0 p1 none s3
  ends-segment = record {
    registers = c.registers (b.registers (a.registers start.registers));
    works = λ k lt. c.others (4 * k + 4) (λ j z. omega (arith, z)) ∙ b.others (4 * k + 4) (λ j z. omega (arith, z)) ∙ first-work k lt;
    updates = λ k lt. c.others (4 * k + 5) (λ j z. omega (arith, z)) ∙ first-update k lt;
    masks = first-mask;
    values = no-value;
    answer = no-answer;
  }

  pub ends-wave : (s4 : List Write) → Sets rows 3 each_one at1.slots none s3 s4 → Ends rows true marks at0 at1 p0 p1 none s4
  ends-wave s4 v = record {
    registers = v.registers (c.registers (b.registers (a.registers start.registers)));
    works = λ k lt. v.others (4 * k + 4) (λ j z. omega (arith, z)) ∙ c.others (4 * k + 4) (λ j z. omega (arith, z)) ∙ b.others (4 * k + 4) (λ j z. omega (arith, z)) ∙ first-work k lt;
    updates = λ k lt. v.others (4 * k + 5) (λ j z. omega (arith, z)) ∙ c.others (4 * k + 5) (λ j z. omega (arith, z)) ∙ first-update k lt;
    masks = λ k lt. v.others (4 * k + 6) (λ j z. omega (arith, z)) ∙ first-mask k lt;
    values = λ k lt. v.each k ∙ ap (or_before (wanted rows 3 each_one at1.slots none k)) (no-value k lt) ∙ or-none _;
    answer = v.others 1 (λ j z. omega (arith, z)) ∙ no-answer;
  }

-- writes of the next state, of the ticks, and of registers behind those of signals may come too, before or behind
pub ends-beside : (rows : List Row) (commits : Bool) (marks : List Bool) (at0 at1 : Env) (p0 p1 : PendingSlots) (none : ℕ) (sets more : List Write) → Ends rows commits marks at0 at1 p0 p1 none sets → AllByRecursion IsRegister more →
    ((r : ℕ) → r ≢ 0 → r ≢ 2 → r < register_count (length rows) → last_write more r ≡ last_write sets r) → Ends rows commits marks at0 at1 p0 p1 none more
ends-beside rows commits marks at0 at1 p0 p1 none sets more h registers same = record {
  registers = registers;
  works = λ k lt. same (4 * k + 4) (λ z. omega (arith, z)) (λ z. omega (arith, z)) (omega (arith, lt)) ∙ h.works k lt;
  updates = λ k lt. same (4 * k + 5) (λ z. omega (arith, z)) (λ z. omega (arith, z)) (omega (arith, lt)) ∙ h.updates k lt;
  masks = λ k lt. same (4 * k + 6) (λ z. omega (arith, z)) (λ z. omega (arith, z)) (omega (arith, lt)) ∙ h.masks k lt;
  values = λ k lt. same (4 * k + 3) (λ z. omega (arith, z)) (λ z. omega (arith, z)) (omega (arith, lt)) ∙ h.values k lt;
  answer = same 1 (λ z. omega (arith, z)) (λ z. omega (arith, z)) (omega arith) ∙ h.answer;
}
