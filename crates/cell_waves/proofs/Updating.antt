-- The update, one signal after the other, and its writes.
use Rattle.std.proofs.Common.{◌≡◌, ℕ, suc, ◌+◌, ◌*◌, ◌<◌, ◌≤◌, ◌%◌, ◌^◌, Bool, true, false, List, [], ◌∷◌, ◌++◌, length, Option, Some, None, refl, sym, ap, ◌∙◌, arith, subst, length-append, mod-eq_of_lt, inl, inr}
use Rattle.std.specs.Prelude.{◌⊎◌, ◌||◌, if◌then◌else◌, nat_lt, slice_get, slice_index, slice_index_or, All}
use Rattle.std.specs.List.{AllByRecursion}
use Rattle.std.proofs.Math.Pow.{pow_pos}
use Rattle.std.proofs.lemmas.List.Elements.{All-head}
use Rattle.std.proofs.lemmas.Option.{slice_get_within}
use Rattle.ten_form.specs.vl_design.specs.Syntax.{Row, Flat}
use Rattle.ten_form.specs.vl_design.specs.Rows.{has_width}
use Rattle.ten_form.specs.vl_design.specs.Width.{names_of, signal_form, row_form}
use Rattle.ten_form.specs.vl_design.specs.Value.{value_of, words_of}
use Rattle.ten_form.specs.vl_design.specs.Sound.{HasValue, IsSignal}
use Rattle.ten_form.specs.vl_design.specs.State.{State, all_updated}
use Rattle.ten_form.specs.vl_design.specs.Laws.{IsFine}
use Rattle.ten_form.specs.vl_runs.specs.Computed.{is_computed_row, computed_at}
use Rattle.cell_emit.specs.vl_sites.specs.Others.{other_at}
use Rattle.cell_emit.specs.cell_form.specs.declared.cell.Write.{Write}
use Rattle.cell_emit.specs.cell_form.specs.Data.{ListData, BankData}
use Rattle.cell_emit.specs.cell_form.specs.Cycle.{masked, written}
use Rattle.cell_emit.specs.cell_form.specs.Sound.{Shape, IsWrite, shape_of}
use Rattle.cell_emit.specs.Slots.{held, IsIn, AreSound, Grows, Longer}
use Rattle.cell_emit.proofs.Frames.{held-stays, in-stays, grows-then, longer-grows, longer-same, longer-then, longer-weaken, sound-before}
use Rattle.cell_emit.specs.Envs.{IsSlot, held_or}
use Rattle.cell_emit.proofs.Staying.{is-slot-stays}
use Rattle.cell_emit.specs.Pendings.{slot_of}
use Rattle.cell_emit.proofs.Masking.{masked-none}
use Rattle.cell_emit.proofs.Reading.{each-more}
use Rattle.cell_emit.proofs.Samples.{named}
use Rattle.ten_form.specs.Registers.{answer_register, ticks_register, work_register, update_register, mask_register, register_count}
use Rattle.ten_form.specs.Nets.{cleared, HoldsNoOthers}
use Rattle.ten_form.specs.Banks.{IsFor, HoldsPending, HoldsSignals}
use Rattle.cell_waves.specs.Lasts.{last_write, held_after}
use Rattle.cell_waves.specs.Copies.{HasSignals, count_to, has_copy, is_written, slot_or, wanted, or_before, IsHeld, Sets}
use Rattle.cell_waves.specs.Applies.{IsUpdated, ArePendingOf, SameWrites, NoWrites, Applies, HasOwn, HoldsUpdate, HasUpdateIf}
use Rattle.cell_waves.proofs.Clearing.{cleared-computed}
use Rattle.cell_waves.proofs.Lasting.{register-behind}
use Rattle.cell_waves.proofs.Setting.{wanted-not, wanted-left, sets-beyond}
use Rattle.cell_waves.proofs.Written.{both-true, is-width, value-kind, not-computed, written-if, other-unwritten}
use Rattle.cell_waves.proofs.Ending.{signal-below, value-stays, others-stay, value-kept, entry-written, entry-left, or-none}
use Rattle.cell_emit.specs.vl_base.proofs.Lists.{first_below as first-small}

-- ---- one signal

update-stays : (w k : ℕ) (mid new : ListData) (e : Option ℕ) → Grows mid new → HoldsUpdate w k mid e → HoldsUpdate w k new e
update-stays w k mid new None g h = h
update-stays w k mid new (Some r) g h = (is-slot-stays mid new r w g h.0, λ z b sound. held-stays b mid new r g h.0.there ∙ h.1 z b (sound-before z mid new g sound))

-- ---- signals one after the other

pub record Updated (rows : List Row) (delayed : ℕ → Bool) (n : ℕ) (old new : ListData) (es : List (Option ℕ)) : Type 0 where
  pub longer : Longer (HasSignals (length rows)) (6 * count_to delayed n) old new
  pub long : length es ≡ n
  pub each : (k : ℕ) (r : Row) → k < n → slice_get rows k ≡ Some r → HasUpdateIf (delayed k) r k new (slice_index_or es k None)

one-more : (q : Bool) (c : ℕ) → 6 * c + (if q then 6 else 0) ≡ 6 * (c + (if q then 1 else 0))
one-more true c = omega arith
one-more false c = omega arith

pub updated-more : (rows : List Row) (delayed : ℕ → Bool) (n m : ℕ) (old mid new : ListData) (es : List (Option ℕ)) (r : Row) (e : Option ℕ) → m ≡ n + 1 → slice_get rows n ≡ Some r →
    Updated rows delayed n old mid es → Longer (HasOwn n) (if delayed n then 6 else 0) mid new → HasUpdateIf (delayed n) r n new e → Updated rows delayed m old new (es ++ e ∷ [])
updated-more rows delayed n m old mid new es r e next at h longer one =
    let P : ℕ → Row → Option ℕ → Type 0 = λ k q x. HasUpdateIf (delayed k) q k new x in
    let H = HasSignals (length rows) in
    let lt = slice_get_within rows n r at in
    let k : ℕ = if delayed n then 6 else 0 in
    let grows = longer-grows (HasOwn n) k mid new longer in
    let suc-is : m ≡ suc n = omega (arith, next) in
    let more = one-more (delayed n) (count_to delayed n) in
    subst (λ i. Updated rows delayed i old new (es ++ e ∷ [])) (sym suc-is) (record {
      longer = subst (λ c. Longer H c old new) more (longer-then H (6 * count_to delayed n) k old mid new h.longer (longer-weaken (HasOwn n) H k k mid new (λ z room. omega (arith, room, lt)) (omega arith) longer));
      long = length-append es (e ∷ []) ∙ ap (λ i. i + 1) h.long ∙ (let z : n + 1 ≡ suc n = omega arith in z);
      each = λ j q below is. each-more P None rows n es e r h.long at
          (λ i q lower at-i. (let was = h.each i q lower at-i in record { there = λ t v c w. update-stays q.width i mid new (slice_index_or es i None) grows (was.there t v c w); none = was.none })) one j q (omega (arith, below)) is;
    })

-- ---- which signals are written

update-held : (w k : ℕ) (l : ListData) (e : Option ℕ) → HoldsUpdate w k l e → IsHeld l e
update-held w k l None h = absurd h
update-held w k l (Some r) h = h.0.there

-- the slots of what is written are there
held-if : (rows : List Row) (delayed : ℕ → Bool) (n copy : ℕ) (old new : ListData) (es : List (Option ℕ)) (k : ℕ) → length rows ≤ n → nat_lt 4 copy ≡ false →
    Updated rows delayed n old new es → is_written copy (slice_get rows k) ≡ true → IsHeld new (slot_of es k)
held-if rows delayed n copy old new es k long low h e = of (slice_get rows k) refl e
  where
    of : (o : Option Row) → slice_get rows k ≡ o → is_written copy o ≡ true → IsHeld new (slot_of es k)
    of None is f = absurd (cc)
    of (Some r) is f =
        let t = both-true (has_copy copy r.kind) (has_width r.width) f in
        let lt = slice_get_within rows k r is in
        let u = h.each k r (omega (arith, lt, long)) is in
        there (delayed k) refl t u
      where
        there : (q : Bool) → delayed k ≡ q → (has_copy copy r.kind ≡ true) × (has_width r.width ≡ true) → HasUpdateIf (delayed k) r k new (slot_of es k) → IsHeld new (slot_of es k)
        there true q t u = update-held r.width k new (slot_of es k) (u.there q (value-kind copy r.kind t.0) (not-computed copy r.kind low t.0) (is-width r.width t.1))
        there false q t u = subst (IsHeld new) (sym (u.none q)) tt

update-slot : (w k : ℕ) (l : ListData) (here : ℕ) (e : Option ℕ) → HoldsUpdate w k l e → (slot_or here e ≡ here) ⊎ IsSlot l (slot_or here e) w
update-slot w k l here None h = absurd h
update-slot w k l here (Some r) h = inr h.0

-- they are as wide as the signals, but for the one that holds 0
slot-if : (rows : List Row) (delayed : ℕ → Bool) (n copy here : ℕ) (old new : ListData) (es : List (Option ℕ)) (k : ℕ) → length rows ≤ n → nat_lt 4 copy ≡ false →
    Updated rows delayed n old new es → is_written copy (slice_get rows k) ≡ true → (slot_or here (slot_of es k) ≡ here) ⊎ IsSlot new (slot_or here (slot_of es k)) (signal_form rows k).width
slot-if rows delayed n copy here old new es k long low h e = of (slice_get rows k) refl e
  where
    of : (o : Option Row) → slice_get rows k ≡ o → is_written copy o ≡ true → (slot_or here (slot_of es k) ≡ here) ⊎ IsSlot new (slot_or here (slot_of es k)) (signal_form rows k).width
    of None is f = absurd (cc)
    of (Some r) is f =
        let t = both-true (has_copy copy r.kind) (has_width r.width) f in
        let lt = slice_get_within rows k r is in
        let u = h.each k r (omega (arith, lt, long)) is in
        let Is : ℕ → Type 0 = λ w. (slot_or here (slot_of es k) ≡ here) ⊎ IsSlot new (slot_or here (slot_of es k)) w in
        subst Is (sym (ap (λ o. (row_form o).width) is)) (there (delayed k) refl t u)
      where
        there : (q : Bool) → delayed k ≡ q → (has_copy copy r.kind ≡ true) × (has_width r.width ≡ true) → HasUpdateIf (delayed k) r k new (slot_of es k) →
            (slot_or here (slot_of es k) ≡ here) ⊎ IsSlot new (slot_or here (slot_of es k)) r.width
        there true q t u = update-slot r.width k new here (slot_of es k) (u.there q (value-kind copy r.kind t.0) (not-computed copy r.kind low t.0) (is-width r.width t.1))
        there false q t u = inl (ap (slot_or here) (u.none q))

-- ---- the whole update

module _ (d : Flat) (delayed : ℕ → Bool) (here : ℕ) (old new : ListData) (n : ℕ) (es : List (Option ℕ)) (s0 s1 s2 s3 : List Write) (here-there : IsIn old here) (is-zero : (z : Shape) (b : BankData) → AreSound z old → held b old here ≡ 0)
    (many : length d.rows ≡ n) (h : Updated d.rows delayed n old new es) (a : Sets d.rows 3 delayed es here s0 s1) (c : Sets d.rows 4 delayed es here s1 s2) (e : Sets d.rows 6 delayed [] here s2 s3) where
  grows : Grows old new
  grows = longer-grows (HasSignals (length d.rows)) (6 * count_to delayed n) old new h.longer

  here-in : IsIn new here
  here-in = in-stays old new here grows here-there

  apply-sound : (z : Shape) → IsFor d 0 z → AllByRecursion (IsWrite z new.first (length new.cells)) s0 → AllByRecursion (IsWrite z new.first (length new.cells)) s3
  apply-sound z f k =
      let regs = f.regs in
      let room : 4 * length d.rows + 3 ≤ z.regs = omega (arith, regs) in
      let long : length d.rows ≤ n = omega (arith, many) in
      e.sound z new room here-in (λ j w. tt) (c.sound z new room here-in (λ j w. held-if d.rows delayed n 4 old new es j long refl h w) (a.sound z new room here-in (λ j w. held-if d.rows delayed n 3 old new es j long refl h w) k))

  module _ (b : BankData) (s t : State) (committed : List (List ℕ)) (l : ListData) (sets : List Write) (sound : AreSound (shape_of b) old) (bank : IsFor d 0 (shape_of b)) (none : NoWrites d s0)
      (holds : HoldsSignals d b s committed) (plain : HoldsNoOthers d s committed) (fine : IsFine d.rows s.values) (more : Grows new l) (same : SameWrites d s3 sets) (like : IsUpdated d s t)
      (late : ArePendingOf d delayed s.later) (ready : committed ≡ s.values) where
    abbrev behind : BankData
    behind = written (held b l) sets b

    after : (r : ℕ) → r < register_count (length d.rows) → slice_index behind.regs r ≡ held_after (held b l) (last_write sets r) (slice_index b.regs r)
    after r lt = let size = bank.regs in register-behind (held b l) sets b r (omega (arith, size, lt))

    in-room : (k copy : ℕ) → IsSignal (names_of d) k → copy ≤ 6 → 4 * k + copy < register_count (length d.rows)
    in-room k copy i small = let lt = signal-below (names_of d) k i in omega (arith, lt, small)

    zero : held b l here ≡ 0
    zero = held-stays b old l here (grows-then old new l grows more) here-there ∙ is-zero (shape_of b) b sound

    last-value : (k : ℕ) → IsSignal (names_of d) k → last_write sets (4 * k + 3) ≡ wanted d.rows 3 delayed es here k
    last-value k i =
        same (4 * k + 3) (omega arith) (in-room k 3 i (omega arith)) ∙ e.others (4 * k + 3) (λ j x. omega (arith, x)) ∙ c.others (4 * k + 3) (λ j x. omega (arith, x)) ∙ a.each k
        ∙ ap (or_before (wanted d.rows 3 delayed es here k)) (none (4 * k + 3) (omega arith) (in-room k 3 i (omega arith))) ∙ or-none _

    last-work : (k : ℕ) → IsSignal (names_of d) k → last_write sets (4 * k + 4) ≡ wanted d.rows 4 delayed es here k
    last-work k i =
        same (4 * k + 4) (omega arith) (in-room k 4 i (omega arith)) ∙ e.others (4 * k + 4) (λ j x. omega (arith, x)) ∙ c.each k
        ∙ ap (or_before (wanted d.rows 4 delayed es here k)) (a.others (4 * k + 4) (λ j x. omega (arith, x)) ∙ none (4 * k + 4) (omega arith) (in-room k 4 i (omega arith))) ∙ or-none _

    last-update : (k : ℕ) → IsSignal (names_of d) k → last_write sets (4 * k + 5) ≡ None
    last-update k i =
        same (4 * k + 5) (omega arith) (in-room k 5 i (omega arith)) ∙ e.others (4 * k + 5) (λ j x. omega (arith, x)) ∙ c.others (4 * k + 5) (λ j x. omega (arith, x)) ∙ a.others (4 * k + 5) (λ j x. omega (arith, x)) ∙ none (4 * k + 5) (omega arith) (in-room k 5 i (omega arith))

    last-mask : (k : ℕ) → IsSignal (names_of d) k → last_write sets (4 * k + 6) ≡ wanted d.rows 6 delayed [] here k
    last-mask k i =
        same (4 * k + 6) (omega arith) (in-room k 6 i (omega arith)) ∙ e.each k
        ∙ ap (or_before (wanted d.rows 6 delayed [] here k)) (c.others (4 * k + 6) (λ j x. omega (arith, x)) ∙ a.others (4 * k + 6) (λ j x. omega (arith, x)) ∙ none (4 * k + 6) (omega arith) (in-room k 6 i (omega arith))) ∙ or-none _

    last-none : (r : ℕ) → 1 ≤ r → r < 3 → last_write sets r ≡ None
    last-none r low high =
        same r low (omega (arith, high)) ∙ e.others r (λ j x. omega (arith, x, high)) ∙ c.others r (λ j x. omega (arith, x, high)) ∙ a.others r (λ j x. omega (arith, x, high)) ∙ none r low (omega (arith, high))

    sound-new : AreSound (shape_of b) new
    sound-new = let regs = bank.regs in h.longer.sound (shape_of b) (omega (arith, regs)) sound

    -- what the slot of a variable holds
    new-value : (k : ℕ) → IsSignal (names_of d) k → delayed k ≡ true → computed_at d.rows k ≡ false → held_or b l (slot_of es k) ≡ value_of t.values k
    new-value k i q c =
        let m = named HasValue (slice_get d.rows k) i in
        let lt = signal-below (names_of d) k i in
        let w = (signal_form d.rows k).width in
        let wide : w ≡ m.row.width = ap (λ o. (row_form o).width) m.is in
        let u = (h.each k m.row (omega (arith, lt, many)) m.is).there q m.kind (sym (ap is_computed_row m.is) ∙ c) m.width in
        let v = value_of s.values k in
        let work : slice_index b.regs (work_register k) ≡ v = holds.works k i ∙ value-kept d s.values k i c in
        let small : slice_index b.regs (work_register k) < 2 ^ w = subst (λ x. x < 2 ^ w) (sym work) (first-small w (words_of s.values k) (fine.range k)) in
        of w (slot_of es k) (subst (λ x. HoldsUpdate x k new (slot_of es k)) (sym wide) u)
        ∙ ap (λ x. masked x (slice_index b.regs (update_register k) % 2 ^ w) (slice_index b.regs (mask_register k) % 2 ^ w)) (mod-eq_of_lt small ∙ work)
        ∙ ap (λ x. masked v x (slice_index b.regs (mask_register k) % 2 ^ w)) (mod-eq_of_lt (holds.pending.update_fits k i))
        ∙ ap (masked v (slice_index b.regs (update_register k))) (mod-eq_of_lt (holds.pending.mask_fits k i))
        ∙ sym (holds.pending.updates s.values k fine i) ∙ sym (like.values k i c)
      where
        of : (w : ℕ) (x : Option ℕ) → HoldsUpdate w k new x → held_or b l x
            ≡ masked (slice_index b.regs (work_register k) % 2 ^ w) (slice_index b.regs (update_register k) % 2 ^ w) (slice_index b.regs (mask_register k) % 2 ^ w)
        of w None u = absurd u
        of w (Some r) u = held-stays b new l r more u.0.there ∙ u.1 (shape_of b) b sound-new

    -- no update is pending of a loop variable or a clock, or of a signal that isn't marked
    abbrev Kept : ℕ → Type 0
    Kept k = (other_at d.rows k ≡ true) ⊎ (delayed k ≡ false)

    abbrev Marked : ℕ → Type 0
    Marked k = (other_at d.rows k ≡ false) × (delayed k ≡ true)

    which : (k : ℕ) → Kept k ⊎ Marked k
    which k = of (other_at d.rows k) refl (delayed k) refl
      where
        of : (o : Bool) → other_at d.rows k ≡ o → (m : Bool) → delayed k ≡ m → Kept k ⊎ Marked k
        of true o m e = inl (inl o)
        of false o false m = inl (inr m)
        of false o true m = inr (o, m)

    -- such a one keeps its value
    stays : (k : ℕ) (base : List (List ℕ)) → IsSignal (names_of d) k → Kept k → value_of (all_updated d.rows base s.later) k ≡ value_of base k
    stays k base i (inl o) = others-stay d.rows k s.later base o plain.later
    stays k base i (inr q) = value-stays d.rows k s.later base (late k i q)

    old-value : (k : ℕ) → IsSignal (names_of d) k → Kept k → computed_at d.rows k ≡ false → value_of s.values k ≡ value_of t.values k
    old-value k i q c = sym (stays k s.values i q) ∙ sym (like.values k i c)

    -- and has no writes
    unwanted : (copy : ℕ) (xs : List (Option ℕ)) (k : ℕ) → Kept k → wanted d.rows copy delayed xs here k ≡ None
    unwanted copy xs k (inl o) = wanted-not d.rows copy xs here delayed k (other-unwritten copy (slice_get d.rows k) o)
    unwanted copy xs k (inr m) = wanted-left d.rows copy xs here delayed k m

    copy-holds : (copy : ℕ) (k : ℕ) → nat_lt 4 copy ≡ false → 4 * k + copy < register_count (length d.rows) → IsSignal (names_of d) k → last_write sets (4 * k + copy) ≡ wanted d.rows copy delayed es here k →
        slice_index b.regs (4 * k + copy) ≡ value_of (cleared d.rows s.values) k → (q : Bool) → computed_at d.rows k ≡ q → slice_index behind.regs (4 * k + copy) ≡ value_of (cleared d.rows t.values) k
    copy-holds copy k low lt i is was true q =
        after (4 * k + copy) lt ∙ entry-left d.rows copy delayed es here k b l _ _ (computed-unwritten (other_at d.rows k) refl) is ∙ was ∙ cleared-computed d.rows s.values k q ∙ sym (cleared-computed d.rows t.values k q)
      where
        computed-unwritten : (o : Bool) → other_at d.rows k ≡ o → is_written copy (slice_get d.rows k) ≡ false
        computed-unwritten true e = other-unwritten copy (slice_get d.rows k) e
        computed-unwritten false e = written-if (names_of d) copy k true false i e q (ap (λ v. v || false) low)
    copy-holds copy k low lt i is was false q = of (which k) ∙ sym (value-kept d t.values k i q)
      where
        of : Kept k ⊎ Marked k → slice_index behind.regs (4 * k + copy) ≡ value_of t.values k
        of (inr m) =
            after (4 * k + copy) lt ∙ entry-written d.rows copy delayed es here k b l _ _ zero (written-if (names_of d) copy k false true i m.0 q (ap (λ v. v || true) low)) is (λ f. (let g = m.1 in absurd (cc)))
            ∙ new-value k i m.1 q
        of (inl m) =
            after (4 * k + copy) lt ∙ ap (λ x. held_after (held b l) x (slice_index b.regs (4 * k + copy))) (is ∙ unwanted copy es k m) ∙ was ∙ value-kept d s.values k i q ∙ old-value k i m q

    mask-null : (k : ℕ) → IsSignal (names_of d) k → other_at d.rows k ≡ false → delayed k ≡ true → slice_index behind.regs (mask_register k) ≡ 0
    mask-null k i o m =
        after (mask_register k) (in-room k 6 i (omega arith))
        ∙ entry-written d.rows 6 delayed [] here k b l _ _ zero (written-if (names_of d) 6 k (computed_at d.rows k) true i o refl refl) (last-mask k i) (λ f. absurd (cc))

    mask-kept : (k : ℕ) → IsSignal (names_of d) k → Kept k → slice_index behind.regs (mask_register k) ≡ slice_index b.regs (mask_register k)
    mask-kept k i m =
        after (mask_register k) (in-room k 6 i (omega arith))
        ∙ ap (λ x. held_after (held b l) x (slice_index b.regs (mask_register k))) (last-mask k i ∙ unwanted 6 [] k m)

    update-kept : (k : ℕ) → IsSignal (names_of d) k → slice_index behind.regs (update_register k) ≡ slice_index b.regs (update_register k)
    update-kept k i = after (update_register k) (in-room k 5 i (omega arith)) ∙ ap (λ x. held_after (held b l) x (slice_index b.regs (update_register k))) (last-update k i)

    nothing-replaced : (base : List (List ℕ)) (k : ℕ) → IsFine d.rows base → IsSignal (names_of d) k →
        value_of base k ≡ masked (value_of base k) (slice_index behind.regs (update_register k)) (slice_index behind.regs (mask_register k))
    nothing-replaced base k fine i = of (which k)
      where
        of : Kept k ⊎ Marked k → value_of base k ≡ masked (value_of base k) (slice_index behind.regs (update_register k)) (slice_index behind.regs (mask_register k))
        of (inr m) =
            sym (ap (masked (value_of base k) (slice_index behind.regs (update_register k))) (mask-null k i m.0 m.1) ∙ masked-none (value_of base k) (slice_index behind.regs (update_register k)))
        of (inl m) =
            sym (stays k base i m) ∙ holds.pending.updates base k fine i
            ∙ ap (λ v. masked (value_of base k) v (slice_index b.regs (mask_register k))) (sym (update-kept k i))
            ∙ ap (masked (value_of base k) (slice_index behind.regs (update_register k))) (sym (mask-kept k i m))

    mask-narrow : (k : ℕ) → IsSignal (names_of d) k → slice_index behind.regs (mask_register k) < 2 ^ (signal_form d.rows k).width
    mask-narrow k i = of (which k)
      where
        of : Kept k ⊎ Marked k → slice_index behind.regs (mask_register k) < 2 ^ (signal_form d.rows k).width
        of (inr m) = subst (λ v. v < 2 ^ (signal_form d.rows k).width) (sym (mask-null k i m.0 m.1)) (pow_pos (signal_form d.rows k).width)
        of (inl m) = subst (λ v. v < 2 ^ (signal_form d.rows k).width) (sym (mask-kept k i m)) (holds.pending.mask_fits k i)

    nothing-pends : HoldsPending d behind []
    nothing-pends = record {
      updates = nothing-replaced;
      update_fits = λ k i. subst (λ v. v < 2 ^ (signal_form d.rows k).width) (sym (update-kept k i)) (holds.pending.update_fits k i);
      mask_fits = mask-narrow;
    }

    apply-holds : HoldsSignals d (written (held b l) sets b) t t.values
    apply-holds = record {
      works = λ k i. copy-holds 4 k refl (in-room k 4 i (omega arith)) i (last-work k i) (holds.works k i) (computed_at d.rows k) refl;
      values = λ k i. copy-holds 3 k refl (in-room k 3 i (omega arith)) i (last-value k i) (holds.values k i ∙ ap (λ v. value_of (cleared d.rows v) k) ready) (computed_at d.rows k) refl;
      pending = subst (HoldsPending d behind) (sym like.later) nothing-pends;
      ticks = after ticks_register (omega arith) ∙ ap (λ x. held_after (held b l) x (slice_index b.regs ticks_register)) (last-none 2 (omega arith) (omega arith)) ∙ holds.ticks ∙ sym like.ticks;
      few = subst (λ v. v < 2 ^ 32) (sym like.ticks) holds.few;
      answer = after answer_register (omega arith) ∙ ap (λ x. held_after (held b l) x (slice_index b.regs answer_register)) (last-none 1 (omega arith) (omega arith)) ∙ holds.answer ∙ sym like.answer;
      small = subst (λ v. v < 2 ^ 32) (sym like.answer) holds.small;
    }

  pub applies : Applies d delayed here old new s0 s3
  applies = record {
    longer = subst (λ m. Longer (HasSignals (length d.rows)) (6 * count_to delayed m) old new) (sym many) h.longer;
    sound = apply-sound;
    registers = λ k. e.registers (c.registers (a.registers k));
    within = λ most l f k.
        let long : length d.rows ≤ n = omega (arith, many) in
        e.within most l (λ j w t. f 6 j here (omega arith) (omega arith) w t (inl refl))
        (c.within most l (λ j w t. f 4 j (slot_or here (slot_of es j)) (omega arith) (omega arith) w t (slot-if d.rows delayed n 4 here old new es j long refl h w))
        (a.within most l (λ j w t. f 3 j (slot_or here (slot_of es j)) (omega arith) (omega arith) w t (slot-if d.rows delayed n 3 here old new es j long refl h w)) k));
    others = λ r far.
        sets-beyond d.rows 6 delayed [] here s2 s3 r (omega arith) (omega arith) far e ∙ sets-beyond d.rows 4 delayed es here s1 s2 r (omega arith) (omega arith) far c
        ∙ sets-beyond d.rows 3 delayed es here s0 s1 r (omega arith) (omega arith) far a;
    holds = apply-holds;
  }
