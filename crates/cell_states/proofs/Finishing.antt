-- The writes at the end of a state.
use Rattle.std.proofs.Common.{◌≡◌, ◌≢◌, ℕ, zero, suc, ◌+◌, ◌-◌, ◌*◌, ◌≤◌, Bool, true, false, List, [], ◌∷◌, ◌++◌, length, Option, Some, None, inl, inr, refl, sym, ap, ◌∙◌, arith, subst}
use Rattle.std.specs.Prelude.{◌⊎◌, nat_lt, slice_get, ◌&&◌, if◌then◌else◌, nat_le}
use Rattle.std.specs.List.{AllByRecursion}
use Rattle.std.proofs.lemmas.Bool.{cases_lt, leb-true, true≢false}
use Rattle.std.proofs.lemmas.Option.{slice_get_past}
use Rattle.vl_design.specs.declared.design.SigKind.{SigKind}
use Rattle.vl_design.specs.declared.design.SigKind.TheVariants.{Net, Var, Comb, Loop, Mem, Clock}
use Rattle.vl_design.specs.Rows.{has_width}
use Rattle.vl_design.specs.Sound.{HasValue, IsOf, IsWidth, IsSignal}
use Rattle.vl_design.specs.Syntax.{Row, Flat}
use Rattle.vl_design.specs.Width.{Names, names_of, signal_form}
use Rattle.cell_emit.specs.cell_form.specs.declared.cell.Write.{Write}
use Rattle.cell_emit.specs.cell_form.specs.declared.cell.Write.TheVariants as w
use Rattle.cell_emit.specs.cell_form.specs.Data.{ListData}
use Rattle.cell_emit.specs.cell_form.specs.Sound.{Shape, IsWrite}
use Rattle.cell_emit.specs.Slots.{width_at}
use Rattle.cell_trim.specs.Widths.{IsWithin}
use Rattle.cell_emit.specs.Envs.{Env, entry, IsSlot, IsEntry, Fits}
use Rattle.cell_emit.specs.Pendings.{PendingSlots, ArePending, slot_of}
use Rattle.ten_form.specs.Registers.{state_register, ticks_register, register_count}
use Rattle.ten_form.specs.Banks.{IsFor}
use Rattle.cell_waves.specs.Copies.{is_written, has_copy, changed, marked_one, marked_change, each_one, slot_or, wanted, or_before, IsHeld, HasSignals, Sets}
use Rattle.cell_waves.specs.Ends.{Ends}
use Rattle.cell_waves.specs.Lasts.{last_write, IsRegister}
use Rattle.cell_states.specs.Ended.{AreChanges, Commits, with_ticks, IsEnd}
use Rattle.ten_form.specs.Delays.{is_delayed}
use Rattle.cell_states.specs.Marks.{AreDelayed}
use Rattle.cell_states.specs.Segments.{IsTicks}
use Rattle.cell_states.specs.Widths.{register_width}
use Rattle.cell_states.proofs.Narrowing.{entry-width, one-bit, signal-width}
use Rattle.cell_waves.proofs.Ending.{signal-below, entry-slot, starts-none, ends-segment, ends-wave, ends-beside}
use Rattle.cell_waves.proofs.Lasting.{last-here, last-other}
use Rattle.vl_design.specs.vl_base.proofs.Booleans.{and_parts as and-parts}
use Rattle.vl_design.specs.vl_base.proofs.Lists.{all_push as all-push}
use Rattle.cell_waves.proofs.Ending.{entry-there as held-entry}
use Rattle.cell_waves.proofs.Written.{value-kind as value-of}

width-of : (n : ℕ) → has_width n ≡ true → IsWidth n
width-of n h = let p = and-parts (nat_le 1 n) (nat_le n 128) h in record { wide = leb-true 1 n p.0; narrow = leb-true n 128 p.1 }

-- a signal that is written is one
pub signal-of : (names : Names) (copy k : ℕ) → is_written copy (slice_get names.rows k) ≡ true → IsSignal names k
signal-of names copy k = of (slice_get names.rows k)
  where
    of : (o : Option Row) → is_written copy o ≡ true → IsOf HasValue o
    of None h = absurd (true≢false (sym h))
    of (Some r) h = let p = and-parts (has_copy copy r.kind) (has_width r.width) h in (value-of copy r.kind p.0, width-of r.width p.1)

-- ---- registers behind those of signals

times-four : (s : ℕ) → ((k : ℕ) × (s ≡ 4 * k)) ⊎ ((k : ℕ) → s ≢ 4 * k)
times-four zero = inl (0, omega arith)
times-four (suc zero) = inr (λ k e. omega (arith, e))
times-four (suc (suc zero)) = inr (λ k e. omega (arith, e))
times-four (suc (suc (suc zero))) = inr (λ k e. omega (arith, e))
times-four (suc (suc (suc (suc s)))) = of (times-four s)
  where
    of : ((k : ℕ) × (s ≡ 4 * k)) ⊎ ((k : ℕ) → s ≢ 4 * k) → ((k : ℕ) × (suc (suc (suc (suc s))) ≡ 4 * k)) ⊎ ((k : ℕ) → suc (suc (suc (suc s))) ≢ 4 * k)
    of (inl h) = let is = h.1 in inl (h.0 + 1, omega (arith, is))
    of (inr f) = inr (λ k e. (let same : s ≡ 4 * (k - 1) = omega (arith, e) in f (k - 1) same))

-- a register is that of a signal's copy, or of none
copy-at : (copy r : ℕ) → ((k : ℕ) × (r ≡ 4 * k + copy)) ⊎ ((k : ℕ) → r ≢ 4 * k + copy)
copy-at copy r = elim (cases_lt r copy) [ inl lt ↦ inr (λ k e. omega (arith, e, lt)) | inr le ↦ of le (times-four (r - copy)) ]
  where
    of : copy ≤ r → ((k : ℕ) × (r - copy ≡ 4 * k)) ⊎ ((k : ℕ) → r - copy ≢ 4 * k) → ((k : ℕ) × (r ≡ 4 * k + copy)) ⊎ ((k : ℕ) → r ≢ 4 * k + copy)
    of le (inl h) = let is = h.1 in inl (h.0, omega (arith, is, le))
    of le (inr f) = inr (λ k e. f k (omega (arith, e)))

-- writes of copies of signals leave the registers behind them
sets-past : (rows : List Row) (copy : ℕ) (chosen : ℕ → Bool) (after : List (Option ℕ)) (here : ℕ) (old new : List Write) → Sets rows copy chosen after here old new → copy ≤ 6 → (r : ℕ) → register_count (length rows) ≤ r →
    last_write new r ≡ last_write old r
sets-past rows copy chosen after here old new h low r le = of (copy-at copy r)
  where
    none : (k : ℕ) → length rows ≤ k → or_before (wanted rows copy chosen after here k) (last_write old (4 * k + copy)) ≡ last_write old (4 * k + copy)
    none k past = ap (λ o. or_before (if is_written copy o && chosen k then Some (slot_or here (slot_of after k)) else None) (last_write old (4 * k + copy))) (slice_get_past rows k past)

    of : ((k : ℕ) × (r ≡ 4 * k + copy)) ⊎ ((k : ℕ) → r ≢ 4 * k + copy) → last_write new r ≡ last_write old r
    of (inl e) =
        let k = e.0 in
        let is = e.1 in
        let past : length rows ≤ k = omega (arith, is, le, low) in
        ap (last_write new) is ∙ h.each k ∙ none k past ∙ ap (last_write old) (sym is)
    of (inr f) = h.others r f

module _ (d : Flat) (commits : Bool) (marks : List Bool) (at0 at1 : Env) (p0 p1 : PendingSlots) (ticks : Option ℕ) (next : ℕ) (s1 s2 s3 s4 : List Write)
    (a : Sets d.rows 4 (changed at0.slots at1.slots) at1.slots at1.here [] s1) (b : Sets d.rows 5 (marked_change marks p0.update p1.update) p1.update at1.here s1 s2) (c : Sets d.rows 6 (marked_change marks p0.mask p1.mask) p1.mask at1.here s2 s3) where
  abbrev names : Names
  names = names_of d

  abbrev all : List Write
  all = with_ticks ticks s4 ++ w.Reg state_register next ∷ []

  registers-ticks : (o : Option ℕ) → AllByRecursion IsRegister s4 → AllByRecursion IsRegister (with_ticks o s4)
  registers-ticks None h = h
  registers-ticks (Some r) h = all-push IsRegister s4 (w.Reg ticks_register r) h tt

  other-ticks : (o : Option ℕ) (r : ℕ) → r ≢ 2 → last_write (with_ticks o s4) r ≡ last_write s4 r
  other-ticks None r h = refl
  other-ticks (Some q) r h = last-other s4 ticks_register r q h

  last-ticks : (o : Option ℕ) → last_write s4 ticks_register ≡ None → last_write (with_ticks o s4) ticks_register ≡ o
  last-ticks None h = h
  last-ticks (Some r) h = last-here s4 ticks_register r

  all-in : (z : Shape) (l : ListData) → IsFor d 0 z → AllByRecursion (IsWrite z l.first (length l.cells)) s4 → IsTicks l ticks → IsSlot l next 32 → AllByRecursion (IsWrite z l.first (length l.cells)) all
  all-in z l h sets t n = all-push (IsWrite z l.first (length l.cells)) (with_ticks ticks s4) (w.Reg state_register next) (ticks-in ticks t) (let r = h.regs in (omega (arith, r), n.there))
    where
      ticks-in : (o : Option ℕ) → IsTicks l o → AllByRecursion (IsWrite z l.first (length l.cells)) (with_ticks o s4)
      ticks-in None t = sets
      ticks-in (Some r) t = all-push (IsWrite z l.first (length l.cells)) s4 (w.Reg ticks_register r) sets (let q = h.regs in (omega (arith, q), t.there))

  all-narrow : (l : ListData) → AllByRecursion (IsWithin (register_width d) l) s4 → IsTicks l ticks → IsSlot l next 32 → AllByRecursion (IsWithin (register_width d) l) all
  all-narrow l sets t n = all-push (IsWithin (register_width d) l) (with_ticks ticks s4) (w.Reg state_register next) (ticks-in ticks t) (let e = n.width in let le : width_at l next ≤ 32 = omega (arith, e) in le)
    where
      ticks-in : (o : Option ℕ) → IsTicks l o → AllByRecursion (IsWithin (register_width d) l) (with_ticks o s4)
      ticks-in None t = sets
      ticks-in (Some r) t = all-push (IsWithin (register_width d) l) s4 (w.Reg ticks_register r) sets (let e = t.width in let le : width_at l r ≤ 32 = omega (arith, e) in le)

  finish : Ends d.rows commits marks at0 at1 p0 p1 at1.here s4 → last_write s4 ticks_register ≡ None → ((r : ℕ) → register_count (length d.rows) ≤ r → last_write s4 r ≡ None) →
      (AreDelayed d marks → (l : ListData) → Fits names l at1 → at1.first ≡ 0 → ArePending names l p1 → AllByRecursion (IsWithin (register_width d) l) s4) →
      ((z : Shape) (l : ListData) → IsFor d 0 z → Fits names l at1 → at1.first ≡ 0 → ArePending names l p1 → AllByRecursion (IsWrite z l.first (length l.cells)) s4) → IsEnd d commits marks at0 at1 p0 p1 ticks next all
  finish e none past narrow sound = record {
    ends = ends-beside d.rows commits marks at0 at1 p0 p1 at1.here s4 all e (all-push IsRegister (with_ticks ticks s4) (w.Reg state_register next) (registers-ticks ticks e.registers) tt)
        (λ r h k lt. last-other (with_ticks ticks s4) state_register r next h ∙ other-ticks ticks r k);
    node = last-here (with_ticks ticks s4) state_register next;
    counts = last-other (with_ticks ticks s4) state_register ticks_register next (λ z. omega (arith, z)) ∙ last-ticks ticks none;
    beside = λ r le. last-other (with_ticks ticks s4) state_register r next (λ z. omega (arith, z, le)) ∙ (other-ticks ticks r (λ z. omega (arith, z, le)) ∙ past r le);
    narrow = λ late l fits first pending t n. all-narrow l (narrow late l fits first pending) t n;
    sound = λ z l h fits first pending t n. all-in z l h (sound z l h fits first pending) t n;
  }

  signals-held : (z : Shape) (l : ListData) → IsFor d 0 z → HasSignals (length d.rows) z
  signals-held z l h = let r = h.regs in omega (arith, r)

  slots-held : (l : ListData) (copy : ℕ) → Fits names l at1 → at1.first ≡ 0 → (k : ℕ) → is_written copy (slice_get d.rows k) ≡ true → IsHeld l (slot_of at1.slots k)
  slots-held l copy fits first k h = subst (IsHeld l) (entry-slot at1 k first) (held-entry l _ (entry at1 k) (fits.signals k (signal-of names copy k h)))

  sound3 : (z : Shape) (l : ListData) → IsFor d 0 z → Fits names l at1 → at1.first ≡ 0 → ArePending names l p1 → AllByRecursion (IsWrite z l.first (length l.cells)) s3
  sound3 z l h fits first pending =
      let signals = signals-held z l h in
      c.sound z l signals fits.here.there (λ k i. held-entry l _ (slot_of p1.mask k) (pending.mask k (signal-of names 6 k i)))
      (b.sound z l signals fits.here.there (λ k i. held-entry l _ (slot_of p1.update k) (pending.update k (signal-of names 5 k i)))
      (a.sound z l signals fits.here.there (slots-held l 4 fits first) tt))

  entry-narrow : (l : ListData) (copy k : ℕ) (e : Option ℕ) → 3 ≤ copy → copy ≤ 6 → (nat_lt 4 copy ≡ true → is_delayed d k ≡ true) → Fits names l at1 → is_written copy (slice_get d.rows k) ≡ true → IsEntry l (signal_form d.rows k).width e →
      width_at l (slot_or at1.here e) ≤ register_width d (4 * k + copy)
  entry-narrow l copy k e low high late fits i h =
      subst (λ n. width_at l (slot_or at1.here e) ≤ n) (sym (signal-width d copy k low high late i)) (entry-width l at1.here (signal_form d.rows k).width e fits.here.width (one-bit d.rows k (signal-of names copy k i)) h)

  slots-narrow : (l : ListData) (copy : ℕ) → 3 ≤ copy → copy ≤ 6 → nat_lt 4 copy ≡ false → Fits names l at1 → at1.first ≡ 0 → (k : ℕ) → is_written copy (slice_get d.rows k) ≡ true → width_at l (slot_or at1.here (slot_of at1.slots k)) ≤ register_width d (4 * k + copy)
  slots-narrow l copy low high now fits first k i =
      entry-narrow l copy k (slot_of at1.slots k) low high (λ e. absurd (true≢false (sym e ∙ now))) fits i (subst (IsEntry l (signal_form d.rows k).width) (entry-slot at1 k first) (fits.signals k (signal-of names copy k i)))

  -- a signal of which what is pending is written is delayed
  late-one : AreDelayed d marks → (copy k : ℕ) (q : Bool) → is_written copy (slice_get d.rows k) ≡ true → (marked_one marks k && q) ≡ true → is_delayed d k ≡ true
  late-one late copy k q i m = sym (late.each k (signal-below names k (signal-of names copy k i))) ∙ (and-parts (marked_one marks k) q m).0

  narrow3 : AreDelayed d marks → (l : ListData) → Fits names l at1 → at1.first ≡ 0 → ArePending names l p1 → AllByRecursion (IsWithin (register_width d) l) s3
  narrow3 late l fits first pending =
      c.within (register_width d) l
      (λ k i m. entry-narrow l 6 k (slot_of p1.mask k) (omega arith) (omega arith) (λ z. late-one late 6 k (changed p0.mask p1.mask k) i m) fits i (pending.mask k (signal-of names 6 k i)))
      (b.within (register_width d) l
      (λ k i m. entry-narrow l 5 k (slot_of p1.update k) (omega arith) (omega arith) (λ z. late-one late 5 k (changed p0.update p1.update k) i m) fits i (pending.update k (signal-of names 5 k i)))
      (a.within (register_width d) l (λ k i m. slots-narrow l 4 (omega arith) (omega arith) refl fits first k i) tt))

  no-ticks3 : last_write s3 ticks_register ≡ None
  no-ticks3 = c.others 2 (λ k z. omega (arith, z)) ∙ b.others 2 (λ k z. omega (arith, z)) ∙ a.others 2 (λ k z. omega (arith, z))

  past3 : (r : ℕ) → register_count (length d.rows) ≤ r → last_write s3 r ≡ None
  past3 r le =
      sets-past d.rows 6 (marked_change marks p0.mask p1.mask) p1.mask at1.here s2 s3 c (omega arith) r le
      ∙ (sets-past d.rows 5 (marked_change marks p0.update p1.update) p1.update at1.here s1 s2 b (omega arith) r le ∙ sets-past d.rows 4 (changed at0.slots at1.slots) at1.slots at1.here [] s1 a (omega arith) r le)

  -- behind a segment
  pub end-segment : commits ≡ false → s4 ≡ s3 → IsEnd d commits marks at0 at1 p0 p1 ticks next all
  end-segment e same =
      let ends = ends-segment d.rows marks at0 at1 p0 p1 at1.here [] s1 s2 s3 (starts-none (length d.rows)) a b c in
      finish (subst (λ q. Ends d.rows q marks at0 at1 p0 p1 at1.here s4) (sym e) (subst (Ends d.rows false marks at0 at1 p0 p1 at1.here) (sym same) ends))
      (ap (λ xs. last_write xs ticks_register) same ∙ no-ticks3) (λ r le. ap (λ xs. last_write xs r) same ∙ past3 r le)
      (λ late l fits first pending. subst (AllByRecursion (IsWithin (register_width d) l)) (sym same) (narrow3 late l fits first pending))
      (λ z l h fits first pending. subst (AllByRecursion (IsWrite z l.first (length l.cells))) (sym same) (sound3 z l h fits first pending))

  -- at the end of a wave
  pub end-wave : commits ≡ true → Sets d.rows 3 each_one at1.slots at1.here s3 s4 → IsEnd d commits marks at0 at1 p0 p1 ticks next all
  end-wave e v =
      let ends = ends-wave d.rows marks at0 at1 p0 p1 at1.here [] s1 s2 s3 (starts-none (length d.rows)) a b c s4 v in
      finish (subst (λ q. Ends d.rows q marks at0 at1 p0 p1 at1.here s4) (sym e) ends) (v.others 2 (λ k z. omega (arith, z)) ∙ no-ticks3)
      (λ r le. sets-past d.rows 3 each_one at1.slots at1.here s3 s4 v (omega arith) r le ∙ past3 r le)
      (λ late l fits first pending. v.within (register_width d) l (λ k i m. slots-narrow l 3 (omega arith) (omega arith) refl fits first k i) (narrow3 late l fits first pending))
      (λ z l h fits first pending. v.sound z l (signals-held z l h) fits.here.there (slots-held l 3 fits first) (sound3 z l h fits first pending))

-- the writes of a state
pub ended : (d : Flat) (commits : Bool) (marks : List Bool) (at0 at1 : Env) (p0 p1 : PendingSlots) (ticks : Option ℕ) (next : ℕ) (s3 s4 sets : List Write) → AreChanges d.rows marks at0 at1 p0 p1 s3 → Commits d.rows commits at1 s3 s4 →
    sets ≡ with_ticks ticks s4 ++ w.Reg state_register next ∷ [] → IsEnd d commits marks at0 at1 p0 p1 ticks next sets
ended d true marks at0 at1 p0 p1 ticks next s3 s4 sets c v e = subst (IsEnd d true marks at0 at1 p0 p1 ticks next) (sym e) (end-wave d true marks at0 at1 p0 p1 ticks next c.works c.updates s3 s4 c.first c.second c.third refl v)
ended d false marks at0 at1 p0 p1 ticks next s3 s4 sets c v e = subst (IsEnd d false marks at0 at1 p0 p1 ticks next) (sym e) (end-segment d false marks at0 at1 p0 p1 ticks next c.works c.updates s3 s4 c.first c.second c.third refl v)
