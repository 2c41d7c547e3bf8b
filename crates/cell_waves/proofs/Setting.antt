-- Writes of registers of signals, one signal after the other.
use Rattle.std.proofs.Common.{◌≡◌, ◌≢◌, ℕ, ◌+◌, ◌-◌, ◌*◌, ◌/◌, ◌<◌, ◌≤◌, Bool, true, false, List, [], ◌∷◌, ◌++◌, length, Option, Some, None, refl, sym, ap, ◌∙◌, arith, subst, inl, inr}
use Rattle.std.specs.Prelude.{◌⊎◌, ◌&&◌, nat_lt, if◌then◌else◌, slice_get}
use Rattle.std.proofs.lemmas.Bool.{ltb-true, ltb-false, lt-ltb, le-ltb, cases_eq}
use Rattle.std.proofs.lemmas.Option.{slice_get_within, slice_get_past}
use Rattle.ten_form.specs.vl_design.specs.Syntax.{Row}
use Rattle.cell_emit.specs.cell_form.specs.declared.cell.Write.{Write}
use Rattle.cell_emit.specs.cell_form.specs.declared.cell.Write.TheVariants as w
use Rattle.cell_emit.specs.cell_form.specs.Data.{ListData}
use Rattle.cell_emit.specs.cell_form.specs.Sound.{IsWrite}
use Rattle.cell_emit.specs.cell_form.proofs.Fitting.{all-push}
use Rattle.cell_emit.specs.Slots.{IsIn}
use Rattle.cell_trim.specs.Widths.{IsWithin}
use Rattle.cell_emit.specs.Pendings.{slot_of}
use Rattle.cell_waves.specs.Lasts.{last_write, IsRegister}
use Rattle.cell_waves.specs.Copies.{is_written, slot_or, wanted, with_write, or_before, IsHeld, Sets}
use Rattle.cell_waves.proofs.Lasting.{last-here, last-other}
use Rattle.cell_waves.proofs.Written.{both-true}

-- of the signals below n those that are chosen
abbrev pub below : ℕ → (ℕ → Bool) → ℕ → Bool
below n chosen k = nat_lt k n && chosen k

-- the slot of an entry, or of 0, is there
slot-there : (l : ListData) (here : ℕ) (e : Option ℕ) → IsIn l here → IsHeld l e → IsIn l (slot_or here e)
slot-there l here None h k = h
slot-there l here (Some r) h k = k

module _ (rows : List Row) (copy : ℕ) (after : List (Option ℕ)) (here : ℕ) where
  -- signals that are chosen alike are wanted alike
  wanted-same : (chosen other : ℕ → Bool) (k : ℕ) → chosen k ≡ other k → wanted rows copy chosen after here k ≡ wanted rows copy other after here k
  wanted-same chosen other k e = ap (λ t. if is_written copy (slice_get rows k) && t then Some (slot_or here (slot_of after k)) else None) e

  pub wanted-some : (chosen : ℕ → Bool) (k : ℕ) → is_written copy (slice_get rows k) ≡ true → chosen k ≡ true → wanted rows copy chosen after here k ≡ Some (slot_or here (slot_of after k))
  wanted-some chosen k e f =
      ap (λ t. if t && chosen k then Some (slot_or here (slot_of after k)) else None) e ∙ ap (λ t. if t then Some (slot_or here (slot_of after k)) else None) f

  pub wanted-not : (chosen : ℕ → Bool) (k : ℕ) → is_written copy (slice_get rows k) ≡ false → wanted rows copy chosen after here k ≡ None
  wanted-not chosen k e = ap (λ t. if t && chosen k then Some (slot_or here (slot_of after k)) else None) e

  pub wanted-left : (chosen : ℕ → Bool) (k : ℕ) → chosen k ≡ false → wanted rows copy chosen after here k ≡ None
  wanted-left chosen k e = wanted-same chosen (λ j. false) k e ∙ of (is_written copy (slice_get rows k))
    where
      of : (t : Bool) → (if t && false then Some (slot_or here (slot_of after k)) else None) ≡ None
      of true = refl
      of false = refl

  module _ (chosen : ℕ → Bool) (old : List Write) where
    pub sets-none : Sets rows copy (below 0 chosen) after here old old
    sets-none = record {
      each = λ k. sym (ap (λ e. or_before e (last_write old (4 * k + copy))) (wanted-left (below 0 chosen) k (ap (λ t. t && chosen k) (le-ltb k 0 (omega arith)))));
      others = λ r n. refl;
      registers = λ h. h;
      within = λ most l f h. h;
      sound = λ z l s i e h. h;
    }

    -- all signals
    pub sets-all : (n : ℕ) (new : List Write) → length rows ≤ n → Sets rows copy (below n chosen) after here old new → Sets rows copy chosen after here old new
    sets-all n new long h = record {
      each = λ k. h.each k ∙ ap (λ e. or_before e (last_write old (4 * k + copy))) (same k (nat_lt k n) refl);
      others = h.others;
      registers = h.registers;
      within = λ most l f. h.within most l (λ k w c. f k w (both-true (nat_lt k n) (chosen k) c).1);
      sound = h.sound;
    }
      where
        same : (k : ℕ) (t : Bool) → nat_lt k n ≡ t → wanted rows copy (below n chosen) after here k ≡ wanted rows copy chosen after here k
        same k true e = wanted-same (below n chosen) chosen k (ap (λ t. t && chosen k) e)
        same k false e =
            let over = ltb-false k n e in
            let past : is_written copy (slice_get rows k) ≡ false = ap (is_written copy) (slice_get_past rows k (omega (arith, over, long))) in
            wanted-not (below n chosen) k past ∙ sym (wanted-not chosen k past)

    below-other : (n k : ℕ) → k ≢ n → below (n + 1) chosen k ≡ below n chosen k
    below-other n k other = ap (λ t. t && chosen k) (of (nat_lt k n) refl)
      where
        of : (t : Bool) → nat_lt k n ≡ t → nat_lt k (n + 1) ≡ nat_lt k n
        of true e = let lt = ltb-true k n e in lt-ltb k (n + 1) (omega (arith, lt)) ∙ sym e
        of false e = let ge = ltb-false k n e in le-ltb k (n + 1) (omega (arith, ge, other)) ∙ sym e

    here-less : (n : ℕ) → below (n + 1) chosen n ≡ chosen n
    here-less n = ap (λ t. t && chosen n) (lt-ltb n (n + 1) (omega arith))

    none-yet : (n : ℕ) → below n chosen n ≡ false
    none-yet n = ap (λ t. t && chosen n) (le-ltb n n (omega arith))

    module _ (n : ℕ) (mid : List Write) (h : Sets rows copy (below n chosen) after here old mid) where
      abbrev Is : List Write → ℕ → Type 0
      Is new k = last_write new (4 * k + copy) ≡ or_before (wanted rows copy (below (n + 1) chosen) after here k) (last_write old (4 * k + copy))

      -- a signal that was chosen is
      still : (k : ℕ) → below n chosen k ≡ true → below (n + 1) chosen k ≡ true
      still k t =
          let b = both-true (nat_lt k n) (chosen k) t in
          let lt = ltb-true k n b.0 in
          ap (λ q. q && chosen k) (lt-ltb k (n + 1) (omega (arith, lt))) ∙ b.1

      left : (is_written copy (slice_get rows n) && chosen n) ≡ false → Sets rows copy (below (n + 1) chosen) after here old mid
      left e = record { each = λ k. of k (cases_eq k n); others = h.others; registers = h.registers; within = λ most l f. h.within most l (λ k w t. f k w (still k t)); sound = h.sound }
        where
          none : wanted rows copy (below (n + 1) chosen) after here n ≡ None
          none = wanted-same (below (n + 1) chosen) chosen n (here-less n) ∙ ap (λ t. if t then Some (slot_or here (slot_of after n)) else None) e

          of : (k : ℕ) → (k ≡ n) ⊎ (k ≡ n → ⊥) → Is mid k
          of k (inl same) =
              subst (Is mid) (sym same) (h.each n ∙ ap (λ x. or_before x (last_write old (4 * n + copy))) (wanted-left (below n chosen) n (none-yet n) ∙ sym none))
          of k (inr other) = h.each k ∙ ap (λ x. or_before x (last_write old (4 * k + copy))) (sym (wanted-same (below (n + 1) chosen) (below n chosen) k (below-other n k other)))

      done : copy ≤ 6 → n < length rows → (is_written copy (slice_get rows n) && chosen n) ≡ true → Sets rows copy (below (n + 1) chosen) after here old (mid ++ w.Reg (4 * n + copy) (slot_or here (slot_of after n)) ∷ [])
      done small lt e = record {
        each = λ k. of k (cases_eq k n);
        others = λ r apart. last-other mid (4 * n + copy) r s (apart n) ∙ h.others r apart;
        registers = λ k. all-push IsRegister mid (w.Reg (4 * n + copy) s) (h.registers k) tt;
        within = λ most l f k. all-push (IsWithin most l) mid (w.Reg (4 * n + copy) s) (h.within most l (λ j v t. f j v (still j t)) k)
            (let t = both-true (is_written copy (slice_get rows n)) (chosen n) e in f n t.0 (here-less n ∙ t.1));
        sound = λ z l size is each k. all-push (IsWrite z l.first (length l.cells)) mid (w.Reg (4 * n + copy) s) (h.sound z l size is each k)
            (omega (arith, size, small, lt), slot-there l here (slot_of after n) is (each n (both-true (is_written copy (slice_get rows n)) (chosen n) e).0));
      }
        where
          s : ℕ
          s = slot_or here (slot_of after n)

          of : (k : ℕ) → (k ≡ n) ⊎ (k ≡ n → ⊥) → Is (mid ++ w.Reg (4 * n + copy) s ∷ []) k
          of k (inl same) =
              let t = both-true (is_written copy (slice_get rows n)) (chosen n) e in
              subst (Is (mid ++ w.Reg (4 * n + copy) s ∷ [])) (sym same)
              (last-here mid (4 * n + copy) s ∙ sym (ap (λ x. or_before x (last_write old (4 * n + copy))) (wanted-some (below (n + 1) chosen) n t.0 (here-less n ∙ t.1))))
          of k (inr other) =
              last-other mid (4 * n + copy) (4 * k + copy) s (omega (arith, other)) ∙ h.each k
              ∙ ap (λ x. or_before x (last_write old (4 * k + copy))) (sym (wanted-same (below (n + 1) chosen) (below n chosen) k (below-other n k other)))

      -- one signal more
      pub sets-more : (r : Row) (new : List Write) → copy ≤ 6 → slice_get rows n ≡ Some r → new ≡ with_write (is_written copy (Some r) && chosen n) (4 * n + copy) (slot_or here (slot_of after n)) mid →
          Sets rows copy (below (n + 1) chosen) after here old new
      sets-more r new small at is =
          let lt = slice_get_within rows n r at in
          subst (λ xs. Sets rows copy (below (n + 1) chosen) after here old xs) (sym (is ∙ ap (λ q. with_write (is_written copy q && chosen n) (4 * n + copy) (slot_or here (slot_of after n)) mid) (sym at)))
          (of small lt (is_written copy (slice_get rows n) && chosen n) refl)
        where
          of : copy ≤ 6 → n < length rows → (t : Bool) → (is_written copy (slice_get rows n) && chosen n) ≡ t →
              Sets rows copy (below (n + 1) chosen) after here old (with_write (is_written copy (slice_get rows n) && chosen n) (4 * n + copy) (slot_or here (slot_of after n)) mid)
          of small lt true e =
              subst (λ xs. Sets rows copy (below (n + 1) chosen) after here old xs) (sym (ap (λ t. with_write t (4 * n + copy) (slot_or here (slot_of after n)) mid) e)) (done small lt e)
          of small lt false e =
              subst (λ xs. Sets rows copy (below (n + 1) chosen) after here old xs) (sym (ap (λ t. with_write t (4 * n + copy) (slot_or here (slot_of after n)) mid) e)) (left e)

-- ---- registers behind those of signals

-- they are as they were
pub sets-beyond : (rows : List Row) (copy : ℕ) (chosen : ℕ → Bool) (after : List (Option ℕ)) (here : ℕ) (old new : List Write) (r : ℕ) → 3 ≤ copy → copy ≤ 6 → 4 * length rows + 3 ≤ r →
    Sets rows copy chosen after here old new → last_write new r ≡ last_write old r
sets-beyond rows copy chosen after here old new r low high far h =
    elim (cases_eq r (4 * ((r - copy) / 4) + copy)) [
      | inl e ↦ (let k = (r - copy) / 4 in
          let past : is_written copy (slice_get rows k) ≡ false = ap (is_written copy) (slice_get_past rows k (omega (arith, far, high, e))) in
          ap (last_write new) e ∙ h.each k ∙ ap (λ x. or_before x (last_write old (4 * k + copy))) (wanted-not rows copy after here chosen k past) ∙ ap (last_write old) (sym e))
      | inr n ↦ h.others r (λ j e. n (omega (arith, e)))
    ]
