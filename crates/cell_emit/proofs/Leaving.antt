-- What is pending behind statements (IEEE 1364-2005, clauses 9.2.2, 9.4, 9.5 and 9.8).
use Rattle.std.proofs.Common.{◌≡◌, ℕ, ◌+◌, Bool, true, false, List, ◌++◌, inl, inr, refl, sym, ap, ◌∙◌, arith, subst}
use Rattle.std.specs.Prelude.{◌⊎◌, ◌==◌, not, ◌&&◌, ◌||◌, if◌then◌else◌}
use Rattle.vl_sites.specs.vl_design.specs.declared.design.Form.{Form}
use Rattle.vl_sites.specs.vl_design.specs.Syntax.{Exp, Exps, Target, Stm, Nop, If, Case, Set, Later, Items, NoItems, Labelled, Default}
use Rattle.vl_sites.specs.vl_design.specs.Width.{Names, Scope, form}
use Rattle.vl_sites.specs.vl_design.specs.Value.{Sample, value, own_value}
use Rattle.vl_sites.specs.vl_design.specs.State.{State, Update, sample, counted, all_updated}
use Rattle.vl_sites.specs.vl_design.specs.Targets.{assignment}
use Rattle.vl_sites.specs.vl_design.specs.Exec.{exec, exec_default, holds, asks, items_form, items_hold, some_match, counted_if}
use Rattle.cell_form.specs.Data.{ListData, BankData}
use Rattle.cell_form.specs.Sound.{Shape}
use Rattle.cell_emit.specs.Slots.{held, IsIn, AreSound, Grows, Longer, Gives, Nothing}
use Rattle.cell_emit.proofs.Frames.{held-stays, grows-same, longer-grows, longer-then}
use Rattle.cell_emit.specs.Envs.{Env, IsSlot, HasMemories, Fits, Stands}
use Rattle.cell_emit.specs.Paths.{on, Does}
use Rattle.cell_emit.specs.Cases.{Compares, Went, Missed, Away}
use Rattle.cell_emit.proofs.Staying.{one-bit, stands-stays, fits-stays, sound-behind, keeps-same, longer-plain}
use Rattle.cell_emit.proofs.Walking.{on-alive, both, going}
use Rattle.cell_emit.proofs.Testing.{counted-sample, counted-alive, split, first-path, second-path}
use Rattle.cell_emit.proofs.Casing.{went-default, went-item, went-on, taken-path}
use Rattle.cell_emit.specs.Pendings.{PendingSlots, ArePending, Pends}
use Rattle.cell_emit.specs.Delays.{with_later, Delays, Leaves, LeavesItems}
use Rattle.cell_emit.proofs.Keeping.{pending-stays, pends-stays}

-- ---- nothing more is pending

pub leaves-same : (names : Names) (f : State → State) (off : ℕ) (at : Env) (p : PendingSlots) (old new : ListData) → ArePending names old p → Grows old new → ((t : State) → (f t).later ≡ t.later) → Leaves names f off at p p old new
leaves-same names f off at p old new h g same = record {
  pending = pending-stays names old new p g h;
  many = refl;
  later = λ s b t sound alive st pends. subst (Pends names b new p) (of (held b old off == 0) t) (pends-stays names b old new p t.later g h pends);
}
  where
    of : (c : Bool) (t : State) → t.later ≡ (if c then f t else t).later
    of true t = sym (same t)
    of false t = refl

pub leaves-nop : (names : Names) (scope : Scope) (off : ℕ) (at : Env) (p : PendingSlots) (l : ListData) → ArePending names l p → Leaves names (exec scope Nop) off at p p l l
leaves-nop names scope off at p l h = leaves-same names (exec scope Nop) off at p l l h (grows-same l) (λ t. refl)

-- a blocking assignment
pub leaves-set : (names : Names) (scope : Scope) (target : Target) (e : Exp) (off : ℕ) (at : Env) (p : PendingSlots) (old new : ListData) → ArePending names old p → Grows old new → Leaves names (exec scope (Set target e)) off at p p old new
leaves-set names scope target e off at p old new h g =
    leaves-same names (exec scope (Set target e)) off at p old new h g
    (λ t. of t.finished t (record t { values = all_updated scope.names.rows t.values (assignment scope (sample t) target e) }) refl)
  where
    of : (c : Bool) (t u : State) → u.later ≡ t.later → (if c then t else u).later ≡ t.later
    of true t u e = refl
    of false t u e = e

-- ---- one after the other

pub leaves-then : (names : Names) (n off : ℕ) (f g : State → State) (at0 at1 : Env) (p0 p1 p2 : PendingSlots) (l0 l1 l2 : ListData) → IsIn l0 off → Does names n f off at0 at1 l0 l1 →
    Leaves names f off at0 p0 p1 l0 l1 → Leaves names g off at1 p1 p2 l1 l2 → Leaves names (λ t. g (f t)) off at0 p0 p2 l0 l2
leaves-then names n off f g at0 at1 p0 p1 p2 l0 l1 l2 k d a b = record {
  pending = b.pending;
  many = b.many ∙ a.many;
  later = λ s x t sound alive st pends.
      let o = held x l0 off in
      let t1 = on o (f t) t in
      let behind = sound-behind names at0 n s l0 l1 d.longer sound in
      subst (λ (u : State). Pends names x l2 p2 u.later) (ap (λ y. on y (g t1) t1) (held-stays x l0 l1 off (longer-grows (HasMemories names at0) n l0 l1 d.longer) k) ∙ both o f g t)
      (b.later behind.shape x t1 behind.sound (on-alive o (f t) t (d.alive t alive) alive) (d.does s x t sound alive st) (a.later s x t sound alive st pends));
}

-- ---- tests

counted-later : (held : Bool) (t : State) → (counted_if held t).later ≡ t.later
counted-later held t = of (held && not t.finished)
  where
    of : (b : Bool) → (if b then counted t else t).later ≡ t.later
    of true = refl
    of false = refl

pub leaves-if : (scope : Scope) (e : Exp) (x y : Stm) (n0 n off test first second : ℕ) (at0 at1 : Env) (p0 p1 p2 : PendingSlots) (l0 l1 l2 l3 l4 : ListData) → Fits scope.names l0 at0 → ArePending scope.names l0 p0 → IsIn l0 off →
    Longer (HasMemories scope.names at0) n0 l0 l1 → ((s : Shape) (b : BankData) (u : Sample) → AreSound s l0 → Stands scope.names b l0 at0 u → held b l1 test ≡ own_value scope u e) →
    Gives Nothing 2 l1 l2 first 1 (λ b. if held b l1 test == 0 then 1 else held b l1 off) → Gives Nothing 2 l1 l2 second 1 (λ b. if held b l1 test == 0 then held b l1 off else 1) →
    Does scope.names n (exec scope x) first at0 at1 l2 l3 → Leaves scope.names (exec scope x) first at0 p0 p1 l2 l3 → Leaves scope.names (exec scope y) second at1 p1 p2 l3 l4 →
    Leaves scope.names (exec scope (If e x y)) off at0 p0 p2 l0 l4
leaves-if scope e x y n0 n off test first second at0 at1 p0 p1 p2 l0 l1 l2 l3 l4 fits before k longer is ga gb d a b =
    let names = scope.names in
    let H : Shape → Type 0 = HasMemories names at0 in
    let l02 = longer-then H n0 2 l0 l1 l2 longer (longer-plain names at0 2 2 l1 l2 (omega arith) ga.longer) in
    let counting : State → Bool = λ t. asks e || (holds scope t x || holds scope t y) in
    let f = exec scope x in
    let g = exec scope y in
    record {
      pending = b.pending;
      many = b.many ∙ a.many;
      later = λ s w t sound alive st pends.
          let t' = counted_if (counting t) t in
          let alive' = counted-alive (counting t) t alive in
          let v = own_value scope (sample t) e in
          let test_is = is s w (sample t) sound st in
          let sound1 = sound-behind names at0 n0 s l0 l1 longer sound in
          let sound2 = sound-behind names at0 (n0 + 2) s l0 l2 l02 sound in
          let sound3 = sound-behind names at0 n sound2.shape l2 l3 d.longer sound2.sound in
          let g01 = longer-grows H n0 l0 l1 longer in
          let g02 = longer-grows H (n0 + 2) l0 l2 l02 in
          let st2 = subst (Stands names w l2 at0) (sym (counted-sample (counting t) t)) (stands-stays names w l0 l2 at0 (sample t) g02 fits st) in
          let pends2 = subst (Pends names w l2 p0) (sym (counted-later (counting t) t)) (pends-stays names w l0 l2 p0 t.later g02 before pends) in
          let first_is = first-path w sound1.shape off test first v l0 l1 l2 g01 k sound1.sound test_is ga in
          let second_is = second-path w sound1.shape off test second v l0 l1 l2 l3 g01 (longer-grows H n l2 l3 d.longer) k sound1.sound test_is gb in
          let o = held w l0 off in
          let t1 = on (held w l2 first) (f t') t' in
          let alive1 = on-alive (held w l2 first) (f t') t' (d.alive t' alive') alive' in
          subst (Pends names w l4 p2)
          (ap (λ z. (on (held w l3 second) (g (on z (f t') t')) (on z (f t') t')).later) first_is
          ∙ ap (λ z. (on z (g (on (if v == 0 then 1 else o) (f t') t')) (on (if v == 0 then 1 else o) (f t') t')).later) second_is
          ∙ split (λ u. u.later) (v == 0) o f g t' t (counted-later (counting t) t))
          (b.later sound3.shape w t1 sound3.sound alive1 (d.does sound2.shape w t' sound2.sound alive' st2) (a.later sound2.shape w t' sound2.sound alive' st2 pends2));
    }

-- ---- cases

pub leaves-no-items : (names : Names) (scope : Scope) (c : Form) (subject rest : ℕ) (at : Env) (p : PendingSlots) (l : ListData) → ArePending names l p → IsSlot l rest 1 → LeavesItems names scope c subject NoItems rest rest at at p p l l
leaves-no-items names scope c subject rest at p l h slot = record {
  pending = h;
  many = refl;
  went = λ s b t sound alive st pends. of (held b l rest) (λ u. Stands names b l at (sample u) × Pends names b l p u.later) (held b l subject) t (st, pends) (one-bit s b l rest sound slot);
}
  where
    of : (o : ℕ) (R : State → Type 0) (v : ℕ) (t : State) → R t → (o ≡ 0) ⊎ (o ≡ 1) → Went scope c v NoItems o o R t
    of o R v t h (inl e) = Missed e e (λ d. refl) h
    of o R v t h (inr e) = Away e e h

pub leaves-default : (names : Names) (scope : Scope) (c : Form) (subject : ℕ) (a : Stm) (others : Items) (before behind : ℕ) (at at' : Env) (p p' : PendingSlots) (old new : ListData) →
    LeavesItems names scope c subject others before behind at at' p p' old new → LeavesItems names scope c subject (Default a others) before behind at at' p p' old new
leaves-default names scope c subject a others before behind at at' p p' old new h = record {
  pending = h.pending;
  many = h.many;
  went = λ s b t sound alive st pends.
      went-default scope c (held b old subject) a others (held b old before) (held b new behind) (λ u. Stands names b new at' (sample u) × Pends names b new p' u.later) t (h.went s b t sound alive st pends);
}

pub leaves-labelled : (names : Names) (scope : Scope) (c : Form) (n0 n subject before left taken behind : ℕ) (es : Exps) (a : Stm) (others : Items) (at0 at1 at2 : Env) (p0 p1 p2 : PendingSlots) (l0 l1 l2 l3 l4 : ListData) →
    Fits names l0 at0 → ArePending names l0 p0 → IsIn l0 subject → IsSlot l0 before 1 →
    Compares names n0 scope c subject es before left at0 l0 l1 → Gives Nothing 1 l1 l2 taken 1 (λ b. if held b l1 left == 0 then 1 else held b l1 before) →
    Does names n (exec scope a) taken at0 at1 l2 l3 → Leaves names (exec scope a) taken at0 p0 p1 l2 l3 → LeavesItems names scope c subject others left behind at1 at2 p1 p2 l3 l4 →
    LeavesItems names scope c subject (Labelled es a others) before behind at0 at2 p0 p2 l0 l4
leaves-labelled names scope c n0 n subject before left taken behind es a others at0 at1 at2 p0 p1 p2 l0 l1 l2 l3 l4 fits pending ks slot labels g d e more =
    let H : Shape → Type 0 = HasMemories names at0 in
    let l02 = longer-then H n0 1 l0 l1 l2 labels.longer (longer-plain names at0 1 1 l1 l2 (omega arith) g.longer) in
    let l03 = longer-then H (n0 + 1) n l0 l2 l3 l02 d.longer in
    let l13 = longer-then H 1 n l1 l2 l3 (longer-plain names at0 1 1 l1 l2 (omega arith) g.longer) d.longer in
    record {
      pending = more.pending;
      many = more.many ∙ e.many;
      went = λ s b t sound alive st pends.
          let v = held b l0 subject in
          let o = held b l0 before in
          let match = some_match scope (sample t) c v es in
          let sound1 = sound-behind names at0 n0 s l0 l1 labels.longer sound in
          let sound2 = sound-behind names at0 (n0 + 1) s l0 l2 l02 sound in
          let sound3 = sound-behind names at0 n sound2.shape l2 l3 d.longer sound2.sound in
          let g02 = longer-grows H (n0 + 1) l0 l2 l02 in
          let st2 = stands-stays names b l0 l2 at0 (sample t) g02 fits st in
          let pends2 = pends-stays names b l0 l2 p0 t.later g02 pending pends in
          let left_is : held b l1 left ≡ (if match then 1 else o) = labels.value s b (sample t) sound st in
          let taken_is = taken-path b sound1.shape before left taken match l0 l1 l2 (longer-grows H n0 l0 l1 labels.longer) slot.there sound1.sound left_is g in
          let left3 = held-stays b l1 l3 left (longer-grows H (1 + n) l1 l3 l13) labels.slot.there ∙ left_is in
          let subject3 = held-stays b l0 l3 subject (longer-grows H (n0 + 1 + n) l0 l3 l03) ks in
          let t1 = on (held b l2 taken) (exec scope a t) t in
          let after = d.alive t alive in
          let w = more.went sound3.shape b t1 sound3.sound (on-alive (held b l2 taken) (exec scope a t) t after alive) (d.does sound2.shape b t sound2.sound alive st2) (e.later sound2.shape b t sound2.sound alive st2 pends2) in
          let R : State → Type 0 = λ u. Stands names b l4 at2 (sample u) × Pends names b l4 p2 u.later in
          went-item scope c v es a others o (held b l4 behind) R t match refl alive after (one-bit s b l0 before sound slot)
          (subst (λ z. Went scope c v others (if match then 1 else o) (held b l4 behind) R (on z (exec scope a t) t)) taken_is
          (subst (λ z. Went scope c v others z (held b l4 behind) R t1) left3
          (subst (λ z. Went scope c z others (held b l3 left) (held b l4 behind) R t1) subject3 w)));
    }

pub leaves-case : (scope : Scope) (e : Exp) (items : Items) (n0 n off subject behind : ℕ) (at0 at1 : Env) (p0 p1 p2 : PendingSlots) (l0 l1 l2 l3 : ListData) → Fits scope.names l0 at0 → ArePending scope.names l0 p0 → IsIn l0 off →
    Longer (HasMemories scope.names at0) n0 l0 l1 → ((s : Shape) (b : BankData) (x : Sample) → AreSound s l0 → Stands scope.names b l0 at0 x → held b l1 subject ≡ value scope x e (items_form scope.names (form scope.names e) items)) →
    Longer (HasMemories scope.names at0) n l1 l2 → LeavesItems scope.names scope (items_form scope.names (form scope.names e) items) subject items off behind at0 at1 p0 p1 l1 l2 →
    Leaves scope.names (exec_default scope items) behind at1 p1 p2 l2 l3 → Leaves scope.names (exec scope (Case e items)) off at0 p0 p2 l0 l3
leaves-case scope e items n0 n off subject behind at0 at1 p0 p1 p2 l0 l1 l2 l3 fits pending k longer is more tries d =
    let names = scope.names in
    let H : Shape → Type 0 = HasMemories names at0 in
    let c = items_form names (form names e) items in
    let l02 = longer-then H n0 n l0 l1 l2 longer more in
    let g01 = longer-grows H n0 l0 l1 longer in
    record {
      pending = d.pending;
      many = d.many ∙ tries.many;
      later = λ s b t sound alive st pends.
          let counting = items_hold scope t items in
          let t' = counted_if counting t in
          let same = counted-sample counting t in
          let alive' = counted-alive counting t alive in
          let v = value scope (sample t) e c in
          let sound1 = sound-behind names at0 n0 s l0 l1 longer sound in
          let sound2 = sound-behind names at0 (n0 + n) s l0 l2 l02 sound in
          let st1 = subst (Stands names b l1 at0) (sym same) (stands-stays names b l0 l1 at0 (sample t) g01 fits st) in
          let pends1 = subst (Pends names b l1 p0) (sym (counted-later counting t)) (pends-stays names b l0 l1 p0 t.later g01 pending pends) in
          let w = tries.went sound1.shape b t' sound1.sound alive' st1 pends1 in
          let R : State → Type 0 = λ u. Stands names b l2 at1 (sample u) × Pends names b l2 p1 u.later in
          let S : State → Type 0 = λ u. Pends names b l3 p2 u.later in
          went-on scope c v items (held b l0 off) (held b l2 behind) R S t' t (exec_default scope items t') (λ z. subst (Pends names b l3 p2) (counted-later counting t) z) alive' refl
          (λ u h i. d.later sound2.shape b u sound2.sound h i.0 i.1)
          (subst (λ z. Went scope c v items z (held b l2 behind) R t') (held-stays b l0 l1 off g01 k)
          (subst (λ z. Went scope c z items (held b l1 off) (held b l2 behind) R t') (is s b (sample t) sound st) w));
    }

-- ---- a nonblocking assignment

-- it changes nothing that is read
pub does-later : (scope : Scope) (target : Target) (e : Exp) (n off : ℕ) (at : Env) (old new : ListData) → Fits scope.names old at → Longer (HasMemories scope.names at) n old new →
    Does scope.names n (exec scope (Later target e)) off at at old new
does-later scope target e n off at old new fits longer =
    let names = scope.names in
    let g = longer-grows (HasMemories names at) n old new longer in
    let more : State → State = λ t. record t { later = t.later ++ assignment scope (sample t) target e } in
    record {
      longer = longer;
      fits = fits-stays names old new at g fits;
      keeps = keeps-same names at;
      alive = λ t h. ap (λ (u : State). u.finished) (going t.finished t (more t) h) ∙ h;
      does = λ s b t sound alive st.
          subst (λ u. Stands names b new at (sample (on (held b old off) u t))) (sym (going t.finished t (more t) alive))
          (subst (Stands names b new at) (of (held b old off == 0) t (more t) refl) (stands-stays names b old new at (sample t) g fits st));
    }
  where
    of : (c : Bool) (t u : State) → sample t ≡ sample u → sample t ≡ sample (if c then u else t)
    of true t u e = e
    of false t u e = refl

pub leaves-later : (scope : Scope) (target : Target) (e : Exp) (n m : ℕ) (us : BankData → List Update) (off : ℕ) (at : Env) (p p' : PendingSlots) (l0 l1 l2 : ListData) → Fits scope.names l0 at → ArePending scope.names l0 p → IsIn l0 off →
    Longer (HasMemories scope.names at) n l0 l1 → ((s : Shape) (b : BankData) (x : Sample) → AreSound s l0 → Stands scope.names b l0 at x → us b ≡ assignment scope x target e) →
    Delays scope.names m us off p p' l1 l2 → Leaves scope.names (exec scope (Later target e)) off at p p' l0 l2
leaves-later scope target e n m us off at p p' l0 l1 l2 fits pending k longer same d =
    let names = scope.names in
    let g = longer-grows (HasMemories names at) n l0 l1 longer in
    let more : State → State = λ t. record t { later = t.later ++ assignment scope (sample t) target e } in
    record {
      pending = d.pending;
      many = d.many;
      later = λ s b t sound alive st pends.
          let behind = sound-behind names at n s l0 l1 longer sound in
          subst (λ (u : State). Pends names b l2 p' (on (held b l0 off) u t).later) (sym (going t.finished t (more t) alive))
          (subst (Pends names b l2 p')
          (ap (λ o. with_later o t.later (us b)) (held-stays b l0 l1 off g k) ∙ ap (with_later (held b l0 off) t.later) (same s b (sample t) sound st)
          ∙ of (held b l0 off == 0) t (assignment scope (sample t) target e))
          (d.later behind.shape b t.later behind.sound (pends-stays names b l0 l1 p t.later g pending pends)));
    }
  where
    of : (c : Bool) (t : State) (us : List Update) → (if c then t.later ++ us else t.later) ≡ (if c then record t { later = t.later ++ us } else t).later
    of true t us = refl
    of false t us = refl
