-- Statements one after the other, and assignments (IEEE 1364-2005, clauses 9.2 and 9.8).
use Rattle.std.proofs.Common.{◌≡◌, ℕ, ◌+◌, ◌≤◌, Bool, true, false, List, [], ◌∷◌, refl, sym, ap, ◌∙◌, arith, subst}
use Rattle.std.specs.Prelude.{◌==◌, if◌then◌else◌}
use Rattle.vl_base.specs.Value.{reading}
use Rattle.vl_sites.specs.vl_design.specs.Syntax.{Exp, Target, Stm, Nop, Then, Set, NoItems}
use Rattle.vl_sites.specs.vl_design.specs.Width.{Names, Scope}
use Rattle.vl_sites.specs.vl_design.specs.Value.{Sample, lowest_bit}
use Rattle.vl_sites.specs.vl_design.specs.State.{State, Update, sample, all_updated}
use Rattle.vl_sites.specs.vl_design.specs.Targets.{assignment}
use Rattle.vl_sites.specs.vl_design.specs.Exec.{exec, exec_default}
use Rattle.cell_form.specs.Data.{ListData, BankData}
use Rattle.cell_form.specs.Sound.{Shape}
use Rattle.cell_emit.specs.Slots.{held, width_at, IsIn, AreSound, Grows, Longer, Nothing}
use Rattle.cell_emit.proofs.Frames.{held-stays, width-stays, longer-grows, longer-same, longer-then, longer-weaken}
use Rattle.cell_emit.specs.Envs.{Env, HasMemories, Fits, Stands}
use Rattle.cell_emit.specs.Paths.{on, Does, Low, Constant, By, IsLow, low_in, update_in, Assigns, Updates}
use Rattle.cell_emit.proofs.Staying.{stands-stays, sound-behind, keeps-same, keeps-then, longer-kept, longer-plain}

-- ---- on a path

pub on-same : (o : ℕ) (t : State) → t ≡ on o t t
on-same o t = of (o == 0)
  where
    of : (b : Bool) → t ≡ (if b then t else t)
    of true = refl
    of false = refl

pub on-alive : (o : ℕ) (u t : State) → u.finished ≡ false → t.finished ≡ false → (on o u t).finished ≡ false
on-alive o u t h k = of (o == 0)
  where
    of : (b : Bool) → (if b then u else t).finished ≡ false
    of true = h
    of false = k

-- ---- nothing, and one after the other

pub does-nothing : (names : Names) (off : ℕ) (at : Env) (l : ListData) → Fits names l at → Does names 0 (λ t. t) off at at l l
does-nothing names off at l f = record {
  longer = longer-same (HasMemories names at) l;
  fits = f;
  keeps = keeps-same names at;
  alive = λ t h. h;
  does = λ s b t sound alive st. subst (λ u. Stands names b l at (sample u)) (on-same (held b l off) t) st;
}

-- no statement, and no default
pub does-nop : (names : Names) (scope : Scope) (off : ℕ) (at : Env) (l : ListData) → Fits names l at → Does names 0 (exec scope Nop) off at at l l
does-nop names scope off at l f = does-nothing names off at l f

pub both : (o : ℕ) (f g : State → State) (t : State) → on o (g (on o (f t) t)) (on o (f t) t) ≡ on o (g (f t)) t
both o f g t = of (o == 0)
  where
    of : (b : Bool) → (if b then g (if b then f t else t) else (if b then f t else t)) ≡ (if b then g (f t) else t)
    of true = refl
    of false = refl

pub does-both : (names : Names) (n m off : ℕ) (f g : State → State) (at0 at1 at2 : Env) (l0 l1 l2 : ListData) → IsIn l0 off →
    Does names n f off at0 at1 l0 l1 → Does names m g off at1 at2 l1 l2 → Does names (n + m) (λ t. g (f t)) off at0 at2 l0 l2
does-both names n m off f g at0 at1 at2 l0 l1 l2 k a b =
    let H : Shape → Type 0 = HasMemories names at0 in
    record {
      longer = longer-then H n m l0 l1 l2 a.longer (longer-kept names m at0 at1 l1 l2 a.keeps b.longer);
      fits = b.fits;
      keeps = keeps-then names at0 at1 at2 a.keeps b.keeps;
      alive = λ t h. b.alive (f t) (a.alive t h);
      does = λ s x t sound alive st.
          let o = held x l0 off in
          let t1 = on o (f t) t in
          let behind = sound-behind names at0 n s l0 l1 a.longer sound in
          let alive1 = on-alive o (f t) t (a.alive t alive) alive in
          subst (λ u. Stands names x l2 at2 (sample u))
          (ap (λ y. on y (g t1) t1) (held-stays x l0 l1 off (longer-grows H n l0 l1 a.longer) k) ∙ both o f g t)
          (b.does behind.shape x t1 behind.sound alive1 (a.does s x t sound alive st));
    }

pub does-then : (names : Names) (scope : Scope) (n m off : ℕ) (x y : Stm) (at0 at1 at2 : Env) (l0 l1 l2 : ListData) → IsIn l0 off →
    Does names n (exec scope x) off at0 at1 l0 l1 → Does names m (exec scope y) off at1 at2 l1 l2 → Does names (n + m) (exec scope (Then x y)) off at0 at2 l0 l2
does-then names scope n m off x y at0 at1 at2 l0 l1 l2 k a b = does-both names n m off (exec scope x) (exec scope y) at0 at1 at2 l0 l1 l2 k a b

-- ---- updates in order

pub updates-wider : (names : Names) (n m : ℕ) (us : BankData → List Update) (off : ℕ) (at at' : Env) (old new : ListData) → n ≤ m → Updates names n us off at at' old new → Updates names m us off at at' old new
updates-wider names n m us off at at' old new le u = record { longer = longer-weaken Nothing Nothing n m old new (λ s h. h) le u.longer; fits = u.fits; keeps = u.keeps; does = u.does }

pub updates-none : (names : Names) (off : ℕ) (at : Env) (l : ListData) → Fits names l at → Updates names 0 (λ b. []) off at at l l
updates-none names off at l f = record {
  longer = longer-same Nothing l;
  fits = f;
  keeps = keeps-same names at;
  does = λ s b t sound st. subst (λ u. Stands names b l at (sample u)) (on-same (held b l off) t) st;
}

pub updates-more : (names : Names) (n m signal : ℕ) (low : Low) (part off : ℕ) (us : BankData → List Update) (at0 at1 at2 : Env) (l0 l1 l2 : ListData) → IsIn l0 off →
    Assigns names n signal low part off at0 at1 l0 l1 → Updates names m us off at1 at2 l1 l2 → Updates names (n + m) (λ b. update_in b l0 signal low part ∷ us b) off at0 at2 l0 l2
updates-more names n m signal low part off us at0 at1 at2 l0 l1 l2 k a u = record {
  longer = longer-then Nothing n m l0 l1 l2 a.longer u.longer;
  fits = u.fits;
  keeps = keeps-then names at0 at1 at2 a.keeps u.keeps;
  does = λ s b t sound st.
      let o = held b l0 off in
      let x = update_in b l0 signal low part in
      let f : State → State = λ v. record v { values = all_updated names.rows v.values (x ∷ []) } in
      let g : State → State = λ v. record v { values = all_updated names.rows v.values (us b) } in
      let t1 = on o (f t) t in
      subst (λ v. Stands names b l2 at2 (sample v))
      (ap (λ y. on y (g t1) t1) (held-stays b l0 l1 off (longer-grows Nothing n l0 l1 a.longer) k) ∙ both o f g t)
      (u.does s b t1 (a.longer.sound s tt sound) (a.does s b t sound st));
}

-- the same updates, said of other slots
pub updates-as : (names : Names) (n : ℕ) (us vs : BankData → List Update) (off : ℕ) (at at' : Env) (old new : ListData) → ((s : Shape) (b : BankData) → AreSound s old → us b ≡ vs b) →
    Updates names n us off at at' old new → Updates names n vs off at at' old new
updates-as names n us vs off at at' old new e u = record {
  longer = u.longer;
  fits = u.fits;
  keeps = u.keeps;
  does = λ s b t sound st.
      subst (λ xs. Stands names b new at' (sample (on (held b old off) (record t { values = all_updated names.rows t.values xs }) t))) (e s b sound) (u.does s b t sound st);
}

pub low-stays : (b : BankData) (old new : ListData) (low : Low) → Grows old new → IsLow old low → low_in b new low ≡ low_in b old low
low-stays b old new (Constant z) g h = refl
low-stays b old new (By index signed from) g h =
    ap (λ w. lowest_bit from (reading signed w (held b new index))) (width-stays old new index g h)
    ∙ ap (λ v. lowest_bit from (reading signed (width_at old index) v)) (held-stays b old new index g h)

-- an update whose slots were there
pub update-stays : (b : BankData) (old new : ListData) (signal : ℕ) (low : Low) (part : ℕ) → Grows old new → IsIn old part → IsLow old low → update_in b new signal low part ≡ update_in b old signal low part
update-stays b old new signal low part g k h =
    ap (λ z. record { signal = signal; word = 0; low = z; width = width_at new part; value = held b new part }) (low-stays b old new low g h)
    ∙ ap (λ w. record { signal = signal; word = 0; low = low_in b old low; width = w; value = held b new part }) (width-stays old new part g k)
    ∙ ap (λ v. record { signal = signal; word = 0; low = low_in b old low; width = width_at old part; value = v }) (held-stays b old new part g k)

-- ---- a blocking assignment

pub going : {A : Type 0} (b : Bool) (x y : A) → b ≡ false → (if b then x else y) ≡ y
going true x y e = let z : ⊥ = cc in absurd z
going false x y e = refl

pub does-set : (scope : Scope) (target : Target) (e : Exp) (n m : ℕ) (us : BankData → List Update) (off : ℕ) (at at' : Env) (l0 l1 l2 : ListData) → Fits scope.names l0 at → IsIn l0 off →
    Longer (HasMemories scope.names at) n l0 l1 → ((s : Shape) (b : BankData) (x : Sample) → AreSound s l0 → Stands scope.names b l0 at x → us b ≡ assignment scope x target e) →
    Updates scope.names m us off at at' l1 l2 → Does scope.names (n + m) (exec scope (Set target e)) off at at' l0 l2
does-set scope target e n m us off at at' l0 l1 l2 fits k longer same u =
    let names = scope.names in
    let H : Shape → Type 0 = HasMemories names at in
    let g = longer-grows H n l0 l1 longer in
    let set : State → State = λ t. record t { values = all_updated names.rows t.values (assignment scope (sample t) target e) } in
    record {
      longer = longer-then H n m l0 l1 l2 longer (longer-plain names at m m l1 l2 (omega arith) u.longer);
      fits = u.fits;
      keeps = u.keeps;
      alive = λ t h. ap (λ (v : State). v.finished) (going t.finished t (set t) h) ∙ h;
      does = λ s b t sound alive st.
          let behind = sound-behind names at n s l0 l1 longer sound in
          subst (λ v. Stands names b l2 at' (sample v))
          (ap (λ o. on o (record t { values = all_updated names.rows t.values (us b) }) t) (held-stays b l0 l1 off g k)
          ∙ ap (λ xs. on (held b l0 off) (record t { values = all_updated names.rows t.values xs }) t) (same s b (sample t) sound st)
          ∙ ap (λ v. on (held b l0 off) v t) (sym (going t.finished t (set t) alive)))
          (u.does behind.shape b t behind.sound (stands-stays names b l0 l1 at (sample t) g fits st));
    }
