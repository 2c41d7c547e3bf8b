-- Cases (IEEE 1364-2005, clause 9.5).
use Rattle.std.proofs.Common.{◌≡◌, ℕ, ◌+◌, ◌*◌, ◌%◌, ◌^◌, ◌<◌, ◌≤◌, Bool, true, false, Option, Some, inl, inr, refl, sym, ap, ◌∙◌, arith, subst, mod-eq_of_lt}
use Rattle.std.specs.Prelude.{◌⊎◌, ◌==◌, ◌||◌, nat_eq, if◌then◌else◌, bit_and, bit_xor}
use Rattle.std.proofs.lemmas.Bool.{eqb-true, eq-eqb}
use Rattle.std.proofs.lemmas.Nat.{and_mod, and_le_l, and_le_r}
use Rattle.std.proofs.lemmas.Grind.{common_steps}
use Rattle.vl_sites.specs.vl_design.specs.declared.design.Form.{Form}
use Rattle.vl_sites.specs.vl_design.specs.Syntax.{Exp, Exps, NoExps, MoreExps, Stm, Case, Items, NoItems, Labelled, Default}
use Rattle.vl_sites.specs.vl_design.specs.Width.{Names, Scope, form}
use Rattle.vl_sites.specs.vl_design.specs.Value.{Sample, value}
use Rattle.vl_sites.specs.vl_design.specs.State.{State, sample}
use Rattle.vl_sites.specs.vl_design.specs.Exec.{exec, exec_items, exec_default, items_form, items_hold, label_matches, some_match, counted_if}
use Rattle.cell_form.specs.Data.{ListData, BankData}
use Rattle.cell_form.specs.Sound.{Shape}
use Rattle.cell_emit.specs.Slots.{held, width_at, IsIn, AreSound, Grows, Longer, Gives, Nothing}
use Rattle.cell_emit.proofs.Frames.{held-fits, held-stays, longer-grows, longer-same, longer-then, longer-weaken, met-nothing, gives-as, gives-behind}
use Rattle.cell_emit.specs.Differs.{differing, differing_count}
use Rattle.cell_emit.specs.Envs.{Env, IsSlot, HasMemories, Fits, Stands}
use Rattle.cell_emit.specs.Paths.{on, Does}
use Rattle.cell_emit.specs.Cases.{Compares, Went, Missed, Hit, Away, Tries}
use Rattle.cell_emit.proofs.Staying.{is-slot-stays, one-bit, stands-stays, sound-behind, keeps-same, keeps-then, longer-kept, longer-plain}
use Rattle.cell_emit.proofs.Walking.{on-alive}
use Rattle.cell_emit.proofs.Testing.{counted-sample, counted-alive}

-- ---- labels

and-cut : (x y w : ℕ) → x < 2 ^ w → bit_and x (y % 2 ^ w) ≡ bit_and x y
and-cut x y w h =
    let small : x % 2 ^ w ≡ x = mod-eq_of_lt h in
    let below = and_le_l x y in
    let less : bit_and x y < 2 ^ w = omega arith in
    ap (λ z. bit_and z (y % 2 ^ w)) (sym small) ∙ sym (and_mod x y w) ∙ mod-eq_of_lt less

-- two values are the same where no bit differs
pub xor-equal : (x y : ℕ) → (bit_xor x y == 0) ≡ (y == x)
xor-equal x y = of (nat_eq (bit_xor x y) 0) (nat_eq y x) refl refl
  where
    of : (a b : Bool) → nat_eq (bit_xor x y) 0 ≡ a → nat_eq y x ≡ b → a ≡ b
    of true true h k = refl
    of true false h k =
        let z = eqb-true (bit_xor x y) 0 h in
        let sum : bit_xor x y + bit_and x y * 2 ≡ x + y = grind (arith, common_steps) in
        let first = and_le_l x y in
        let second = and_le_r x y in
        let same : y ≡ x = omega arith in
        let t = eq-eqb y x same in
        cc
    of false true h k =
        let same = eqb-true y x k in
        let none : bit_xor x y ≡ 0 = rw same (grind (arith, common_steps)) in
        let t = eq-eqb (bit_xor x y) 0 none in
        cc
    of false false h k = refl

-- the bits that are given, of those that differ
pub gives-cared : (all bits mask r w : ℕ) (l0 l1 l2 : ListData) → IsSlot l0 all w → Gives Nothing 1 l0 l1 mask w (λ b. bits % 2 ^ w) →
    Gives Nothing 1 l1 l2 r (width_at l1 all) (λ b. bit_and (held b l1 all) (held b l1 mask)) → Gives Nothing 2 l0 l2 r w (λ b. bit_and (held b l0 all) bits)
gives-cared all bits mask r w l0 l1 l2 slot gm ga =
    let g = longer-grows Nothing 1 l0 l1 gm.longer in
    let there = is-slot-stays l0 l1 all w g slot in
    gives-as Nothing 2 l0 l2 r (width_at l1 all) w (λ b. bit_and (held b l1 all) (held b l1 mask)) (λ b. bit_and (held b l0 all) bits) there.width
    (λ s b sound.
    let small : held b l0 all < 2 ^ w = subst (λ v. held b l0 all < 2 ^ v) slot.width (held-fits s b l0 all sound slot.there) in
    ap (λ v. bit_and v (held b l1 mask)) (held-stays b l0 l1 all g slot.there) ∙ ap (bit_and (held b l0 all)) (gm.value s b sound) ∙ and-cut (held b l0 all) bits w small)
    (gives-behind Nothing 1 1 l0 l1 l2 r (width_at l1 all) (λ b. bit_and (held b l1 all) (held b l1 mask)) met-nothing gm.longer ga)

pub gives-differing : (subject label bits all r w : ℕ) (care : Option ℕ) (l0 l1 l2 : ListData) → care ≡ Some bits → w ≡ width_at l0 subject →
    Gives Nothing 1 l0 l1 all (width_at l0 subject) (λ b. bit_xor (held b l0 subject) (held b l0 label)) → Gives Nothing 2 l1 l2 r w (λ b. bit_and (held b l1 all) bits) →
    Gives Nothing (differing_count care) l0 l2 r (width_at l0 subject) (λ b. differing care (held b l0 subject) (held b l0 label))
gives-differing subject label bits all r w care l0 l1 l2 e ew ga gr =
    subst (λ n. Gives Nothing n l0 l2 r (width_at l0 subject) (λ b. differing care (held b l0 subject) (held b l0 label))) (sym (ap differing_count e))
    (gives-as Nothing 3 l0 l2 r w (width_at l0 subject) (λ b. bit_and (held b l1 all) bits) (λ b. differing care (held b l0 subject) (held b l0 label)) ew
    (λ s b sound. ap (λ v. bit_and v bits) (ga.value s b sound) ∙ ap (λ c. differing c (held b l0 subject) (held b l0 label)) (sym e))
    (gives-behind Nothing 1 2 l0 l1 l2 r w (λ b. bit_and (held b l1 all) bits) met-nothing ga.longer gr))

pub compares-none : (names : Names) (scope : Scope) (c : Form) (subject rest : ℕ) (at : Env) (l : ListData) → IsSlot l rest 1 → Compares names 0 scope c subject NoExps rest rest at l l
compares-none names scope c subject rest at l slot = record { longer = longer-same (HasMemories names at) l; slot = slot; value = λ s b x sound st. refl }

either : (m k : Bool) (r : ℕ) → (if k then 1 else (if m then 1 else r)) ≡ (if m || k then 1 else r)
either true true r = refl
either true false r = refl
either false true r = refl
either false false r = refl

pub compares-more : (names : Names) (scope : Scope) (c : Form) (n m subject differs before left behind : ℕ) (e : Exp) (es : Exps) (at : Env) (l0 l1 l2 l3 : ListData) → Fits names l0 at → IsIn l0 subject → IsIn l0 before →
    Longer (HasMemories names at) n l0 l1 → IsIn l1 differs →
    ((s : Shape) (b : BankData) (x : Sample) → AreSound s l0 → Stands names b l0 at x → (held b l1 differs == 0) ≡ label_matches scope x c (held b l0 subject) e) →
    Gives Nothing 1 l1 l2 left 1 (λ b. if held b l1 differs == 0 then 1 else held b l1 before) → Compares names m scope c subject es left behind at l2 l3 →
    Compares names (n + 1 + m) scope c subject (MoreExps e es) before behind at l0 l3
compares-more names scope c n m subject differs before left behind e es at l0 l1 l2 l3 fits ks kb longer there is g more =
    let H : Shape → Type 0 = HasMemories names at in
    let l02 = longer-then H n 1 l0 l1 l2 longer (longer-plain names at 1 1 l1 l2 (omega arith) g.longer) in
    let g01 = longer-grows H n l0 l1 longer in
    let g02 = longer-grows H (n + 1) l0 l2 l02 in
    record {
      longer = longer-then H (n + 1) m l0 l2 l3 l02 more.longer;
      slot = more.slot;
      value = λ s b x sound st.
          let v = held b l0 subject in
          let r = held b l0 before in
          let sound1 = sound-behind names at n s l0 l1 longer sound in
          let sound2 = sound-behind names at (n + 1) s l0 l2 l02 sound in
          let left_is : held b l2 left ≡ (if label_matches scope x c v e then 1 else r) =
          g.value sound1.shape b sound1.sound ∙ ap (λ t. if t then 1 else held b l1 before) (is s b x sound st)
          ∙ ap (λ z. if label_matches scope x c v e then 1 else z) (held-stays b l0 l1 before g01 kb) in
          more.value sound2.shape b x sound2.sound (stands-stays names b l0 l2 at x g02 fits st)
          ∙ ap (λ z. if some_match scope x c z es then 1 else held b l2 left) (held-stays b l0 l2 subject g02 ks)
          ∙ ap (λ z. if some_match scope x c v es then 1 else z) left_is ∙ either (label_matches scope x c v e) (some_match scope x c v es) r;
    }

-- ---- items

pub tries-none : (names : Names) (scope : Scope) (c : Form) (subject rest : ℕ) (at : Env) (l : ListData) → Fits names l at → IsSlot l rest 1 → Tries names 0 scope c subject NoItems rest rest at at l l
tries-none names scope c subject rest at l fits slot = record {
  longer = longer-same (HasMemories names at) l;
  fits = fits;
  keeps = keeps-same names at;
  slot = slot;
  alive = λ v d t h k. h;
  went = λ s b t sound alive st. of s b t st (one-bit s b l rest sound slot);
}
  where
    of : (s : Shape) (b : BankData) (t : State) → Stands names b l at (sample t) → (held b l rest ≡ 0) ⊎ (held b l rest ≡ 1) → Went scope c (held b l subject) NoItems (held b l rest) (held b l rest) (λ u. Stands names b l at (sample u)) t
    of s b t st (inl h) = Missed h h (λ d. refl) st
    of s b t st (inr h) = Away h h st

pub went-default : (scope : Scope) (c : Form) (v : ℕ) (a : Stm) (others : Items) (o behind : ℕ) (R : State → Type 0) (t : State) → Went scope c v others o behind R t → Went scope c v (Default a others) o behind R t
went-default scope c v a others o behind R t (Missed x y z st) = Missed x y z st
went-default scope c v a others o behind R t (Hit u x y z k st) = Hit u x y z k st
went-default scope c v a others o behind R t (Away x y st) = Away x y st

pub tries-default : (names : Names) (n : ℕ) (scope : Scope) (c : Form) (subject : ℕ) (a : Stm) (others : Items) (before behind : ℕ) (at at' : Env) (old new : ListData) →
    Tries names n scope c subject others before behind at at' old new → Tries names n scope c subject (Default a others) before behind at at' old new
tries-default names n scope c subject a others before behind at at' old new t = record {
  longer = t.longer;
  fits = t.fits;
  keeps = t.keeps;
  slot = t.slot;
  alive = t.alive;
  went = λ s b u sound alive st. went-default scope c (held b old subject) a others (held b old before) (held b new behind) (λ x. Stands names b new at' (sample x)) u (t.went s b u sound alive st);
}

-- an item whose labels match or not, on a path that is taken or not
pub went-item : (scope : Scope) (c : Form) (v : ℕ) (es : Exps) (a : Stm) (others : Items) (o behind : ℕ) (R : State → Type 0) (t : State) (m : Bool) → some_match scope (sample t) c v es ≡ m → t.finished ≡ false →
    (exec scope a t).finished ≡ false → (o ≡ 0) ⊎ (o ≡ 1) →
    Went scope c v others (if m then 1 else o) behind R (on (if (if m then 1 else o) == 0 then 1 else o) (exec scope a t) t) →
    Went scope c v (Labelled es a others) o behind R t
went-item scope c v es a others o behind R t true e alive after (inl h) (Missed x y z st) = absurd (omega arith)
went-item scope c v es a others o behind R t true e alive after (inl h) (Hit u x y z k st) = absurd (omega arith)
went-item scope c v es a others o behind R t true e alive after (inl h) (Away x y st) = Hit (exec scope a t) h y (λ d. rw e refl) after (subst (λ z. R (on z (exec scope a t) t)) h st)
went-item scope c v es a others o behind R t true e alive after (inr h) (Missed x y z st) = absurd (omega arith)
went-item scope c v es a others o behind R t true e alive after (inr h) (Hit u x y z k st) = absurd (omega arith)
went-item scope c v es a others o behind R t true e alive after (inr h) (Away x y st) = Away h y (subst (λ z. R (on z (exec scope a t) t)) h st)
went-item scope c v es a others o behind R t false e alive after (inl h) w = passed w
  where
    stays : (on (if o == 0 then 1 else o) (exec scope a t) t) ≡ t
    stays = rw h refl

    passed : Went scope c v others o behind R (on (if o == 0 then 1 else o) (exec scope a t) t) → Went scope c v (Labelled es a others) o behind R t
    passed (Missed x y z st) = Missed h y (λ d. rw e (subst (λ u. exec_items scope v c others d u ≡ d) stays (z d))) (subst R stays st)
    passed (Hit u x y z k st) = Hit u h y (λ d. rw e (subst (λ s. exec_items scope v c others d s ≡ u) stays (z d))) k st
    passed (Away x y st) = absurd (omega arith)
went-item scope c v es a others o behind R t false e alive after (inr h) w = passed w
  where
    stays : (on (if o == 0 then 1 else o) (exec scope a t) t) ≡ t
    stays = rw h refl

    passed : Went scope c v others o behind R (on (if o == 0 then 1 else o) (exec scope a t) t) → Went scope c v (Labelled es a others) o behind R t
    passed (Missed x y z st) = absurd (omega arith)
    passed (Hit u x y z k st) = absurd (omega arith)
    passed (Away x y st) = Away h y (subst R stays st)

-- the path of an item whose labels match or not
pub taken-path : (b : BankData) (s : Shape) (before left taken : ℕ) (match : Bool) (l0 l1 l2 : ListData) → Grows l0 l1 → IsIn l0 before → AreSound s l1 → held b l1 left ≡ (if match then 1 else held b l0 before) →
    Gives Nothing 1 l1 l2 taken 1 (λ b. if held b l1 left == 0 then 1 else held b l1 before) → held b l2 taken ≡ (if (if match then 1 else held b l0 before) == 0 then 1 else held b l0 before)
taken-path b s before left taken match l0 l1 l2 g k sound is gives =
    gives.value s b sound ∙ ap (λ z. if z == 0 then 1 else held b l1 before) is
    ∙ ap (λ z. if (if match then 1 else held b l0 before) == 0 then 1 else z) (held-stays b l0 l1 before g k)

pub tries-labelled : (names : Names) (scope : Scope) (c : Form) (n0 n m subject before left taken behind : ℕ) (es : Exps) (a : Stm) (others : Items) (at0 at1 at2 : Env) (l0 l1 l2 l3 l4 : ListData) → Fits names l0 at0 → IsIn l0 subject → IsSlot l0 before 1 →
    Compares names n0 scope c subject es before left at0 l0 l1 → Gives Nothing 1 l1 l2 taken 1 (λ b. if held b l1 left == 0 then 1 else held b l1 before) →
    Does names n (exec scope a) taken at0 at1 l2 l3 → Tries names m scope c subject others left behind at1 at2 l3 l4 →
    Tries names (n0 + 1 + (n + m)) scope c subject (Labelled es a others) before behind at0 at2 l0 l4
tries-labelled names scope c n0 n m subject before left taken behind es a others at0 at1 at2 l0 l1 l2 l3 l4 fits ks slot labels g d more =
    let H : Shape → Type 0 = HasMemories names at0 in
    let l02 = longer-then H n0 1 l0 l1 l2 labels.longer (longer-plain names at0 1 1 l1 l2 (omega arith) g.longer) in
    let l24 = longer-then H n m l2 l3 l4 d.longer (longer-kept names m at0 at1 l3 l4 d.keeps more.longer) in
    let l03 = longer-then H (n0 + 1) n l0 l2 l3 l02 d.longer in
    let l13 = longer-then H 1 n l1 l2 l3 (longer-plain names at0 1 1 l1 l2 (omega arith) g.longer) d.longer in
    record {
      longer = longer-then H (n0 + 1) (n + m) l0 l2 l4 l02 l24;
      fits = more.fits;
      keeps = keeps-then names at0 at1 at2 d.keeps more.keeps;
      slot = more.slot;
      alive = λ v u t h k. chosen (some_match scope (sample t) c v es) (exec scope a t) (exec_items scope v c others u t) (d.alive t k) (more.alive v u t h k);
      went = λ s b t sound alive st.
          let v = held b l0 subject in
          let o = held b l0 before in
          let match = some_match scope (sample t) c v es in
          let sound1 = sound-behind names at0 n0 s l0 l1 labels.longer sound in
          let sound2 = sound-behind names at0 (n0 + 1) s l0 l2 l02 sound in
          let sound3 = sound-behind names at0 n sound2.shape l2 l3 d.longer sound2.sound in
          let st2 = stands-stays names b l0 l2 at0 (sample t) (longer-grows H (n0 + 1) l0 l2 l02) fits st in
          let left_is : held b l1 left ≡ (if match then 1 else o) = labels.value s b (sample t) sound st in
          let taken_is = taken-path b sound1.shape before left taken match l0 l1 l2 (longer-grows H n0 l0 l1 labels.longer) slot.there sound1.sound left_is g in
          let left3 = held-stays b l1 l3 left (longer-grows H (1 + n) l1 l3 l13) labels.slot.there ∙ left_is in
          let subject3 = held-stays b l0 l3 subject (longer-grows H (n0 + 1 + n) l0 l3 l03) ks in
          let t1 = on (held b l2 taken) (exec scope a t) t in
          let after = d.alive t alive in
          let w = more.went sound3.shape b t1 sound3.sound (on-alive (held b l2 taken) (exec scope a t) t after alive) (d.does sound2.shape b t sound2.sound alive st2) in
          let R : State → Type 0 = λ u. Stands names b l4 at2 (sample u) in
          went-item scope c v es a others o (held b l4 behind) R t match refl alive after (one-bit s b l0 before sound slot)
          (subst (λ z. Went scope c v others (if match then 1 else o) (held b l4 behind) R (on z (exec scope a t) t)) taken_is
          (subst (λ z. Went scope c v others z (held b l4 behind) R t1) left3
          (subst (λ z. Went scope c z others (held b l3 left) (held b l4 behind) R t1) subject3 w)));
    }
  where
    chosen : (z : Bool) (u v : State) → u.finished ≡ false → v.finished ≡ false → (if z then u else v).finished ≡ false
    chosen true u v h i = h
    chosen false u v h i = i

-- ---- the whole case: the default is executed on the path behind the items, wherever it stands

pub went-on : (scope : Scope) (c : Form) (v : ℕ) (items : Items) (o behind : ℕ) (R S : State → Type 0) (t' t u : State) → (S t' → S t) → t'.finished ≡ false → u ≡ exec_default scope items t' →
    ((s : State) → s.finished ≡ false → R s → S (on behind (exec_default scope items s) s)) → Went scope c v items o behind R t' → S (on o (exec_items scope v c items u t') t)
went-on scope c v items o behind R S t' t u back alive e does (Missed x y z st) =
    subst S (ap (λ r. on r (exec_default scope items t') t') y ∙ sym e ∙ sym (z u) ∙ sym (ap (λ r. on r (exec_items scope v c items u t') t) x)) (does t' alive st)
went-on scope c v items o behind R S t' t u back alive e does (Hit s x y z k st) =
    subst S (ap (λ r. on r (exec_default scope items s) s) y ∙ sym (z u) ∙ sym (ap (λ r. on r (exec_items scope v c items u t') t) x)) (does s k st)
went-on scope c v items o behind R S t' t u back alive e does (Away x y st) =
    subst S (sym (ap (λ r. on r (exec_items scope v c items u t') t) x)) (back (subst S (ap (λ r. on r (exec_default scope items t') t') y) (does t' alive st)))

pub does-case : (scope : Scope) (e : Exp) (items : Items) (n0 n m off subject behind : ℕ) (at0 at1 at2 : Env) (l0 l1 l2 l3 : ListData) → Fits scope.names l0 at0 → IsIn l0 off →
    Longer (HasMemories scope.names at0) n0 l0 l1 → ((s : Shape) (b : BankData) (x : Sample) → AreSound s l0 → Stands scope.names b l0 at0 x → held b l1 subject ≡ value scope x e (items_form scope.names (form scope.names e) items)) →
    Tries scope.names n scope (items_form scope.names (form scope.names e) items) subject items off behind at0 at1 l1 l2 → Does scope.names m (exec_default scope items) behind at1 at2 l2 l3 →
    Does scope.names (n0 + (n + m)) (exec scope (Case e items)) off at0 at2 l0 l3
does-case scope e items n0 n m off subject behind at0 at1 at2 l0 l1 l2 l3 fits k longer is tries d =
    let names = scope.names in
    let H : Shape → Type 0 = HasMemories names at0 in
    let c = items_form names (form names e) items in
    let l02 = longer-then H n0 n l0 l1 l2 longer tries.longer in
    let l13 = longer-then H n m l1 l2 l3 tries.longer (longer-kept names m at0 at1 l2 l3 tries.keeps d.longer) in
    let g01 = longer-grows H n0 l0 l1 longer in
    record {
      longer = longer-then H n0 (n + m) l0 l1 l3 longer l13;
      fits = d.fits;
      keeps = keeps-then names at0 at1 at2 tries.keeps d.keeps;
      alive = λ t h.
          let t' = counted_if (items_hold scope t items) t in
          let h' = counted-alive (items_hold scope t items) t h in
          tries.alive (value scope (sample t) e c) (exec_default scope items t') t' (d.alive t' h') h';
      does = λ s b t sound alive st.
          let t' = counted_if (items_hold scope t items) t in
          let same = counted-sample (items_hold scope t items) t in
          let alive' = counted-alive (items_hold scope t items) t alive in
          let v = value scope (sample t) e c in
          let sound1 = sound-behind names at0 n0 s l0 l1 longer sound in
          let sound2 = sound-behind names at0 (n0 + n) s l0 l2 l02 sound in
          let st1 = subst (Stands names b l1 at0) (sym same) (stands-stays names b l0 l1 at0 (sample t) g01 fits st) in
          let w = tries.went sound1.shape b t' sound1.sound alive' st1 in
          let R : State → Type 0 = λ u. Stands names b l2 at1 (sample u) in
          let S : State → Type 0 = λ u. Stands names b l3 at2 (sample u) in
          went-on scope c v items (held b l0 off) (held b l2 behind) R S t' t (exec_default scope items t') (λ z. subst (Stands names b l3 at2) same z) alive' refl (λ u h i. d.does sound2.shape b u sound2.sound h i)
          (subst (λ z. Went scope c v items z (held b l2 behind) R t') (held-stays b l0 l1 off g01 k)
          (subst (λ z. Went scope c z items (held b l1 off) (held b l2 behind) R t') (is s b (sample t) sound st) w));
    }
