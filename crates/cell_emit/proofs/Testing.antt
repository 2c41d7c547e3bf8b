-- Tests (IEEE 1364-2005, clause 9.4).
use Rattle.std.proofs.Common.{◌≡◌, ℕ, ◌+◌, Bool, true, false, refl, sym, ap, ◌∙◌, arith, subst}
use Rattle.std.specs.Prelude.{not, ◌&&◌, ◌||◌, ◌==◌, if◌then◌else◌}
use Rattle.vl_sites.specs.vl_design.specs.Syntax.{Exp, Stm, If}
use Rattle.vl_sites.specs.vl_design.specs.Width.{Scope}
use Rattle.vl_sites.specs.vl_design.specs.Value.{Sample, own_value}
use Rattle.vl_sites.specs.vl_design.specs.State.{State, sample, counted}
use Rattle.vl_sites.specs.vl_design.specs.Exec.{exec, holds, asks, counted_if}
use Rattle.cell_form.specs.Data.{ListData, BankData}
use Rattle.cell_form.specs.Sound.{Shape}
use Rattle.cell_emit.specs.Slots.{held, IsIn, AreSound, Grows, Longer, Gives, Nothing}
use Rattle.cell_emit.proofs.Frames.{held-stays, longer-grows, longer-then, met-nothing, gives-as, gives-behind}
use Rattle.cell_emit.specs.Envs.{Env, HasMemories, Fits, Stands}
use Rattle.cell_emit.specs.Paths.{on, Does}
use Rattle.cell_emit.proofs.Staying.{stands-stays, sound-behind, keeps-then, longer-kept, longer-plain}
use Rattle.cell_emit.proofs.Walking.{on-alive}

-- what is counted isn't read
pub counted-sample : (held : Bool) (t : State) → sample (counted_if held t) ≡ sample t
counted-sample held t = of (held && not t.finished)
  where
    of : (b : Bool) → sample (if b then counted t else t) ≡ sample t
    of true = refl
    of false = refl

pub counted-alive : (held : Bool) (t : State) → t.finished ≡ false → (counted_if held t).finished ≡ false
counted-alive held t h = of (held && not t.finished)
  where
    of : (b : Bool) → (if b then counted t else t).finished ≡ false
    of true = h
    of false = h

-- on a path the first branch, then on the other the second: what is read of the state
pub split : {A : Type 0} (read : State → A) (z : Bool) (o : ℕ) (f g : State → State) (t' t : State) → read t' ≡ read t →
    read (on (if z then o else 1) (g (on (if z then 1 else o) (f t') t')) (on (if z then 1 else o) (f t') t')) ≡ read (on o (if not z then f t' else g t') t)
split read z o f g t' t e = of z (o == 0) refl
  where
    of : (z c : Bool) → (o == 0) ≡ c → read (on (if z then o else 1) (g (on (if z then 1 else o) (f t') t')) (on (if z then 1 else o) (f t') t')) ≡ read (if (o == 0) then (if not z then f t' else g t') else t)
    of true true h = rw h refl
    of true false h = rw h e
    of false true h = rw h refl
    of false false h = rw h e

-- the first path, where the test's slot holds v
pub first-path : (b : BankData) (s : Shape) (off test first v : ℕ) (l0 l1 l2 : ListData) → Grows l0 l1 → IsIn l0 off → AreSound s l1 → held b l1 test ≡ v →
    Gives Nothing 2 l1 l2 first 1 (λ b. if held b l1 test == 0 then 1 else held b l1 off) → held b l2 first ≡ (if v == 0 then 1 else held b l0 off)
first-path b s off test first v l0 l1 l2 g k sound is gives = gives.value s b sound ∙ ap (λ z. if z == 0 then 1 else held b l1 off) is ∙ ap (λ z. if v == 0 then 1 else z) (held-stays b l0 l1 off g k)

-- the second one, behind the first branch
pub second-path : (b : BankData) (s : Shape) (off test second v : ℕ) (l0 l1 l2 l3 : ListData) → Grows l0 l1 → Grows l2 l3 → IsIn l0 off → AreSound s l1 → held b l1 test ≡ v →
    Gives Nothing 2 l1 l2 second 1 (λ b. if held b l1 test == 0 then held b l1 off else 1) → held b l3 second ≡ (if v == 0 then held b l0 off else 1)
second-path b s off test second v l0 l1 l2 l3 g h k sound is gives =
    held-stays b l2 l3 second h gives.there ∙ gives.value s b sound ∙ ap (λ z. if z == 0 then held b l1 off else 1) is ∙ ap (λ z. if v == 0 then z else 1) (held-stays b l0 l1 off g k)

pub does-if : (scope : Scope) (e : Exp) (x y : Stm) (n0 n m off test first second : ℕ) (at0 at1 at2 : Env) (l0 l1 l2 l3 l4 : ListData) → Fits scope.names l0 at0 → IsIn l0 off →
    Longer (HasMemories scope.names at0) n0 l0 l1 → IsIn l1 test → ((s : Shape) (b : BankData) (u : Sample) → AreSound s l0 → Stands scope.names b l0 at0 u → held b l1 test ≡ own_value scope u e) →
    Gives Nothing 2 l1 l2 first 1 (λ b. if held b l1 test == 0 then 1 else held b l1 off) → Gives Nothing 2 l1 l2 second 1 (λ b. if held b l1 test == 0 then held b l1 off else 1) →
    Does scope.names n (exec scope x) first at0 at1 l2 l3 → Does scope.names m (exec scope y) second at1 at2 l3 l4 → Does scope.names (n0 + 2 + (n + m)) (exec scope (If e x y)) off at0 at2 l0 l4
does-if scope e x y n0 n m off test first second at0 at1 at2 l0 l1 l2 l3 l4 fits k longer there is ga gb a b =
    let names = scope.names in
    let H : Shape → Type 0 = HasMemories names at0 in
    let l02 = longer-then H n0 2 l0 l1 l2 longer (longer-plain names at0 2 2 l1 l2 (omega arith) ga.longer) in
    let l24 = longer-then H n m l2 l3 l4 a.longer (longer-kept names m at0 at1 l3 l4 a.keeps b.longer) in
    let counting : State → Bool = λ t. asks e || (holds scope t x || holds scope t y) in
    let f = exec scope x in
    let g = exec scope y in
    record {
      longer = longer-then H (n0 + 2) (n + m) l0 l2 l4 l02 l24;
      fits = b.fits;
      keeps = keeps-then names at0 at1 at2 a.keeps b.keeps;
      alive = λ t h.
          let t' = counted_if (counting t) t in
          let h' = counted-alive (counting t) t h in
          chosen (not (own_value scope (sample t) e == 0)) (f t') (g t') (a.alive t' h') (b.alive t' h');
      does = λ s w t sound alive st.
          let t' = counted_if (counting t) t in
          let same = counted-sample (counting t) t in
          let alive' = counted-alive (counting t) t alive in
          let v = own_value scope (sample t) e in
          let o = held w l0 off in
          let test_is = is s w (sample t) sound st in
          let sound1 = sound-behind names at0 n0 s l0 l1 longer sound in
          let sound2 = sound-behind names at0 (n0 + 2) s l0 l2 l02 sound in
          let sound3 = sound-behind names at0 n sound2.shape l2 l3 a.longer sound2.sound in
          let st2 = subst (Stands names w l2 at0) (sym same) (stands-stays names w l0 l2 at0 (sample t) (longer-grows H (n0 + 2) l0 l2 l02) fits st) in
          let g01 = longer-grows H n0 l0 l1 longer in
          let first_is = first-path w sound1.shape off test first v l0 l1 l2 g01 k sound1.sound test_is ga in
          let second_is = second-path w sound1.shape off test second v l0 l1 l2 l3 g01 (longer-grows H n l2 l3 a.longer) k sound1.sound test_is gb in
          let t1 = on (held w l2 first) (f t') t' in
          let alive1 = on-alive (held w l2 first) (f t') t' (a.alive t' alive') alive' in
          subst (Stands names w l4 at2)
          (ap (λ z. sample (on (held w l3 second) (g (on z (f t') t')) (on z (f t') t'))) first_is
          ∙ ap (λ z. sample (on z (g (on (if v == 0 then 1 else o) (f t') t')) (on (if v == 0 then 1 else o) (f t') t'))) second_is
          ∙ split sample (v == 0) o f g t' t same)
          (b.does sound3.shape w t1 sound3.sound alive1 (a.does sound2.shape w t' sound2.sound alive' st2));
    }
  where
    chosen : (c : Bool) (u v : State) → u.finished ≡ false → v.finished ≡ false → (if c then u else v).finished ≡ false
    chosen true u v h i = h
    chosen false u v h i = i

-- the second path, behind the first one's cell
pub gives-second : (test off first second : ℕ) (f : BankData → ℕ) (l0 l1 l2 : ListData) → IsIn l0 test → IsIn l0 off → Gives Nothing 1 l0 l1 first 1 f →
    Gives Nothing 1 l1 l2 second 1 (λ b. if held b l1 test == 0 then held b l1 off else 1) → Gives Nothing 2 l0 l2 second 1 (λ b. if held b l0 test == 0 then held b l0 off else 1)
gives-second test off first second f l0 l1 l2 kt ko ga gb =
    let g = longer-grows Nothing 1 l0 l1 ga.longer in
    gives-as Nothing 2 l0 l2 second 1 1 (λ b. if held b l1 test == 0 then held b l1 off else 1) (λ b. if held b l0 test == 0 then held b l0 off else 1) refl
    (λ s b sound. ap (λ z. if z == 0 then held b l1 off else 1) (held-stays b l0 l1 test g kt) ∙ ap (λ z. if held b l0 test == 0 then z else 1) (held-stays b l0 l1 off g ko))
    (gives-behind Nothing 1 1 l0 l1 l2 second 1 (λ b. if held b l1 test == 0 then held b l1 off else 1) met-nothing ga.longer gb)
