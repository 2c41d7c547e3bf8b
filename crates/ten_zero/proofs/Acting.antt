-- Statements with their acts.
use Rattle.std.proofs.Common.{◌≡◌, ◌+◌, ℕ, Bool, true, false, List, refl, sym, ap, ◌∙◌}
use Rattle.std.specs.Prelude.{◌||◌, ◌&&◌, not, if◌then◌else◌}
use Rattle.vl_design.specs.vl_base.specs.declared.bits.UnOp.TheVariants.{LogNot}
use Rattle.vl_design.specs.Acts.{branch_of}
use Rattle.vl_design.specs.Exec.{exec, asks, is_true, holds, items_hold, counted_if}
use Rattle.vl_design.specs.Laws.{can_act, items_can_act, AreUnrolledItems, IsUnrolledStm}
use Rattle.vl_design.specs.Placed as p
use Rattle.vl_design.specs.Plainly as plain
use Rattle.vl_design.specs.Plainly.{called_first}
use Rattle.vl_design.specs.State.{State, counted, sample}
use Rattle.vl_design.specs.Syntax.{Exp, Stm, Nop, Then, If, Case, Sys, Items, Task}
use Rattle.vl_design.specs.Tasks.{called}
use Rattle.vl_design.specs.Width.{Scope}
use Rattle.vl_design.proofs.Resting.{case_done, exec_rests, done_counts, none_held}
use Rattle.vl_run.specs.declared.machine.Machine.{Machine}
use Rattle.vl_run.specs.Machines.{state_of, Does}
use Rattle.ten_zero.specs.Calls.{calls}
pub use Rattle.vl_design.specs.vl_base.proofs.Booleans.{or_false_right as or-none}
use Rattle.vl_design.specs.vl_base.proofs.Booleans.{or_assoc as or-more}

-- ---- acts of statements

pub first-acts : (path : List ℕ) (x : p.Exp) (a : Stm) → can_act a ≡ false → calls x ≡ can_act (called_first path x a)
first-acts path (p.Sys at name given) a h = refl
first-acts path (p.Un at LogNot (p.Sys q name given)) a h = refl
first-acts path x a h = sym h

pub choice-acts : (path : List ℕ) (x : p.Exp) (a b : Stm) → (asks (plain.exp x) || (can_act a || can_act b)) ≡ can_act (called_first path x (If (plain.exp x) a b))
choice-acts path (p.Sys at name given) a b = refl
choice-acts path (p.Un at LogNot (p.Sys q name given)) a b = refl
choice-acts path x a b = refl

-- one of two more, before the rest
pub one-more : (all one next rest whole : Bool) → next ≡ (all || one) → (all || (one || rest)) ≡ whole → (next || rest) ≡ whole
one-more all one next rest whole e h = ap (λ b. b || rest) e ∙ (or-more all one rest ∙ h)

pub item-acts : (es : p.Exps) (a : Stm) (others : Items) → items_can_act (plain.item es a others) ≡ (can_act a || items_can_act others)
item-acts p.NoExps a others = refl
item-acts (p.MoreExps e es) a others = refl

-- ---- one statement

module _ (scope : Scope) where
  -- what a statement does is known with the acts that it counts
  pub does-counting : (a : Stm) (m n : Machine) (c k : ℕ) → Does scope a m n → (exec scope a (state_of m c)).count ≡ k → exec scope a (state_of m c) ≡ state_of n k
  does-counting a m n c k h e =
      let x = h.leads c in
      let same : x.0 ≡ k = sym (ap (λ (s : State). s.count) x.1) ∙ e in
      x.1 ∙ ap (state_of n) same

  pub does-quietly : (a : Stm) (m n : Machine) (c : ℕ) → can_act a ≡ false → Does scope a m n → exec scope a (state_of m c) ≡ state_of n c
  does-quietly a m n c q h = does-counting a m n c c h (exec_rests scope a q (state_of m c)).count

  -- ---- calls

  pub sys-counts : (task : Task) (s : State) → s.finished ≡ false → (exec scope (Sys task) s).count ≡ s.count + 1
  sys-counts task s f = ap (λ (b : Bool). (if b then s else called scope task s).count) f ∙ ap (λ n. n + 1) (done_counts scope task s)

  -- a call that comes before a statement without acts
  behind-call : (task : Task) (a : Stm) (s : State) → can_act a ≡ false → s.finished ≡ false → (exec scope (Then (Sys task) a) s).count ≡ s.count + 1
  behind-call task a s q f = (exec_rests scope a q (exec scope (Sys task) s)).count ∙ sys-counts task s f

  pub first-counts : (path : List ℕ) (x : p.Exp) (a : Stm) (s : State) → can_act a ≡ false → calls x ≡ true → s.finished ≡ false →
      (exec scope (called_first path x a) s).count ≡ s.count + 1
  first-counts path (p.Sys at name given) a s q h f = behind-call _ a s q f
  first-counts path (p.Un at LogNot (p.Sys r name given)) a s q h f = behind-call _ a s q f
  first-counts path x a s q h f = let z : ⊥ = cc in absurd z

  pub first-rests : (path : List ℕ) (x : p.Exp) (s : State) → calls x ≡ false → exec scope (called_first path x Nop) s ≡ s
  first-rests path (p.Sys at name given) s h = let z : ⊥ = cc in absurd z
  first-rests path (p.Un at LogNot (p.Sys r name given)) s h = let z : ⊥ = cc in absurd z
  first-rests path x s h = refl

  -- it comes first
  pub first-then : (path : List ℕ) (x : p.Exp) (a : Stm) (s : State) → exec scope (called_first path x a) s ≡ exec scope a (exec scope (called_first path x Nop) s)
  first-then path (p.Sys at name given) a s = refl
  first-then path (p.Un at LogNot (p.Sys r name given)) a s = refl
  first-then path x a s = refl

  -- ---- choices

  held : (a : Stm) (s : State) → IsUnrolledStm a → can_act a ≡ true → (b : Bool) → holds scope s a ≡ b → b ≡ true
  held a s u h true e = refl
  held a s u h false e = sym (none_held scope a u s e) ∙ h

  items-held : (e : Exp) (items : Items) (s : State) → AreUnrolledItems items → items_can_act items ≡ true → items_hold scope s items ≡ true
  items-held e items s u h = held (Case e items) s u h (items_hold scope s items) refl

  if-held : (t : Exp) (a b : Stm) (s : State) → IsUnrolledStm a → IsUnrolledStm b → (asks t || (can_act a || can_act b)) ≡ true →
      holds scope s (If t a b) ≡ true
  if-held t a b s u v h = held (If t a b) s (u, v) h (holds scope s (If t a b)) refl

  counts : (b : Bool) (s : State) → b ≡ true → s.finished ≡ false → counted_if b s ≡ counted s
  counts b s h f =
      ap (λ (x : Bool). if x && not s.finished then counted s else s) h ∙ ap (λ (x : Bool). if not x then counted s else s) f

  module _ (t : Exp) (a b : Stm) (s : State) (u : IsUnrolledStm a) (v : IsUnrolledStm b) (h : (asks t || (can_act a || can_act b)) ≡ true) (f : s.finished ≡ false) where
    chosen : (w : Bool) → is_true scope t s ≡ w → exec scope (If t a b) s ≡ (if w then exec scope a (counted s) else exec scope b (counted s))
    chosen w e =
        let once = counts (holds scope s (If t a b)) s (if-held t a b s u v h) f in
        ap (λ (z : State). if is_true scope t s then exec scope a z else exec scope b z) once
        ∙ ap (λ (x : Bool). if x then exec scope a (counted s) else exec scope b (counted s)) e

    pub if-first : true ≡ is_true scope t s → exec scope (If t a b) s ≡ exec scope a (counted s)
    if-first e = chosen true (sym e)

    pub if-second : false ≡ is_true scope t s → exec scope (If t a b) s ≡ exec scope b (counted s)
    if-second e = chosen false (sym e)

  pub case-taken : (e : Exp) (items : Items) (b : Stm) (s : State) → AreUnrolledItems items → items_can_act items ≡ true → s.finished ≡ false →
      b ≡ branch_of scope (sample s) (Case e items) → exec scope (Case e items) s ≡ exec scope b (counted s)
  case-taken e items b s u h f same =
      let once = counts (items_hold scope s items) s (items-held e items s u h) f in
      case_done scope e items s ∙ ap (exec scope (branch_of scope (sample s) (Case e items))) once ∙ ap (λ (z : Stm). exec scope z (counted s)) (sym same)
