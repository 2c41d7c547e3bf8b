-- What leads from one machine to another.
use Rattle.std.proofs.Common.{◌≡◌, ℕ, zero, suc, ◌+◌, Bool, true, false, List, refl, sym, ap, ◌∙◌, subst, arith}
use Rattle.std.specs.Prelude.{if◌then◌else◌, slice_set, ◌==◌}
use Rattle.std.proofs.lemmas.Bool.Decides.{nat_tests}
use Rattle.std.specs.declared.alloc.Global.{Global}
use Rattle.std.specs.declared.vec.Vec.{Vec}
use Rattle.vl_design.specs.Syntax.{Exp, Stm, Nop, Then, If, Case, For, Items}
use Rattle.vl_design.specs.Width.{Scope}
use Rattle.vl_design.specs.Value.{own_value, words_of}
use Rattle.vl_design.specs.State.{State, counted}
use Rattle.vl_design.specs.Exec.{exec, is_true, goes_on, most_turns, turns, times, restored}
use Rattle.vl_design.specs.Acts.{branch_of}
use Rattle.vl_design.specs.Laws.{IsFine}
use Rattle.vl_design.proofs.Resting.{case_done}
use Rattle.vl_design.proofs.Ranging.{exec_in_range}
use Rattle.vl_design.proofs.Shaping.{exec_shape, shape_on}
use Rattle.vl_run.specs.declared.machine.Machine.{Machine}
use Rattle.vl_run.specs.Lists.{loop_turns}
use Rattle.vl_run.specs.Machines.{sample_in, state_of, Leads, Does}
use Rattle.vl_design.proofs.Shared.{stays}
pub use Rattle.vl_base.proofs.Numbers.{nonzero_false as not-zero}

pub leads-as : (f g : State → State) (m n : Machine) → ((s : State) → f s ≡ g s) → Leads g m n → Leads f m n
leads-as f g m n e h = record { leads = λ c. let x = h.leads c in (x.0, e (state_of m c) ∙ x.1) }

pub does-nop : (scope : Scope) (m : Machine) → Does scope Nop m m
does-nop scope m = record { leads = λ c. (c, refl) }

pub does-then : (scope : Scope) (a b : Stm) (m n o : Machine) → Does scope a m n → Does scope b n o → Does scope (Then a b) m o
does-then scope a b m n o h k = record { leads = λ c. let x = h.leads c in let y = k.leads x.0 in (y.0, ap (exec scope b) x.1 ∙ y.1) }

-- a choice of a branch counts, or doesn't
counted-or : (f : State → State) (m n : Machine) → Leads f m n → (held : Bool) (c : ℕ) → (c' : ℕ) × (f (if held then counted (state_of m c) else state_of m c) ≡ state_of n c')
counted-or f m n h true c = h.leads (c + 1)
counted-or f m n h false c = h.leads c

pub does-first : (scope : Scope) (t : Exp) (a b : Stm) (m n : Machine) → ¬ (own_value scope (sample_in m) t ≡ 0) → Does scope a m n → Does scope (If t a b) m n
does-first scope t a b m n e h = record {
  leads = λ c.
      let no = not-zero _ e in
      let test : is_true scope t (state_of m c) ≡ true = rw no refl in
      rw test (counted-or (exec scope a) m n h _ c);
}

pub does-second : (scope : Scope) (t : Exp) (a b : Stm) (m n : Machine) → own_value scope (sample_in m) t ≡ 0 → Does scope b m n → Does scope (If t a b) m n
does-second scope t a b m n e h = record {
  leads = λ c.
      let test : is_true scope t (state_of m c) ≡ false = rw e refl in
      rw test (counted-or (exec scope b) m n h _ c);
}

pub does-case : (scope : Scope) (e : Exp) (items : Items) (b : Stm) (m n : Machine) → b ≡ branch_of scope (sample_in m) (Case e items) → Does scope b m n → Does scope (Case e items) m n
does-case scope e items b m n r h =
    let branch = branch_of scope (sample_in m) (Case e items) in
    let k = subst (λ (z : Stm). Does scope z m n) r h in
    record {
      leads = λ c.
          let x = counted-or (exec scope branch) m n k _ c in
          (x.0, case_done scope e items (state_of m c) ∙ x.1);
    }

-- ---- loops

at-true : {S : Type 0} (b : Bool) (x y : S) → b ≡ true → (elim b [ true ↦ x | false ↦ y ]) ≡ x
at-true true x y h = refl
at-true false x y h = cc

at-false : {S : Type 0} (b : Bool) (x y : S) → b ≡ false → (elim b [ true ↦ x | false ↦ y ]) ≡ y
at-false true x y h = cc
at-false false x y h = refl

pub turns-over : (scope : Scope) (k n : ℕ) (start : Stm) (test : Exp) (step a : Stm) (m : Machine) → ((c : ℕ) → false ≡ goes_on scope test (state_of m c))
    → Leads (loop_turns scope n (For k start test step a)) m m
turns-over scope k n start test step a m h = record { leads = λ c. (c, stays n (goes_on scope test) (λ t. exec scope step (exec scope a t)) (state_of m c) (sym (h c))) }

pub turns-more : (scope : Scope) (k n : ℕ) (start : Stm) (test : Exp) (step a : Stm) (m l p o : Machine) → ((c : ℕ) → true ≡ goes_on scope test (state_of m c))
    → Does scope a m l → Does scope step l p → Leads (loop_turns scope n (For k start test step a)) p o → Leads (loop_turns scope (suc n) (For k start test step a)) m o
turns-more scope k n start test step a m l p o t h i j = record {
  leads = λ c.
      let x = h.leads c in
      let y = i.leads x.0 in
      let z = j.leads y.0 in
      let turn = ap (exec scope step) x.1 ∙ y.1 in
      let next = turns n (goes_on scope test) (λ t. exec scope step (exec scope a t)) (exec scope step (exec scope a (state_of m c))) in
      (z.0, at-true (goes_on scope test (state_of m c)) next (state_of m c) (sym (t c)) ∙ (ap (loop_turns scope n (For k start test step a)) turn ∙ z.1));
}

pub turns-none : (scope : Scope) (k : ℕ) (start : Stm) (test : Exp) (step a : Stm) (m : Machine) → Leads (loop_turns scope zero (For k start test step a)) m m
turns-none scope k start test step a m = record { leads = λ c. (c, refl) }

pub does-for : (scope : Scope) (k : ℕ) (start : Stm) (test : Exp) (step a : Stm) (m n o : Machine) (values : Vec (List ℕ) Global) → Does scope start m n
    → Leads (loop_turns scope most_turns (For k start test step a)) n o → values.items ≡ slice_set o.values.items k (words_of m.values.items k)
    → Does scope (For k start test step a) m (record o { values = values })
does-for scope k start test step a m n o values h t e = record {
  leads = λ c.
      let x = h.leads c in
      let y = t.leads x.0 in
      let back : restored k (state_of m c) (state_of o y.0) ≡ state_of (record o { values = values }) y.0 = rw e refl in
      (y.0, ap (restored k (state_of m c)) (ap (loop_turns scope most_turns (For k start test step a)) x.1 ∙ y.1) ∙ back);
}

pub times-more : (f : State → State) (n : ℕ) (m l o : Machine) → Leads f m l → Leads (times n f) l o → Leads (times (suc n) f) m o
times-more f n m l o h k = record { leads = λ c. let x = h.leads c in let y = k.leads x.0 in (y.0, ap (times n f) x.1 ∙ y.1) }

pub times-none : (f : State → State) (m : Machine) → Leads (times zero f) m m
times-none f m = record { leads = λ c. (c, refl) }

-- ---- values stay as the signals have them

pub does-fine : (scope : Scope) (a : Stm) (m n : Machine) → Does scope a m n → IsFine scope.names.rows m.values.items → IsFine scope.names.rows n.values.items
does-fine scope a m n h f =
    let x = h.leads 0 in
    let same : (exec scope a (state_of m 0)).values ≡ n.values.items = ap (λ s. s.values) x.1 in
    rw (← same) (record { range = exec_in_range scope a (state_of m 0) f.range; shape = shape_on (exec_shape scope a (state_of m 0)) f.shape })
