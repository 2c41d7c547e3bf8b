-- A pass over processes leads from machine to machine.
use Rattle.std.proofs.Common.{◌≡◌, ℕ, true, false, List, [], ◌∷◌, refl, sym, ap, ◌∙◌, subst}
use Rattle.std.specs.Prelude.{if◌then◌else◌}
use Rattle.vl_eval.specs.vl_base.specs.declared.files.File.{File}
use Rattle.vl_eval.specs.vl_design.specs.Syntax.{Flat}
use Rattle.vl_eval.specs.vl_design.specs.State.{State}
use Rattle.vl_eval.specs.vl_design.specs.Exec.{exec}
use Rattle.vl_eval.specs.vl_design.specs.Functions.{scope_of}
use Rattle.vl_eval.specs.vl_design.specs.Queue.{proc_at}
use Rattle.vl_runs.specs.vl_paths.proofs.Untouched.{frame}
use Rattle.vl_run.specs.declared.machine.Machine.{Machine}
use Rattle.vl_run.specs.Machines.{state_of, Does}
use Rattle.vl_runs.specs.Nets.{pass}
use Rattle.vl_runs.specs.NetsOfSettle.{is_memory, comb_at, run}
use Rattle.vl_runs.specs.Checked.{IsChecked}
use Rattle.plain_run.specs.Runs.{Passes}

-- all of a machine stays the same but its values
abbrev pub with-values : Machine → ℕ → List (List ℕ) → State
with-values m c values = record (state_of m c) { values = values }

module _ (d : Flat) (files : List File) where
  -- ---- one evaluation

  ran : (s : State) (i : ℕ) (v : List (List ℕ)) → comb_at d i ≡ true → run d files s i v ≡ (exec (scope_of d files) (proc_at d i).body (record s { values = v })).values
  ran s i v h = ap (λ b. if b then (exec (scope_of d files) (proc_at d i).body (record s { values = v })).values else v) h

  kept : (s : State) (i : ℕ) (v : List (List ℕ)) → comb_at d i ≡ false → run d files s i v ≡ v
  kept s i v h = ap (λ b. if b then (exec (scope_of d files) (proc_at d i).body (record s { values = v })).values else v) h

  pub evaluated : (i : ℕ) (m n : Machine) → IsChecked d → comb_at d i ≡ true → Does (scope_of d files) (proc_at d i).body m n → Passes d files (i ∷ []) m n
  evaluated i m n checked h does = λ c.
      let after : State = exec (scope_of d files) (proc_at d i).body (state_of m c) in
      let y = does.leads c in
      let framed : after ≡ with-values m c after.values = frame (is_memory d.rows) (scope_of d files) (proc_at d i).body (checked.nets i h) (checked.quiet i h) (state_of m c) in
      let there : state_of n y.0 ≡ with-values m c after.values = sym y.1 ∙ framed in
      let same : y.0 ≡ c = ap (λ s. s.count) there in
      let here : state_of n c ≡ with-values m c after.values = subst (λ k. state_of n k ≡ with-values m c after.values) same there in
      here ∙ ap {A = List (List ℕ)} {B = State} (λ v. with-values m c v) (sym (ran (state_of m c) i m.values.items h))

  pub skipped : (i : ℕ) (m : Machine) → comb_at d i ≡ false → Passes d files (i ∷ []) m m
  skipped i m h = λ c. ap {A = List (List ℕ)} {B = State} (λ v. with-values m c v) (sym (kept (state_of m c) i m.values.items h))

  -- ---- so far in a pass, where these processes are left

  pub record Passed (order left : List ℕ) (m n : Machine) : Type 0 where
    pub others : (c : ℕ) → state_of n c ≡ with-values m c n.values.items
    pub rest : (c : ℕ) → pass (run d files (state_of m c)) left n.values.items ≡ pass (run d files (state_of m c)) order m.values.items

  pub passed-none : (order : List ℕ) (m : Machine) → Passed order order m m
  passed-none order m = record { others = λ c. refl; rest = λ c. refl }

  pub passed-more : (order left : List ℕ) (i : ℕ) (m n o : Machine) → Passed order (i ∷ left) m n → Passes d files (i ∷ []) n o → Passed order left m o
  passed-more order left i m n o p e = record { others = others; rest = rest }
    where
      here : (c : ℕ) → run d files (state_of n c) i n.values.items ≡ run d files (state_of m c) i n.values.items
      here c = ap (λ (s : State). run d files s i n.values.items) (p.others c)

      values : (c : ℕ) → o.values.items ≡ run d files (state_of n c) i n.values.items
      values c = ap {A = State} {B = List (List ℕ)} (λ s. s.values) (e c)

      others : (c : ℕ) → state_of o c ≡ with-values m c o.values.items
      others c = e c
          ∙ ap {A = State} {B = State} (λ s. record s { values = run d files (state_of n c) i n.values.items }) (p.others c)
          ∙ ap {A = List (List ℕ)} {B = State} (λ v. with-values m c v) (sym (values c))

      rest : (c : ℕ) → pass (run d files (state_of m c)) left o.values.items ≡ pass (run d files (state_of m c)) order m.values.items
      rest c = ap {A = List (List ℕ)} {B = List (List ℕ)} (λ v. pass (run d files (state_of m c)) left v) (values c ∙ here c) ∙ p.rest c

  pub passed-all : (order : List ℕ) (m n : Machine) → Passed order [] m n → Passes d files order m n
  passed-all order m n p = λ c. p.others c ∙ ap {A = List (List ℕ)} {B = State} (λ v. with-values m c v) (p.rest c)

  -- ---- what a pass leaves

  pub passes-finished : (order : List ℕ) (m n : Machine) → Passes d files order m n → n.finished ≡ m.finished
  passes-finished order m n p = ap {A = State} (λ s. s.finished) (p 0)

  pub passes-ticks : (order : List ℕ) (m n : Machine) → Passes d files order m n → n.ticks ≡ m.ticks
  passes-ticks order m n p = ap {A = State} (λ s. s.ticks) (p 0)
