-- Processes compiled one after another.
use Rattle.std.proofs.Common.{◌≡◌, ℕ, zero, suc, ◌+◌, ◌<◌, Bool, true, false, List, [], ◌∷◌, length, drop, get_or, refl, sym, ap, ◌∙◌, arith, subst}
use Rattle.std.specs.Prelude.{if◌then◌else◌}
use Rattle.cell_emit.specs.vl_base.specs.declared.files.File.{File}
use Rattle.ten_form.specs.vl_design.specs.Syntax.{Flat, Stm, Target, Targets, Items}
use Rattle.ten_form.specs.vl_design.specs.Syntax as y
use Rattle.ten_form.specs.vl_design.specs.State.{State, sample}
use Rattle.ten_form.specs.vl_design.specs.Exec.{exec}
use Rattle.ten_form.specs.vl_design.specs.Functions.{scope_of}
use Rattle.ten_form.specs.vl_design.specs.Queue.{proc_at}
use Rattle.ten_form.specs.vl_design.specs.Width.{Names, names_of}
use Rattle.cell_expr.specs.vl_paths.specs.Nets.{IsBase, IsPlain, ArePlain, IsNetStm, AreNetItems}
use Rattle.cell_expr.specs.vl_paths.proofs.Untouched.{frame}
use Rattle.ten_form.specs.vl_runs.specs.Nets.{pass, AllBelow}
use Rattle.ten_form.specs.vl_runs.specs.NetsOfSettle.{is_memory, comb_at, run}
use Rattle.ten_form.specs.vl_runs.specs.Checked.{IsChecked}
use Rattle.cell_emit.specs.cell_form.specs.Data.{ListData, BankData}
use Rattle.cell_emit.specs.cell_form.specs.Sound.{Shape}
use Rattle.cell_emit.specs.Slots.{held, AreSound}
use Rattle.cell_emit.proofs.Frames.{longer-same, longer-then, longer-grows}
use Rattle.cell_emit.specs.Envs.{Env, Fits, HasMemories, Stands}
use Rattle.cell_emit.specs.Paths.{on, Does}
use Rattle.cell_emit.proofs.Staying.{sound-behind, keeps-same, keeps-then, longer-kept}
use Rattle.cell_expr.specs.Bodies.{IsNet}
use Rattle.cell_expr.specs.Counts.{stm_count, body_cells}
use Rattle.cell_waves.specs.Passes.{Passes, process_count, pass_count}
pub use Rattle.ten_form.specs.vl_runs.proofs.Shared.{below-at}

-- ---- what assigns to no signal that passes a test is a net's

module _ (p : ℕ → Bool) where
  base : (t : Target) → IsBase p t → IsBase (λ k. false) t
  base (y.Whole k) h = refl
  base (y.WordAt m a) h = absurd h
  base (y.PickAt b i from w) h = absurd h
  base (y.SliceAt b low w) h = absurd h
  base (y.Several ts) h = absurd h

  mutual
    plain : (t : Target) → IsPlain p t → IsPlain (λ k. false) t
    plain (y.Whole k) h = refl
    plain (y.WordAt m a) h = absurd h
    plain (y.PickAt b i from w) h = base b h
    plain (y.SliceAt b low w) h = base b h
    plain (y.Several ts) h = plains ts h

    plains : (ts : Targets) → ArePlain p ts → ArePlain (λ k. false) ts
    plains y.NoTargets h = tt
    plains (y.MoreTargets t ts) h = (plain t h.0, plains ts h.1)

  mutual
    pub net : (a : Stm) → IsNetStm p a → IsNet a
    net y.Nop h = tt
    net (y.Then a b) h = (net a h.0, net b h.1)
    net (y.If t a b) h = (net a h.0, net b h.1)
    net (y.Case e items) h = net-items items h
    net (y.Set t e) h = plain t h
    net (y.For k start test step a) h = absurd h
    net (y.Repeat n a) h = absurd h
    net (y.Later t e) h = absurd h
    net (y.Sys task) h = absurd h

    net-items : (items : Items) → AreNetItems p items → AreNetItems (λ k. false) items
    net-items y.NoItems h = tt
    net-items (y.Labelled es a others) h = (net a h.0, net-items others h.1)
    net-items (y.Default a others) h = (net a h.0, net-items others h.1)

-- ---- passes

module _ (d : Flat) where
  abbrev names : Names
  names = names_of d

  pub passes-none : (at : Env) (l : ListData) → Fits names l at → Passes d 0 [] at at l l
  passes-none at l f = record {
    longer = longer-same (HasMemories names at) l;
    fits = f;
    keeps = keeps-same names at;
    stands = λ files s b t sound alive st. st;
  }

  -- a process that isn't combinational adds nothing
  pub passes-skipped : (i : ℕ) (at : Env) (l : ListData) → Fits names l at → comb_at d i ≡ false → Passes d (process_count d i) (i ∷ []) at at l l
  passes-skipped i at l f h =
      let none : process_count d i ≡ 0 = ap (λ b. if b then stm_count (body_cells d) (proc_at d i).body else 0) h in
      subst (λ n. Passes d n (i ∷ []) at at l l) (sym none) (record {
        longer = longer-same (HasMemories names at) l;
        fits = f;
        keeps = keeps-same names at;
        stands = λ files s b t sound alive st.
            let same : run d files t i t.values ≡ t.values = ap (λ c. if c then (exec (scope_of d files) (proc_at d i).body (record t { values = t.values })).values else t.values) h in
            subst (λ v. Stands names b l at (sample (record t { values = v }))) (sym same) st;
      })

  -- a combinational one does what its body does
  pub passes-evaluated : (i : ℕ) (at at' : Env) (old new : ListData) → IsChecked d → Fits names old at → comb_at d i ≡ true →
      ((files : List File) → Does names (stm_count (body_cells d) (proc_at d i).body) (exec (scope_of d files) (proc_at d i).body) at.here at at' old new) →
      Passes d (process_count d i) (i ∷ []) at at' old new
  passes-evaluated i at at' old new checked f h does =
      let body = (proc_at d i).body in
      let one = does [] in
      let many : process_count d i ≡ stm_count (body_cells d) body = ap (λ b. if b then stm_count (body_cells d) body else 0) h in
      subst (λ n. Passes d n (i ∷ []) at at' old new) (sym many) (record {
        longer = one.longer;
        fits = one.fits;
        keeps = one.keeps;
        stands = λ files s b t sound alive st.
            let after : State = exec (scope_of d files) body t in
            let done = (does files).does s b t sound alive st in
            let here : held b old at.here ≡ 0 = f.is_here s b sound in
            let end = subst (λ o. Stands names b new at' (sample (on o after t))) here done in
            let framed : after ≡ record t { values = after.values } = frame (is_memory d.rows) (scope_of d files) body (checked.nets i h) (checked.quiet i h) t in
            let ran : run d files t i t.values ≡ after.values = ap (λ c. if c then (exec (scope_of d files) body (record t { values = t.values })).values else t.values) h in
            let is : after ≡ record t { values = run d files t i t.values } = framed ∙ ap {A = List (List ℕ)} {B = State} (λ v. record t { values = v }) (sym ran) in
            subst (λ (u : State). Stands names b new at' (sample u)) is end;
      })

  pub passes-then : (n m i : ℕ) (rest : List ℕ) (at0 at1 at2 : Env) (l0 l1 l2 : ListData) → Passes d n (i ∷ []) at0 at1 l0 l1 → Passes d m rest at1 at2 l1 l2 → Passes d (n + m) (i ∷ rest) at0 at2 l0 l2
  passes-then n m i rest at0 at1 at2 l0 l1 l2 a c = record {
    longer = longer-then (HasMemories names at0) n m l0 l1 l2 a.longer (longer-kept names m at0 at1 l1 l2 a.keeps c.longer);
    fits = c.fits;
    keeps = keeps-then names at0 at1 at2 a.keeps c.keeps;
    stands = λ files s b t sound alive st.
        let s1 = sound-behind names at0 n s l0 l1 a.longer sound in
        c.stands files s1.shape b (record t { values = run d files t i t.values }) s1.sound alive (a.stands files s b t sound alive st);
  }

  -- where the rest of the order is passed, all of it is
  pub record Left (order rest : List ℕ) (at0 at : Env) (l0 l : ListData) : Type 0 where
    pub leads : (at' : Env) (new : ListData) → Passes d (pass_count d rest) rest at at' l new → Passes d (pass_count d order) order at0 at' l0 new

  pub left-none : (order : List ℕ) (at : Env) (l : ListData) → Left order order at at l l
  left-none order at l = record { leads = λ at' new h. h }

  pub left-more : (i : ℕ) (order rest : List ℕ) (at0 at1 at2 : Env) (l0 l1 l2 : ListData) → Left order (i ∷ rest) at0 at1 l0 l1 → Passes d (process_count d i) (i ∷ []) at1 at2 l1 l2 → Left order rest at0 at2 l0 l2
  left-more i order rest at0 at1 at2 l0 l1 l2 h a = record { leads = λ at' new c. h.leads at' new (passes-then (process_count d i) (pass_count d rest) i rest at1 at2 at' l1 l2 new a c) }

  pub left-all : (order : List ℕ) (at0 at : Env) (l0 l : ListData) → Fits names l at → Left order [] at0 at l0 l → Passes d (pass_count d order) order at0 at l0 l
  left-all order at0 at l0 l f h = h.leads at l (passes-none at l f)
