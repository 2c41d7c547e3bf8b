-- What the bodies of functions begin with and give.
use Rattle.std.proofs.Common.{◌≡◌, ◌<◌, ◌≤◌, ◌-◌, ◌+◌, ◌*◌, ℕ, zero, suc, List, [], ◌++◌, length, map, refl, sym, ap, ◌∙◌, subst, arith, get_or}
use Rattle.std.specs.Prelude.{All, Some, None, slice_get, option_map, IfOk, Result}
use Rattle.std.proofs.lemmas.List.{length-map, map-append}
use Rattle.std.proofs.lemmas.Option.{slice_get_past, slice_get-map, slice_get-get_or}
use Rattle.std.specs.declared.alloc.AllocError.{AllocError}
use Rattle.std.specs.declared.alloc.Global.{Global}
use Rattle.std.specs.declared.vec.Vec.{Vec}
use Rattle.vl_base.specs.declared.files.File.{File}
use Rattle.vl_design.specs.declared.design.Func.{Func}
use Rattle.vl_design.specs.declared.design.Signal.{Signal}
use Rattle.vl_design.specs.Functions.{scope_with, result_of, fresh, with_inputs, zeros}
use Rattle.vl_design.specs.Exec.{exec}
use Rattle.vl_design.specs.Laws.{IsFine}
use Rattle.vl_design.specs.Sound.{IsSoundFun, IsSignal, IsNamed}
use Rattle.vl_design.specs.Syntax.{Fun}
use Rattle.vl_design.specs.Trees.{row_of, fun_of}
use Rattle.vl_design.specs.Value.{value_of}
use Rattle.vl_design.specs.Width.{Names, Scope, names_in, input_widths, input_widths_of, signal_form}
use Rattle.vl_design.proofs.Fine.{zeros_fine}
use Rattle.vl_eval.specs.Rooms.{scope_at, Fit}
use Rattle.vl_run.specs.declared.machine.Machine.{Machine}
use Rattle.vl_run.specs.Machines.{IsMachine, state_of, Does}
use Rattle.vl_run.specs.Scopes.{flat_in, calls_in, Calls}
use Rattle.vl_run.proofs.Fresh.{HasOneWord, one-word, AreOfOneWord, inputs-fine, calls-fit}

-- ---- one body

pub begins-fine : (signals locals : List Signal) (names : Names) (g : Fun) (args : List ℕ) → names.rows ≡ map row_of signals ++ map row_of locals → names ≡ names_in names g
    → IsSoundFun names g → Fit args (input_widths_of names (Some g)) → IsFine names.rows (with_inputs g.inputs args (zeros names.rows))
begins-fine signals locals names g args r e s f =
    let one : HasOneWord names.rows = subst HasOneWord (map-append row_of signals locals ∙ sym r) (one-word (signals ++ locals)) in
    let inputs : All (IsSignal names) g.inputs = subst (λ (n : Names). All (IsSignal n) g.inputs) (sym e) s.inputs in
    let fit : Fit args (map (λ k. (signal_form names.rows k).width) g.inputs) = subst (λ (n : Names). Fit args (map (λ k. (signal_form n.rows k).width) g.inputs)) (sym e) f in
    inputs-fine names.rows g.inputs args (zeros names.rows) one inputs fit (zeros_fine names.rows)

pub begins : (names : Names) (m : Machine) (values : List (List ℕ)) → state_of m 0 ≡ fresh values → m.later.items ≡ [] → IsFine names.rows values → IsMachine names m
begins names m values h l f = record {
  fine = subst (IsFine names.rows) (sym (ap (λ s. s.values) h)) f;
  later = subst (All (λ u. IsNamed names u.signal)) (sym l) (λ i d k. absurd (omega arith));
}

pub body-gives : (scope : Scope) (g : Fun) (args : List ℕ) (m n : Machine) → scope.names ≡ names_in scope.names g
    → state_of m 0 ≡ fresh (with_inputs g.inputs args (zeros scope.names.rows)) → Does scope g.body m n → value_of n.values.items g.result ≡ result_of scope (Some g) args
body-gives scope g args m n e h d =
    let x = d.leads 0 in
    sym (ap (λ s. value_of s.values g.result) x.1)
    ∙ (ap (λ s. value_of (exec scope g.body s).values g.result) h
    ∙ ap (λ (z : Names). value_of (exec (record scope { names = z }) g.body (fresh (with_inputs g.inputs args (zeros z.rows)))).values g.result) e)

-- ---- one call

pub inside : (names n : Names) (g : Fun) → n ≡ names_in names g → n ≡ names_in n g
inside names n g e = e ∙ ap (λ z. names_in z g) (sym e)

pub inner-calls : (names n : Names) (g : Fun) (files : List File) (depth : ℕ) (pre : ℕ → Vec ℕ Global → Type 0) (post : ℕ → Vec ℕ Global → Result ℕ AllocError → Type 0) → n ≡ names_in names g
    → All (IsSoundFun names) names.funs → AreOfOneWord names
    → ((f : ℕ) (args : Vec ℕ Global) → Fit args.items (input_widths names f) → pre f args)
    → ((f : ℕ) (args : Vec ℕ Global) (r : Result ℕ AllocError) → post f args r → IfOk r (λ v. v ≡ calls_in names files depth f args.items))
    → Calls (scope_at n files (calls_in n files depth)) pre post
inner-calls names n g files depth pre post e funs o callable gives = subst (λ z. Calls (scope_at z files (calls_in z files depth)) pre post) (sym e) (record {
  funs = λ i d l. (let h = funs i d l in record { inputs = h.inputs; result = h.result; body = h.body });
  fits = calls-fit names files funs o depth;
  callable = callable;
  gives = gives;
})

pub call-gives : (names n : Names) (g : Fun) (files : List File) (next depth f : ℕ) (args : List ℕ) (v : ℕ) → n ≡ names_in names g → depth ≡ suc next → slice_get names.funs f ≡ Some g
    → v ≡ result_of (scope_at n files (calls_in n files next)) (Some g) args → v ≡ calls_in names files depth f args
call-gives names n g files next depth f args v e d s h =
    h
    ∙ (ap (λ z. result_of (scope_at z files (calls_in z files next)) (Some g) args) e
    ∙ (ap (λ r. result_of (scope_with (flat_in names) files (calls_in names files next)) r args) (sym s)
    ∙ ap (λ k. calls_in names files k f args) (sym d)))

pub no-function : (names : Names) (fs : List Func) (files : List File) (depth f : ℕ) (args : List ℕ) → names.funs ≡ map fun_of fs → length fs ≤ f → 0 ≡ calls_in names files depth f args
no-function names fs files zero f args e l = refl
no-function names fs files (suc n) f args e l =
    let none : slice_get names.funs f ≡ None = ap (λ xs. slice_get xs f) e ∙ slice_get_past (map fun_of fs) f (omega (arith, l, length-map fs fun_of)) in
    ap (λ r. result_of (scope_with (flat_in names) files (calls_in names files n)) r args) (sym none)

pub deep : (n : ℕ) → ¬ (n ≡ 0) → n ≡ suc (n - 1)
deep zero h = absurd (h refl)
deep (suc n) h = omega arith

pub function-there : (fs : List Func) (i : ℕ) (d : Func) → i < length fs → slice_get (map fun_of fs) i ≡ Some (fun_of (get_or fs i d))
function-there fs i d h = slice_get-map fun_of fs i ∙ ap (option_map fun_of) (slice_get-get_or fs i d h)

pub less : (n t : ℕ) → ¬ (n ≡ 0) → 2 * n ≡ t → 2 * (n - 1) + 1 < t
less zero t h e = absurd (h refl)
less (suc n) t h e = omega (arith, e)
