-- Names and masks of a design.
use Rattle.std.proofs.Common.{◌≡◌, ℕ, zero, suc, ◌+◌, ◌<◌, Bool, true, false, List, [], ◌∷◌, ◌++◌, append-nil, map, length, take, replicate, get_or, refl, sym, ap, ◌∙◌, subst, arith}
use Rattle.std.specs.Prelude.{◌⊎◌, ◌↔◌, All, Any, if◌then◌else◌, Option, Some, None}
use Rattle.std.proofs.lemmas.List.{length-map}
use mathlib.Core.Logic.{inl, inr}
use Rattle.vl_base.specs.declared.place.Place.{Place}
use Rattle.vl_design.specs.declared.design.Design.{Design}
use Rattle.vl_design.specs.declared.design.Func.{Func}
use Rattle.vl_design.specs.declared.design.Process.{Process}
use Rattle.vl_design.specs.declared.design.ProcKind.TheVariants.{Comb}
use Rattle.vl_design.specs.declared.design.Signal.{Signal}
use Rattle.vl_design.specs.declared.stop.Stop.TheVariants.{Construct}
use Rattle.vl_design.specs.Seen.{func_of, placed, process_of}
use Rattle.vl_design.specs.Sound.{IsSound, IsSoundFun, IsSoundProc, IsSoundStm, IsSignal}
use Rattle.vl_design.specs.Trees.{row_of, fun_of, proc_of, flat_of, stm_of}
use Rattle.vl_design.specs.Width.{Names, names_in, names_of}
use Rattle.vl_design.proofs.TreeLemmas.{funs-map, procs-map}
use Rattle.vl_bits.specs.Masks.{has, in_masks}
use Rattle.vl_bits.proofs.Masking.{has_none}
use Rattle.vl_bits.specs.Walks.{IsClear}
use Rattle.vl_design.specs.First.{IsFirst}
use Rattle.vl_latch.specs.Faults.{IsProcessFault, IsFunctionFault, IsPathFault, first_of, names_with, stop_at}
use Rattle.vl_latch.specs.Partly.{IsPartly, IsPartlyFun}
use Rattle.vl_latch.proofs.Firsts.{first-one, first-same, first-both, any-map}
use Rattle.vl_latch.proofs.Testing.{not_both}
use Rattle.vl_base.proofs.Lists.{zero_at as zero-at}

-- ---- names

pub names-design : (d : Design) (signals locals : List Signal) (funcs : List Func) → signals ≡ d.signals → funcs ≡ d.funcs →
    (let n : Names = record { rows = map row_of signals ++ map row_of locals; signals = map row_of signals; funs = map fun_of funcs } in n) ≡ names_with d locals
names-design d signals locals funcs e g = rw (e, g, funs-map d.funcs) refl

pub names-process : (d : Design) → names_with d [] ≡ names_of (flat_of d)
names-process d = ap (λ r. record (names_of (flat_of d)) { rows = r }) (append-nil (map row_of d.signals))

pub names-function : (d : Design) (f : Func) (locals : List Signal) → locals ≡ f.locals → names_with d locals ≡ names_in (names_of (flat_of d)) (fun_of f)
names-function d f locals e = ap (names_with d) e

pub many-function : (d : Design) (names : Names) (locals : List Signal) (m n : ℕ) → names ≡ names_with d locals → m ≡ length d.signals → n ≡ m + length locals → n ≡ length names.rows
many-function d names locals m n e h k = let l : length (map row_of d.signals ++ map row_of locals) ≡ length d.signals + length locals = counted d.signals in omega (arith, h, k, l, ap (λ (x : Names). length x.rows) e)
  where
    counted : (xs : List Signal) → length (map row_of xs ++ map row_of locals) ≡ length xs + length locals
    counted [] = length-map locals row_of ∙ omega arith
    counted (x ∷ xs) = omega (arith, counted xs)

-- ---- soundness

pub sound-function : (d : Design) (names : Names) (f : Func) (locals : List Signal) → names ≡ names_with d locals → locals ≡ f.locals → IsSoundFun (names_of (flat_of d)) (fun_of f) → IsSoundStm names (stm_of [] f.body)
sound-function d names f locals e g h = rw (e ∙ names-function d f locals g) h.body

pub sound-result : (d : Design) (names : Names) (f : Func) (locals : List Signal) → names ≡ names_with d locals → locals ≡ f.locals → IsSoundFun (names_of (flat_of d)) (fun_of f) → IsSignal names f.result
sound-result d names f locals e g h = rw (e ∙ names-function d f locals g) h.result

pub process-there : (d : Design) (xs : List Process) (i : ℕ) (x : Process) → xs ≡ d.processes → i < length xs → x ≡ get_or xs i x → IsSound (flat_of d) → IsSoundProc (names_of (flat_of d)) (proc_of x)
process-there d xs i x e l g s = go xs i l g (subst (λ ys. All (IsSoundProc (names_of (flat_of d))) ys) (procs-map d.processes ∙ ap (map proc_of) (sym e)) s.procs)
  where
    go : (xs : List Process) (i : ℕ) → i < length xs → x ≡ get_or xs i x → All (IsSoundProc (names_of (flat_of d))) (map proc_of xs) → IsSoundProc (names_of (flat_of d)) (proc_of x)
    go xs i l g s = subst (IsSoundProc (names_of (flat_of d))) (at xs i l ∙ ap proc_of (sym g)) (s i (proc_of x) (let m = length-map xs proc_of in omega (arith, l, m)))
      where
        at : (xs : List Process) (i : ℕ) → i < length xs → get_or (map proc_of xs) i (proc_of x) ≡ proc_of (get_or xs i x)
        at [] i l = absurd (omega arith)
        at (y ∷ ys) zero l = refl
        at (y ∷ ys) (suc i) l = at ys i (omega arith)

pub function-there : (d : Design) (xs : List Func) (i : ℕ) (x : Func) → xs ≡ d.funcs → i < length xs → x ≡ get_or xs i x → IsSound (flat_of d) → IsSoundFun (names_of (flat_of d)) (fun_of x)
function-there d xs i x e l g s = go xs i l g (subst (λ ys. All (IsSoundFun (names_of (flat_of d))) ys) (funs-map d.funcs ∙ ap (map fun_of) (sym e)) s.funs)
  where
    go : (xs : List Func) (i : ℕ) → i < length xs → x ≡ get_or xs i x → All (IsSoundFun (names_of (flat_of d))) (map fun_of xs) → IsSoundFun (names_of (flat_of d)) (fun_of x)
    go xs i l g s = subst (IsSoundFun (names_of (flat_of d))) (at xs i l ∙ ap fun_of (sym g)) (s i (fun_of x) (let m = length-map xs fun_of in omega (arith, l, m)))
      where
        at : (xs : List Func) (i : ℕ) → i < length xs → get_or (map fun_of xs) i (fun_of x) ≡ fun_of (get_or xs i x)
        at [] i l = absurd (omega arith)
        at (y ∷ ys) zero l = refl
        at (y ∷ ys) (suc i) l = at ys i (omega arith)

-- ---- faults

fault-first : (t : Bool) (at : Place) (Q : Type 0) → ((t ≡ true) ↔ Q) → IsFirst (λ s. Q × (s ≡ Construct at 19)) (stop_at (if t then Some at else None))
fault-first true at Q h = first-one (λ s. Q × (s ≡ Construct at 19)) at (h.0 refl, refl) (λ s w. w.1)
fault-first false at Q h = λ s w. not_both false (h.1 w.0) refl

pub process-first : (d : Design) (names : Names) (path : List ℕ) (q : Process) (t : Bool) → names ≡ names_with d [] → path ≡ q.path → q.kind ≡ Comb → ((t ≡ true) ↔ IsPartly names (stm_of path q.body)) →
    IsFirst (IsProcessFault (names_of (flat_of d)) (process_of q)) (stop_at (if t then Some q.place else None))
process-first d names path q t e f k h =
    let is : (t ≡ true) ↔ IsPartly (names_of (flat_of d)) (stm_of q.path q.body) = rw (e ∙ names-process d, f) at h in
    first-same (λ s. IsPartly (names_of (flat_of d)) (stm_of q.path q.body) × (s ≡ Construct q.place 19)) (IsProcessFault (names_of (flat_of d)) (process_of q)) (λ s. (λ w. (k, w.0, w.1), λ w. (w.1, w.2)))
    (stop_at (if t then Some q.place else None)) (fault-first t q.place (IsPartly (names_of (flat_of d)) (stm_of q.path q.body)) is)

pub function-first : (d : Design) (names : Names) (f : Func) (locals : List Signal) (t : Bool) → names ≡ names_with d locals → locals ≡ f.locals → ((t ≡ true) ↔ IsPartlyFun names (fun_of f)) →
    IsFirst (IsFunctionFault (names_of (flat_of d)) (func_of f)) (stop_at (if t then Some f.place else None))
function-first d names f locals t e g h =
    let is : (t ≡ true) ↔ IsPartlyFun (names_in (names_of (flat_of d)) (fun_of f)) (fun_of f) = rw (e ∙ names-function d f locals g) at h in
    fault-first t f.place (IsPartlyFun (names_in (names_of (flat_of d)) (fun_of f)) (fun_of f)) is

-- all of the design's
pub path-first : (d : Design) (a b : Option Place) → IsFirst (λ s. Any (λ x. IsProcessFault (names_of (flat_of d)) (process_of x) s) d.processes) (stop_at a) → IsFirst (λ s. Any (λ x. IsFunctionFault (names_of (flat_of d)) (func_of x) s) d.funcs) (stop_at b) →
    IsFirst (IsPathFault (placed d)) (stop_at (first_of a b))
path-first d a b h k =
    let names = names_of (flat_of d) in
    first-same _ (IsPathFault (placed d)) (λ s. (
      λ w. elim w [ inl x ↦ inl ((any-map process_of (λ q. IsProcessFault names q s) d.processes).0 x) | inr x ↦ inr ((any-map func_of (λ f. IsFunctionFault names f s) d.funcs).0 x) ],
      λ w. elim w [ inl x ↦ inl ((any-map process_of (λ q. IsProcessFault names q s) d.processes).1 x) | inr x ↦ inr ((any-map func_of (λ f. IsFunctionFault names f s) d.funcs).1 x) ],
    )) _ (first-both _ _ a b h k)

-- ---- masks without bits

pushed-zero : (ks : List ℕ) (k : ℕ) → get_or (ks ++ 0 ∷ []) k 0 ≡ get_or ks k 0
pushed-zero [] zero = refl
pushed-zero [] (suc k) = refl
pushed-zero (x ∷ xs) zero = refl
pushed-zero (x ∷ xs) (suc k) = pushed-zero xs k

pub clear-push : (ks all : List ℕ) → all ≡ ks ++ 0 ∷ [] → IsClear ks → IsClear all
clear-push ks all e h b = ap (λ xs. in_masks xs b) e ∙ ap (λ x. has x b.place) (pushed-zero ks b.signal) ∙ h b

taken : (n : ℕ) (ks : List ℕ) (k : ℕ) → (get_or (take n ks) k 0 ≡ get_or ks k 0) ⊎ (get_or (take n ks) k 0 ≡ 0)
taken zero ks k = inr refl
taken (suc n) [] k = inr refl
taken (suc n) (x ∷ xs) zero = inl refl
taken (suc n) (x ∷ xs) (suc k) = taken n xs k

pub clear-zeros : (n : ℕ) (all : List ℕ) → all ≡ replicate n 0 → IsClear all
clear-zeros n all e b = ap (λ xs. in_masks xs b) e ∙ ap (λ x. has x b.place) (zero-at n b.signal 0) ∙ has_none b.place
