-- The processes of a design, one by one, as the code has them.
use Rattle.std.proofs.Common.{◌≡◌, ℕ, ◌<◌, List, map, length, get_or, sym, ap, ◌∙◌, arith, subst}
use Rattle.std.specs.Prelude.{All, slice_index_or}
use Rattle.std.proofs.lemmas.List.{length-map, get_or-map}
use Rattle.vl_paths.specs.vl_design.specs.declared.design.Design.{Design}
use Rattle.vl_paths.specs.vl_design.specs.declared.design.Process.{Process}
use Rattle.vl_paths.specs.vl_design.specs.Syntax.{Proc, Flat}
use Rattle.vl_paths.specs.vl_design.specs.Width.{names_of}
use Rattle.vl_paths.specs.vl_design.specs.Sound.{IsSound, IsSoundProc, IsSoundStm}
use Rattle.vl_paths.specs.vl_design.specs.Queue.{proc_at}
use Rattle.vl_paths.specs.vl_design.specs.Trees.{stm_of, proc_of, flat_of}
use Rattle.vl_paths.specs.vl_design.proofs.TreeLemmas.{procs-map}
use Rattle.vl_runs.proofs.Calming.{idle}

pub procs-are : (x : Design) (xs : List Process) → xs ≡ x.processes → (flat_of x).procs ≡ map proc_of xs
procs-are x xs e = procs-map x.processes ∙ ap (map proc_of) (sym e)

pub procs-long : (d : Flat) (xs : List Process) → d.procs ≡ map proc_of xs → length d.procs ≡ length xs
procs-long d xs e = ap length e ∙ length-map xs proc_of

-- the body of a process of a sound design is sound
pub sound-at : (d : Flat) (xs : List Process) (i : ℕ) (x : Process) → IsSound d → d.procs ≡ map proc_of xs → i < length xs → x ≡ get_or xs i x → IsSoundStm (names_of d) (stm_of x.path x.body)
sound-at d xs i x s g h e =
    let all : All (IsSoundProc (names_of d)) (map proc_of xs) = subst (All (IsSoundProc (names_of d))) g s.procs in
    let there : i < length (map proc_of xs) = omega (arith, length-map xs proc_of) in
    (subst (IsSoundProc (names_of d)) (get_or-map proc_of xs i x (proc_of x) h ∙ ap proc_of (sym e)) (all i (proc_of x) there)).body

-- the process of a number
pub proc-is : (d : Flat) (xs : List Process) (i : ℕ) (x : Process) → d.procs ≡ map proc_of xs → i < length xs → x ≡ get_or xs i x → proc_at d i ≡ proc_of x
proc-is d xs i x g h e = ap {A = List Proc} {B = Proc} (λ ps. slice_index_or ps i idle) g ∙ get_or-map proc_of xs i x idle h ∙ ap proc_of (sym e)
