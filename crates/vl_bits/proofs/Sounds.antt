-- Sound left sides, and what numbers name.
use Rattle.std.proofs.Common.{◌≡◌, ℕ, zero, suc, ◌<◌, List, [], ◌∷◌, ◌++◌, append-nil, map, length, get_or, refl, sym, ap, ◌∙◌, subst, arith}
use Rattle.std.specs.Prelude.{All, true, false, Bool, if◌then◌else◌}
use Rattle.std.proofs.lemmas.List.{length-map}
use Rattle.std.proofs.lemmas.List.Elements.{All-append, All-push}
use Rattle.vl_base.specs.declared.bits.UnOp.TheVariants.{LogNot}
use Rattle.vl_design.specs.declared.design.Design.{Design}
use Rattle.vl_design.specs.declared.design.Func.{Func}
use Rattle.vl_design.specs.declared.design.Process.{Process}
use Rattle.vl_design.specs.declared.design.Signal.{Signal}
use Rattle.vl_design.specs.Placed as p
use Rattle.vl_design.specs.Plainly as plain
use Rattle.vl_design.specs.Plainly.{called_first}
use Rattle.vl_design.specs.Seen.{process_of}
use Rattle.vl_design.specs.Sound.{IsSound, IsSoundProc, IsSoundStm, IsSoundTarget, AreSoundTargets}
use Rattle.vl_design.specs.Syntax.{Target, Whole, WordAt, PickAt, SliceAt, Several, Targets, NoTargets, MoreTargets, Stm}
use Rattle.vl_design.specs.Trees.{row_of, fun_of, proc_of, flat_of}
use Rattle.vl_design.specs.Width.{Names, names_of}
use Rattle.vl_design.proofs.TreeLemmas.{funs-map, procs-map}
use Rattle.vl_bits.specs.Drivers.{leaves, all_leaves, is_assign, assigned_parts, driven_parts}

pub there-map : {A B : Type 0} (g : A → B) (P : B → Type 0) (xs : List A) (i : ℕ) (x : A) → i < length xs → x ≡ get_or xs i x → All P (map g xs) → P (g x)
there-map {A} {B} g P xs i x l e h = subst P (at xs i l ∙ ap g (sym e)) (h i (g x) (let m = length-map xs g in omega (arith, l, m)))
  where
    at : (xs : List A) (i : ℕ) → i < length xs → get_or (map g xs) i (g x) ≡ g (get_or xs i x)
    at [] i l = absurd (omega arith)
    at (y ∷ ys) zero l = refl
    at (y ∷ ys) (suc i) l = at ys i (omega arith)

module _ (names : Names) where
  none-sound : All (IsSoundTarget names) []
  none-sound = λ k d l. absurd (omega arith)

  one-sound : (t : Target) → IsSoundTarget names t → All (IsSoundTarget names) (t ∷ [])
  one-sound t h = All-push (IsSoundTarget names) [] t none-sound h

  mutual
    leaves-sound : (t : Target) → IsSoundTarget names t → All (IsSoundTarget names) (leaves t)
    leaves-sound (Whole k) h = one-sound (Whole k) h
    leaves-sound (WordAt m a) h = one-sound (WordAt m a) h
    leaves-sound (PickAt base i from w) h = one-sound (PickAt base i from w) h
    leaves-sound (SliceAt base low w) h = one-sound (SliceAt base low w) h
    leaves-sound (Several ts) h = all-sound ts h.1

    all-sound : (ts : Targets) → AreSoundTargets names ts → All (IsSoundTarget names) (all_leaves ts)
    all-sound NoTargets h = none-sound
    all-sound (MoreTargets t ts) h = All-append (IsSoundTarget names) (leaves t) (all_leaves ts) (leaves-sound t h.0) (all-sound ts h.1)

  -- a call of a system function may come first
  called-sound : (path : List ℕ) (x : p.Exp) (a : Stm) → IsSoundStm names (called_first path x a) → IsSoundStm names a
  called-sound path (p.Sys at name given) a h = h.1
  called-sound path (p.Un at LogNot (p.Sys q name given)) a h = h.1
  called-sound path x a h = h

  assigned-sound : (path : List ℕ) (a : p.Stm) → IsSoundStm names (plain.stm path a) → All (IsSoundTarget names) (assigned_parts a)
  assigned-sound path (p.Set at t e) h = leaves-sound (plain.target t) (called-sound path e _ h).0
  assigned-sound path (p.Nop at) h = none-sound
  assigned-sound path (p.Seq at as') h = none-sound
  assigned-sound path (p.If at t a b) h = none-sound
  assigned-sound path (p.Case at e is wild) h = none-sound
  assigned-sound path (p.For at k start test step a) h = none-sound
  assigned-sound path (p.Repeat at n a) h = none-sound
  assigned-sound path (p.Later at t e) h = none-sound
  assigned-sound path (p.Task at name given) h = none-sound

  pub driven-sound : (a : Process) → IsSoundProc names (proc_of a) → All (IsSoundTarget names) (driven_parts (process_of a))
  driven-sound a h = by (is_assign a.kind)
    where
      by : (t : Bool) → All (IsSoundTarget names) (if t then assigned_parts (process_of a).body else [])
      by true = assigned-sound a.path (process_of a).body h.body
      by false = none-sound

pub process-there : (d : Design) (names : Names) (xs : List Process) (i : ℕ) (x : Process) → names ≡ names_of (flat_of d) → xs ≡ d.processes → i < length xs → x ≡ get_or xs i x → IsSound (flat_of d) → IsSoundProc names (proc_of x)
process-there d names xs i x n e l g s =
    subst (λ (z : Names). IsSoundProc z (proc_of x)) (sym n)
    (there-map proc_of (IsSoundProc (names_of (flat_of d))) xs i x l g (subst (λ ys. All (IsSoundProc (names_of (flat_of d))) ys) (procs-map d.processes ∙ ap (map proc_of) (sym e)) s.procs))

-- ---- names

pub names-design : (d : Design) (signals : List Signal) (funcs : List Func) → signals ≡ d.signals → funcs ≡ d.funcs →
    (let n : Names = record { rows = map row_of signals ++ []; signals = map row_of signals; funs = map fun_of funcs } in n) ≡ names_of (flat_of d)
names-design d signals funcs e g = rw (e, g, funs-map d.funcs) (ap (λ r. let n : Names = record { rows = r; signals = map row_of d.signals; funs = map fun_of d.funcs } in n) (append-nil (map row_of d.signals)))

pub many : (d : Design) (names : Names) (n : ℕ) → names ≡ names_of (flat_of d) → n ≡ length d.signals → n ≡ length names.rows
many d names n e h = h ∙ sym (length-map d.signals row_of) ∙ ap (λ (x : Names). length x.rows) (sym e)
