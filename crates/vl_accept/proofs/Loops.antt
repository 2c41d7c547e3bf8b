-- The first process of a lowest cycle.
use Rattle.std.proofs.Common.{◌≡◌, ℕ, zero, suc, ◌<◌, Bool, true, false, List, [], ◌∷◌, map, length, get_or, refl, sym, ap, ◌∙◌, subst, arith}
use Rattle.std.specs.Prelude.{◌&&◌, Some, slice_get, slice_index_or}
use Rattle.std.proofs.lemmas.Bool.{and_parts}
use Rattle.std.proofs.lemmas.List.{length-map}
use Rattle.vl_check.specs.vl_design.specs.declared.design.Design.{Design}
use Rattle.vl_check.specs.vl_design.specs.declared.design.Process.{Process}
use Rattle.vl_check.specs.vl_design.specs.declared.design.ProcKind.TheVariants.{Init}
use Rattle.vl_check.specs.vl_design.specs.Placed as p
use Rattle.vl_check.specs.vl_design.specs.Plainly as plain
use Rattle.vl_check.specs.vl_design.specs.Queue.{is_comb, proc_at}
use Rattle.vl_check.specs.vl_design.specs.Seen.{placed, process_of}
use Rattle.vl_check.specs.vl_design.specs.Syntax.{Flat, Proc, Nop}
use Rattle.vl_check.specs.vl_design.specs.Trees.{flat_of, proc_of}
use Rattle.vl_check.specs.vl_design.proofs.TreeLemmas.{procs-map}
use Rattle.vl_runs.specs.vl_paths.specs.Graph as g
use Rattle.cell_level.specs.Cycles.{Leads, IsCycle, IsOnCycle, IsLowestCycle}
use Rattle.vl_accept.specs.declared.fault.Fault.TheVariants.{Loop}
use Rattle.vl_accept.specs.Accepted.{IsLoop, IsLowest}
pub use Rattle.vl_latch.specs.vl_base.proofs.Lists.{get_or_any as there-by}

-- there is a process that is combinational
comb-there : (as' : List Proc) (p : ℕ) → is_comb (slice_index_or as' p (record { kind = Init; events = []; body = Nop })).kind ≡ true → p < length as'
comb-there [] zero h = let z : ⊥ = cc in absurd z
comb-there [] (suc p) h = let z : ⊥ = cc in absurd z
comb-there (a ∷ as') zero h = omega arith
comb-there (a ∷ as') (suc p) h = let l = comb-there as' p h in omega (arith, l)

leads-there : (d : Flat) (p : ℕ) (qs : List ℕ) (z : ℕ) → Leads (g.Edge d) p qs z → p < length d.procs
leads-there d p [] z h = comb-there d.procs p (and_parts (is_comb (proc_at d p).kind) _ h.1).0
leads-there d p (q ∷ qs) z h = comb-there d.procs p (and_parts (is_comb (proc_at d p).kind) _ h.0.1).0

-- a number that has a process has its place
placed-there : (as' : List Process) (p : ℕ) (a : Process) → p < length as' → a ≡ get_or as' p a → slice_get (map process_of as') p ≡ Some (process_of a)
placed-there [] p a l e = absurd (omega arith)
placed-there (x ∷ as') zero a l e = ap (λ z. Some (process_of z)) (sym e)
placed-there (x ∷ as') (suc p) a l e = placed-there as' p a (omega (arith, l)) e

procs-long : (d : Design) → length (flat_of d).procs ≡ length d.processes
procs-long d = ap length (procs-map d.processes) ∙ length-map d.processes proc_of

-- the first of a lowest cycle is the number of a process
pub first-is : (E : ℕ → ℕ → Type 0) (cycle : List ℕ) (h : IsLowestCycle E cycle) → slice_index_or cycle 0 0 ≡ h.first
first-is E cycle h = ap (λ c. slice_index_or c 0 0) h.is_cycle.begins

pub process-is : (d : Design) (cycle : List ℕ) (ps : List Process) → ps ≡ d.processes → IsLowestCycle (g.Edge (flat_of d)) cycle → slice_index_or cycle 0 0 < length ps
process-is d cycle ps e h =
    let l = leads-there (flat_of d) h.first h.is_cycle.others h.first h.is_cycle.closes in
    let m = procs-long d in
    let there : h.first < length d.processes = omega (arith, l, m) in
    subst (λ (xs : List Process). slice_index_or cycle 0 0 < length xs) (sym e) (subst (λ n. n < length d.processes) (sym (first-is (g.Edge (flat_of d)) cycle h)) there)

pub is-loop : (d : Design) (cycle : List ℕ) (n : ℕ) (a : Process) → IsLowestCycle (g.Edge (flat_of d)) cycle → n ≡ slice_index_or cycle 0 0 → n < length d.processes → a ≡ get_or d.processes n a → IsLoop (placed d) (Loop a.place cycle)
is-loop d cycle n a h e l i =
    let same : h.first ≡ n = sym (e ∙ first-is (g.Edge (flat_of d)) cycle h) in
    record {
      number = n;
      process = process_of a;
      there = placed-there d.processes n a l i;
      lowest = record {
        cyclic = subst (IsOnCycle (g.Edge (flat_of d))) same (h.is_cycle.others, h.is_cycle.closes);
        lowest = λ q m. h.lowest q (subst (λ z. q < z) (sym same) m);
      };
      cycle = cycle;
      is_cycle = subst (λ z. IsCycle (g.Edge (flat_of d)) z cycle) same h.is_cycle;
      place = refl;
    }

pub is-loop-at : (d : Design) (cycle : List ℕ) (ps : List Process) (x : Process) → ps ≡ d.processes → IsLowestCycle (g.Edge (flat_of d)) cycle → IsLoop (placed d) (Loop (slice_index_or ps (slice_index_or cycle 0 0) x).place cycle)
is-loop-at d cycle ps x e h =
    let n = slice_index_or cycle 0 0 in
    let l : n < length d.processes = process-is d cycle d.processes refl h in
    let a = slice_index_or d.processes n x in
    subst (λ (xs : List Process). IsLoop (placed d) (Loop (slice_index_or xs n x).place cycle)) (sym e) (is-loop d cycle n a h refl l (there-by d.processes n x a l))
