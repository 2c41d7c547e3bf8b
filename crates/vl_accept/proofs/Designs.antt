-- Designs without faults can be unrolled.
use Rattle.std.proofs.Common.{◌≡◌, subst, List, [], ◌∷◌, map, append-nil}
use Rattle.std.specs.Prelude.{◌++◌, All}
use Rattle.std.proofs.lemmas.List.Elements.{All-nil, All-cons, All-head, All-tail}
use Rattle.vl_check.specs.vl_design.specs.Placed.{Func, Process, Design}
use Rattle.vl_check.specs.vl_design.specs.Plainly.{proc, fun, stm, flat}
use Rattle.vl_check.specs.vl_design.specs.Rows.{row_of}
use Rattle.vl_check.specs.vl_design.specs.Sound.{IsSound}
use Rattle.vl_check.specs.vl_design.specs.Syntax.{Fun, Proc, Row}
use Rattle.vl_unroll.specs.vl_loops.specs.Fits.{HasLoops, HasFunLoops, AreNoLoops, CanUnroll}
use Rattle.vl_check.specs.Bodies.{of_process, of_function}
use Rattle.vl_check.specs.Standing.{body_faults, process_faults, processes_faults, functions_faults, standing_faults}
use Rattle.vl_accept.proofs.Clean.{left-none, right-none}
use Rattle.vl_accept.proofs.Looped.{body-looped}

module _ (d : Design) where
  abbrev rows : List Row
  rows = map row_of d.signals

  procs : (before as' : List Process) → processes_faults d before as' ≡ [] → All (λ p. HasLoops rows p.body) (map proc as')
  procs before [] h = All-nil (λ (p : Proc). HasLoops rows p.body)
  procs before (a ∷ as') h =
      All-cons (λ (p : Proc). HasLoops rows p.body) (proc a) (map proc as')
      (subst (λ z. HasLoops z (stm a.path a.body)) (append-nil rows) (body-looped (of_process d a) a.path a.body (left-none (body_faults (of_process d a) a.body) _ (left-none (process_faults d before a) _ h))))
      (procs (before ++ (a ∷ [])) as' (right-none (process_faults d before a) _ h))

  funs : (fs : List Func) → functions_faults d fs ≡ [] → All (λ f. AreNoLoops (rows ++ f.locals) f.inputs) (map fun fs) → All (HasFunLoops rows) (map fun fs)
  funs [] h n = All-nil (HasFunLoops rows)
  funs (f ∷ fs) h n =
      let inputs = λ (f : Fun). AreNoLoops (rows ++ f.locals) f.inputs in
      All-cons (HasFunLoops rows) (fun f) (map fun fs)
      (record {
        body = body-looped (of_function d f) [] f.body (left-none (body_faults (of_function d f) f.body) _ h);
        inputs = All-head inputs (fun f) (map fun fs) n;
      })
      (funs fs (right-none (body_faults (of_function d f) f.body) _ h) (All-tail inputs (fun f) (map fun fs) n))

pub can-unroll : (d : Design) → standing_faults d ≡ [] → IsSound (flat d) → All (λ f. AreNoLoops ((flat d).rows ++ f.locals) f.inputs) (flat d).funs → CanUnroll (flat d)
can-unroll d h sound inputs = record {
  sound = sound;
  funs = funs d d.funcs (right-none (processes_faults d [] d.processes) _ h) inputs;
  procs = procs d [] d.processes (left-none _ (functions_faults d d.funcs) h);
}
