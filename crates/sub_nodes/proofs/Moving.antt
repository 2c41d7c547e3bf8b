-- A run by so many moves is a run.
use Rattle.std.proofs.Common.{◌≡◌, ℕ, zero, suc, Bool, true, false, List, refl, subst}
use Rattle.std.specs.Prelude.{if◌then◌else◌}
use Rattle.vl_design.specs.State.{State}
use Rattle.vl_design.specs.Functions.{scope_of}
use Rattle.vl_design.specs.Alone.{Origin}
use Rattle.sub_nodes.specs.Nodes.{Table}
use Rattle.sub_nodes.specs.Cycles.{Stage, cycle, served}
use Rattle.sub_nodes.specs.Stands.{at_trap, Comes}
use Rattle.sub_nodes.specs.Samples.{Reached, moved, moved_by, run_by, Shows}

module _ (o : Origin) (T : Table) (nets : State → List (List ℕ)) where
  abbrev IsRun : Reached → Type 0
  IsRun r = Comes o T nets r.acts r.stage

  moves : (r : Reached) → r.stage.state.finished ≡ false → IsRun r → IsRun (moved o T nets r)
  moves r f x = at (at_trap T r.stage) refl
    where
      i : Stage
      i = cycle o.flat o.files nets T.nodes r.stage

      at : (b : Bool) → at_trap T r.stage ≡ b
          → IsRun (if b then record { acts = suc r.acts; stage = served (scope_of o.flat o.files) T.nodes r.stage } else record { acts = if at_trap T i then r.acts else suc r.acts; stage = i })
      at true h = Comes.serves x h
      at false h = Comes.cycles x f h

  moves_on : (r : Reached) → IsRun r → IsRun (if r.stage.state.finished then r else moved o T nets r)
  moves_on r x = at r.stage.state.finished refl
    where
      at : (b : Bool) → r.stage.state.finished ≡ b → IsRun (if b then r else moved o T nets r)
      at true f = x
      at false f = moves r f x

  moves_by : (n : ℕ) (r : Reached) → IsRun r → IsRun (moved_by o T nets n r)
  moves_by zero r x = x
  moves_by (suc n) r x = moves_by n _ (moves_on r x)

  pub shows_by : (n node acts : ℕ) (bytes : List ℕ) → (run_by o T nets n).acts ≡ acts → (run_by o T nets n).stage.node ≡ node → (run_by o T nets n).stage.state.printed ≡ bytes → Shows o T nets node acts bytes
  shows_by n node acts bytes a b c =
      record { stage = (run_by o T nets n).stage; comes = subst (λ k. Comes o T nets k (run_by o T nets n).stage) a (moves_by n _ Comes.begins); there = b; printed = c }
