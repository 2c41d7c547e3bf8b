-- The bank of a run that is resumed, before its words are put back.
use Rattle.std.proofs.Common.{◌≡◌, ℕ, sym, ap, subst, refl}
use Rattle.vl_eval.specs.vl_design.specs.Functions.{zeros}
use Rattle.vl_eval.specs.vl_design.specs.Laws.{IsFine}
use Rattle.vl_eval.specs.vl_design.specs.State.{State}
use Rattle.vl_eval.specs.vl_design.specs.Syntax.{Flat}
use Rattle.vl_run.specs.declared.machine.Machine.{Machine}
use Rattle.vl_run.specs.Machines.{state_of}
use Rattle.ten_core.specs.cell_form.specs.Data.{BankData}
use Rattle.sub_nodes.specs.Cycles.{committed_in}
use Rattle.ten_form.specs.States.{HoldsStage}
use Rattle.ten_core.specs.ten_plan.specs.declared.held.Held.{Held}
use Rattle.ten_parcel.specs.Banks.{state_before, IsStateAt, HoldsAt}

module _ (d : Flat) (h : Held) (m : Machine) (state : state_of m 0 ≡ state_before d h) where
  -- with the files that will be open
  abbrev pub zero-state : State
  zero-state = record (state_before d h) { table = h.files }

  is-at : IsStateAt m zero-state
  is-at = record {
    values = sym (ap (λ (s : State). s.values) state);
    ticks = sym (ap (λ (s : State). s.ticks) state);
    answer = sym (ap (λ (s : State). s.answer) state);
    later = refl;
  }

  pub zeros-fine : IsFine d.rows m.values.items → IsFine d.rows (zeros d.rows)
  zeros-fine fine = subst (IsFine d.rows) (ap (λ (s : State). s.values) state) fine

  pub holds-zeros : (slots node : ℕ) (b : BankData) → HoldsAt d m slots node b → HoldsStage d b (committed_in node zero-state)
  holds-zeros slots node b bank = bank.holds zero-state is-at
