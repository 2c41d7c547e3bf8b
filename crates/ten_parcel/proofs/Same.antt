-- A shell that has not changed stands for the same point.
use Rattle.std.proofs.Common.{◌≡◌, ℕ, ◌≤◌, Bool, true, false, refl, sym, ap, ◌∙◌, subst}
use Rattle.std.specs.Prelude.{map}
use Rattle.std.specs.Arc.{arc_value}
use Rattle.std.specs.List.{AllByRecursion}
use Rattle.vl_eval.specs.vl_base.specs.Files.{IsFileSet}
use Rattle.vl_eval.specs.vl_design.specs.Alone as alone
use Rattle.vl_eval.specs.vl_design.specs.Laws.{StartsOpen}
use Rattle.ten_core.specs.cell_form.specs.Data.{BankData}
use Rattle.sub_nodes.specs.Cycles.{Stage}
use Rattle.ten_core.specs.Runs.{IsAt}
use Rattle.ten_core.specs.Tenants.{origin_of, tenant_of}
use Rattle.ten_core.specs.Holding.{CanBeHeld}
use Rattle.ten_core.specs.ten_plan.specs.Held.{free_of}
use Rattle.ten_core.specs.ten_plan.specs.Plans.{IsPlan}
use Rattle.ten_core.specs.Running.{is_at_rest, IsRunning}
use Rattle.ten_shell.specs.declared.shell.Shell.{Shell}
use Rattle.ten_shell.specs.Shells.{flat_in, is_at_boundary, left_in, run_of, IsSameTenant, IsUnchanged, KeepsIn, Rests, StandsFor}
pub use Rattle.ten_shell.proofs.Shared.{same-run}

pub same-refl : (s : Shell) → IsSameTenant s s
same-refl s = record { number = refl; origin = refl; free = refl; stopped = refl }

pub same-trans : (r s t : Shell) → IsSameTenant r s → IsSameTenant s t → IsSameTenant r t
same-trans r s t a b = record {
  number = b.number ∙ a.number;
  origin = b.origin ∙ a.origin;
  free = b.free ∙ a.free;
  stopped = b.stopped ∙ a.stopped;
}

module _ (r s : Shell) (a b : BankData) (u : IsUnchanged r s a b) where
  run-is : run_of s ≡ run_of r
  run-is = same-run r s u.same

  left-is : left_in s ≡ left_in r
  left-is = rw (u.given, u.done, u.same.origin, ap (λ t. t.asked) u.tenant, ap (λ t. t.ticks) u.tenant) refl

  keeps-by : (i : Stage) (there : Bool) → KeepsIn there r i → KeepsIn there s i
  keeps-by i true k = record {
    keeps = rw (left-is, u.saved, u.same.free, u.same.origin) k.keeps;
    given = rw (u.given, ap (λ t. t.asked) u.tenant) k.given;
    done = rw (u.done, u.same.origin) k.done;
  }
  keeps-by i false k = record {
    keeps = rw (u.saved, u.same.free, u.same.origin) k.keeps;
    given = u.given ∙ k.given;
    done = rw (u.done, u.same.origin) k.done;
  }

  pub still-stands : (c : ℕ) (i : Stage) → StandsFor r a c i → StandsFor s b c i
  still-stands c i w =
      let e = sym run-is in
      record {
        order = w.order;
        running = subst (λ (o : alone.Origin). IsRunning o w.order c i) e w.running;
        at = subst (λ t. IsAt (run_of s) w.order t c i) (sym u.tenant) (subst (λ (o : alone.Origin). IsAt o w.order (tenant_of r.engine a) c i) e w.at);
        held = subst (λ (o : alone.Origin). CanBeHeld o.flat) e w.held;
        plan = subst (λ (o : alone.Origin). IsPlan o.plan) e w.plan;
        files = subst (λ (o : alone.Origin). IsFileSet o.files) e w.files;
        opens = subst (λ (o : alone.Origin). StartsOpen o.files o.resume) e w.opens;
        free = subst (λ xs. AllByRecursion (λ f. f.tick ≤ i.state.ticks) (map free_of xs)) (sym u.same.free) w.free;
        keeps = subst (λ (o : alone.Origin). KeepsIn (is_at_boundary o.flat i) s i) e (keeps-by i (is_at_boundary (flat_in r) i) w.keeps);
      }

  pub still-rests : (i : Stage) → Rests r i → Rests s i
  still-rests i w = record {
    rests = subst (λ (o : alone.Origin). is_at_rest o.flat i ≡ true) (sym run-is) w.rests;
    saved = λ f. left-is ∙ w.saved f;
  }
