-- What is loaded is a parcel at the first boundary of its run.
use Rattle.std.proofs.Common.{◌≡◌, ℕ, Bool, true, false, [], refl, sym, ap, ◌∙◌, subst}
use Rattle.std.specs.Prelude.{◌&&◌, ◌||◌, not, map, slice_get}
use Rattle.std.specs.Arc.{arc_value}
use Rattle.vl_eval.specs.vl_design.specs.Alone as alone
use Rattle.vl_eval.specs.vl_design.specs.Alone.{first_tick}
use Rattle.ten_core.specs.cell_form.specs.declared.bank.Bank.{Bank}
use Rattle.ten_core.specs.cell_form.specs.Views.{bank_of}
use Rattle.sub_nodes.specs.Code.{table_of}
use Rattle.sub_nodes.specs.Cycles.{Stage, rises}
use Rattle.ten_core.specs.declared.engine.Engine.{Engine}
use Rattle.ten_core.specs.declared.origin.Origin.{Origin}
use Rattle.ten_core.specs.Begins.{Begins}
use Rattle.ten_parcel.specs.Loads.{IsBegun}
use Rattle.ten_parcel.specs.declared.load.Begun.{Begun}
use Rattle.ten_parcel.specs.declared.load.Begun.TheVariants as b
use Rattle.ten_core.specs.ten_plan.specs.Held.{free_of}
use Rattle.ten_shell.specs.declared.shell.Shell.{Shell}
use Rattle.ten_shell.specs.Shells.{flat_in, is_at_boundary, left_in, run_of, CanRunOn, IsBegunShell, IsSameTenant, StandsFor}
use Rattle.ten_parcel.specs.declared.parcel.Parcel.TheVariants as parcel
use Rattle.ten_parcel.specs.Parcels.{IsLoaded}
use Rattle.ten_parcel.proofs.Same.{same-run}

boundary-rests : (f r : Bool) → (not f && r) ≡ true → (f || r) ≡ true
boundary-rests true r h = refl
boundary-rests false r h = h

-- what has begun runs on
pub runs-on : (x : Origin) (y : Begun) (e : Engine) (k : Bank) → y ≡ b.Runs e k → IsBegun x y → Begins x e (bank_of k)
runs-on x y e k same h = subst (λ (z : Begun). IsBegun x z) same h

module _ (n : ℕ) (x : Origin) (e : Engine) (k : Bank) (can : CanRunOn x) (begins : Begins x e (bank_of k)) where
  pub begins-there : Begins (arc_value e.origin) e (bank_of k)
  begins-there = subst (λ (y : Origin). Begins y e (bank_of k)) (sym begins.origin) begins

  pub can-there : CanRunOn (arc_value e.origin)
  can-there = subst (λ (y : Origin). CanRunOn y) (sym begins.origin) can

  abbrev pub IsFirst : Shell → Type 0
  IsFirst r =
      (c : ℕ) × (i : Stage) × StandsFor r (bank_of k) c i × (is_at_boundary (flat_in r) i ≡ true) × (i.state.ticks ≡ first_tick (run_of r).resume)

  pub loaded : (r : Shell) → IsBegunShell n e r → IsFirst r → (s : Shell) → ((c : ℕ) (i : Stage) → StandsFor r (bank_of k) c i → StandsFor s (bank_of k) c i) →
      ((c : ℕ) (i : Stage) → StandsFor s (bank_of k) c i → is_at_boundary (flat_in s) i ≡ true → left_in s ≡ []) → IsSameTenant r s → s.engine ≡ r.engine → s.moved ≡ r.moved →
      IsLoaded n x (parcel.Rests (record { shell = s; bank = k }))
  loaded r begun first s stands none same engine moved =
      let i : Stage = first.1 in
      let w = stands first.0 i first.2 in
      let run : run_of s ≡ run_of r = same-run r s same in
      let up : is_at_boundary (flat_in s) i ≡ true = subst (λ (o : alone.Origin). is_at_boundary o.flat i ≡ true) (sym run) first.3 in
      record {
        parcel = record {
          acts = first.0;
          stage = i;
          on = w;
          rests = record {
            rests = boundary-rests i.state.finished (rises (slice_get (table_of (flat_in s)).nodes i.node)) up;
            saved = λ f. none first.0 i w up;
          };
        };
        number = same.number ∙ begun.number;
        origin = ap (λ z. arc_value z.origin) (engine ∙ begun.engine) ∙ begins.origin;
        ticks = w.at.ticks ∙ (first.4 ∙ ap (λ (o : alone.Origin). first_tick o.resume) (sym run));
        free = ap (map free_of) (same.free ∙ begun.free);
        moved = moved ∙ begun.moved;
        stopped = same.stopped ∙ begun.stopped;
      }
