-- A tenant of whose run a snapshot was made besides.
use Rattle.std.proofs.Common.{◌≡◌, ℕ, true, false, [], Ok, Err, sym, ap, subst}
use Rattle.std.specs.Prelude.{slice_get, Result, OnOk, OnErr}
use Rattle.std.specs.Arc.{arc_value}
use Rattle.vl_eval.specs.vl_design.specs.Alone as alone
use Rattle.ten_core.specs.cell_form.specs.Views.{bank_of}
use Rattle.sub_nodes.specs.Code.{table_of}
use Rattle.sub_nodes.specs.Cycles.{Stage, rises}
use Rattle.ten_core.specs.Tenants.{origin_of}
use Rattle.ten_core.specs.Running.{is_at_rest}
use Rattle.ten_shell.specs.declared.shell.Shell.{Shell}
use Rattle.ten_shell.specs.Shells.{flat_in, is_at_boundary, left_in, run_of, IsUnchanged, StandsFor}
use Rattle.ten_parcel.specs.declared.tenant.Tenant.{Tenant}
use Rattle.ten_parcel.specs.Parcels.{IsAtRest}
use Rattle.ten_parcel.proofs.Running.{rest-boundary}
use Rattle.ten_parcel.proofs.Same.{still-rests, still-stands}

-- what holds after an answer of either kind
pub either : {A E : Type 0} {P Q R : Type 0} (x : Result A E) → OnOk x P → OnErr x Q → (P → R) → (Q → R) → R
either (Ok a) p q f g = f p
either (Err e) p q f g = g q

module _ (t : Tenant) (s : IsAtRest t) (alive : s.stage.state.finished ≡ false) where
  pub is-up : is_at_boundary (flat_in t.shell) s.stage ≡ true
  is-up = rest-boundary s.stage.state.finished (rises (slice_get (table_of (flat_in t.shell)).nodes s.stage.node)) s.rests.rests alive

  pub none-left : left_in t.shell ≡ []
  none-left = s.rests.saved alive

  pub saved-rests : (r : Shell) → r.engine ≡ t.shell.engine →
      ((c : ℕ) (i : Stage) → StandsFor t.shell (bank_of t.bank) c i → left_in t.shell ≡ [] → is_at_boundary (flat_in t.shell) i ≡ true →
      StandsFor r (bank_of t.bank) c i × (left_in r ≡ [])) → IsAtRest (record { shell = r; bank = t.bank })
  saved-rests r same stands =
      let w = stands s.acts s.stage s.on none-left is-up in
      let run : run_of r ≡ run_of t.shell = ap (λ e. origin_of (arc_value e.origin)) same in
      record {
        acts = s.acts;
        stage = s.stage;
        on = w.0;
        rests = record {
          rests = subst (λ (o : alone.Origin). is_at_rest o.flat s.stage ≡ true) (sym run) s.rests.rests;
          saved = λ f. w.1;
        };
      }

-- where nothing has changed it still rests
pub unsaved-rests : (t : Tenant) (s : IsAtRest t) (r : Shell) → IsUnchanged t.shell r (bank_of t.bank) (bank_of t.bank) → IsAtRest (record { shell = r; bank = t.bank })
unsaved-rests t s r u = record {
  acts = s.acts;
  stage = s.stage;
  on = still-stands t.shell r (bank_of t.bank) (bank_of t.bank) u s.acts s.stage s.on;
  rests = still-rests t.shell r (bank_of t.bank) (bank_of t.bank) u s.stage s.rests;
}
