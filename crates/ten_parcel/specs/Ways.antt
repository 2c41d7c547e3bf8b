-- Tenants that run on to their ends (own).
use Rattle.std.specs.Prelude.{◌≡◌, ℕ, ◌<◌, true, false, []}
use Rattle.sub_nodes.specs.Cycles.{Stage}
use Rattle.ten_core.specs.Running.{to_come}
use Rattle.ten_shell.specs.declared.shell.Shell.{Shell}
use Rattle.ten_shell.specs.Shells.{flat_in, is_at_boundary, left_in, run_of}
use Rattle.ten_parcel.specs.declared.tenant.Tenant.{Tenant}
use Rattle.ten_parcel.specs.Parcels.{IsOn}

-- the tenant is on its way, and no snapshot is left to be made
pub record IsReady (t : Tenant) (c : ℕ) (i : Stage) : Type 0 where
  pub on : IsOn t c i
  pub saved : is_at_boundary (flat_in t.shell) i ≡ true → left_in t.shell ≡ []
  pub lives : t.shell.stopped ≡ false

-- the tenant is on its way, where fewer acts are to come than at this stage of the shell's run
pub record IsNearer (s : Shell) (i : Stage) (t : Tenant) : Type 0 where
  pub acts : ℕ
  pub stage : Stage
  pub on : IsOn t acts stage
  pub fewer : to_come (flat_in s) (run_of s).plan.budget stage < to_come (flat_in s) (run_of s).plan.budget i
