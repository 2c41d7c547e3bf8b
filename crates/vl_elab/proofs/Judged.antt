-- Parameters whose defaults are judged.
use Rattle.std.proofs.Common.{◌≡◌, refl, false, true≢false}
use Rattle.std.specs.Prelude.{Option, Some, None, is_some}
use Rattle.vl_design.specs.Placed.{Exp}
use Rattle.elab_plain.specs.vl_flat.specs.Items.{Parameter}
use Rattle.elab_plain.specs.vl_flat.specs.Scopes.{Env, plainly}
use Rattle.elab_plain.specs.vl_flat.specs.ExpressionFaults.{faults}
use Rattle.elab_plain.specs.vl_flat.specs.Parameters.{value_faults}

pub default-judged : (env : Env) (given : Option Exp) (a : Parameter) → is_some given ≡ false → faults (plainly env) a.value ≡ value_faults env given a
default-judged env None a h = refl
default-judged env (Some e) a h = absurd (true≢false h)
