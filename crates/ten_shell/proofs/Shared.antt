-- Laws that several crates use.
use Rattle.std.proofs.Common.{ap, ◌≡◌}
use Rattle.std.specs.Arc.{arc_value}
use Rattle.ten_core.specs.Tenants.{origin_of}
use Rattle.ten_shell.specs.Shells.{IsSameTenant, run_of}
use Rattle.ten_shell.specs.declared.shell.Shell.{Shell}

pub same-run : (r s : Shell) → IsSameTenant r s → run_of s ≡ run_of r
same-run r s a = ap (λ x. origin_of (arc_value x)) a.origin
