-- The bodies of processes and functions: what each is for, and what numbers name in it (IEEE 1364-2005, clauses 6, 9.9 and
-- 10.4).
use Rattle.std.specs.Prelude.{ℕ, Bool, false, List, [], slice_get, Option, Some, None}
use Rattle.vl_design.specs.declared.design.ProcKind.{ProcKind}
use Rattle.vl_design.specs.declared.design.ProcKind.TheVariants as k
use Rattle.vl_design.specs.declared.design.Signal.{Signal}
use Rattle.vl_design.specs.declared.design.SigKind.{SigKind}
use Rattle.vl_design.specs.Placed.{Func, Process, Design}
use Rattle.vl_check.specs.declared.place.Role.{Role}
use Rattle.vl_check.specs.declared.place.Role.TheVariants.{Initial, Clocked, Combinational, Function}

abbrev pub role_of : ProcKind → Role
role_of k.Init = Initial
role_of k.Rise = Clocked
role_of k.Fall = Clocked
role_of k.Comb = Combinational
role_of k.Assign = Combinational

-- what a body is for; the signals of the design, and those that are its own
pub record Setting : Type 0 where
  pub role : Role
  pub shared : List Signal
  pub own : List Signal

abbrev pub of_process : Design → Process → Setting
of_process d a = record { role = role_of a.kind; shared = d.signals; own = [] }

abbrev pub of_function : Design → Func → Setting
of_function d f = record { role = Function; shared = d.signals; own = f.locals }

abbrev pub signal_is : (SigKind → Bool) → Option Signal → Bool
signal_is test None = false
signal_is test (Some s) = test s.kind

-- the kind of the signal of a number passes a test
abbrev pub kind_is : (SigKind → Bool) → List Signal → ℕ → Bool
kind_is test signals k = signal_is test (slice_get signals k)
