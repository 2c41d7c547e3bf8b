-- What names stand for, without the numbers of signals and functions (IEEE 1364-2005, clause 12).
use Rattle.std.specs.Prelude.{Option, Some, None}
use Rattle.vl_flat.specs.declared.binding.Binding.{Binding}
use Rattle.vl_flat.specs.declared.binding.Binding.TheVariants.{Constant, Signal, Function}
use Rattle.vl_flat.specs.Scopes.{Env, Scope}

abbrev pub bare : Binding → Binding
bare (Constant c) = Constant c
bare (Signal k s) = Signal 0 s
bare (Function k f) = Function 0 f

abbrev pub bare_of : Option Binding → Option Binding
bare_of None = None
bare_of (Some y) = Some (bare y)

abbrev pub bare_env : Env → Env
bare_env env = λ t. bare_of (env t)

abbrev pub bare_scope : Scope → Scope
bare_scope s = record { names = bare_env s.names; calls = bare_env s.calls }
