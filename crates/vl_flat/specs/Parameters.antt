-- The values of parameters (IEEE 1364-2005, clauses 4.10 and 12.2).
use Rattle.std.specs.Prelude.{ℕ, ℤ, pos, ◌-ℤ◌, Bool, ◌||◌, List, [], ◌++◌, Option, Some, None}
use Rattle.vl_flat.specs.declared.binding.Constant.{Constant}
use Rattle.vl_design.specs.declared.stop.Stop.{Stop}
use Rattle.vl_flat.specs.Items.{DataType, Vector, Parameter}
use Rattle.vl_design.specs.Placed.{Exp}
use Rattle.vl_flat.specs.Scopes.{Env, plainly}
use Rattle.vl_flat.specs.Constants.{constant_form, constant_value, assigned_value}
use Rattle.vl_flat.specs.Expressions.{constant}
use Rattle.vl_flat.specs.ExpressionFaults.{faults}
use Rattle.vl_flat.specs.Ranges.{parameter_range, is_signed, type_faults, bits_in}

-- a value of so many bits, numbered from 0
abbrev pub unranged : ℕ → ℕ → Bool → Constant
unranged v w signed = record { value = v; width = w; signed = signed; left = pos w -ℤ pos 1; right = pos 0 }

-- a value as assigned to bits with these numbers
abbrev pub ranged : Exp → ℤ × ℤ → Bool → Constant
ranged e r signed = record { value = assigned_value e (bits_in r); width = bits_in r; signed = signed; left = r.0; right = r.1 }

-- what a parameter of a type is whose value is this constant: a range or `integer` converts it, `signed` alone keeps its
-- width, and without a type it keeps its sign too
abbrev pub converted : Env → DataType → Exp → Constant
converted env (Vector signed None) e = unranged (constant_value e) (constant_form e).width (signed || (constant_form e).signed)
converted env type e = ranged e (parameter_range env type) (is_signed type)

-- the value of a parameter: what stands in place of its default, or the default
abbrev pub value_of : Env → Option Exp → Parameter → Exp
value_of env (Some e) a = e
value_of env None a = constant (plainly env) a.value

-- a default in whose place something stands isn't judged
abbrev pub value_faults : Env → Option Exp → Parameter → List Stop
value_faults env (Some e) a = []
value_faults env None a = faults (plainly env) a.value

abbrev pub parameter_faults : Env → DataType → Option Exp → Parameter → List Stop
parameter_faults env type given a = type_faults env type a.name.place ++ value_faults env given a
