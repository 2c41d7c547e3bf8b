-- The types of declarations: their sign and the numbers of their bits (IEEE 1364-2005, clauses 4.3, 4.8 and 4.9), and their
-- faults. A range of more than 128 bits is one, and counts as one of 129.
use Rattle.std.specs.Prelude.{ℕ, nat_lt, ℤ, pos, ◌+ℤ◌, ◌-ℤ◌, Bool, true, List, [], ◌++◌, Option, Some, None, is_some, if◌then◌else◌}
use Rattle.vl_design.specs.vl_base.specs.declared.place.Place.{Place}
use Rattle.vl_design.specs.declared.design.Form.{Form}
use Rattle.vl_design.specs.Rows.{range_width}
use Rattle.vl_design.specs.declared.stop.Stop.{Stop}
use Rattle.vl_flat.specs.Surface.{Ex}
use Rattle.vl_flat.specs.Items.{Bounds, DataType, Integer, Vector}
use Rattle.vl_design.specs.Stops.{construct_if}
use Rattle.vl_flat.specs.Scopes.{Env, plainly}
use Rattle.vl_flat.specs.Constants.{is_bound, bound_of}
use Rattle.vl_flat.specs.Expressions.{constant, falls}
use Rattle.vl_flat.specs.ExpressionFaults.{faults, constant_must}

-- the two bounds as they are written
abbrev pub bounds_of : Env → Bounds → ℤ × ℤ
bounds_of env r = (bound_of (constant (plainly env) r.left), bound_of (constant (plainly env) r.right))

abbrev pub optional_bounds : Env → Option Bounds → ℤ × ℤ
optional_bounds env None = (pos 0, pos 0)
optional_bounds env (Some r) = bounds_of env r

abbrev pub written : Env → DataType → ℤ × ℤ
written env Integer = (pos 31, pos 0)
written env (Vector signed range) = optional_bounds env range

abbrev pub is_signed : DataType → Bool
is_signed Integer = true
is_signed (Vector signed range) = signed

abbrev pub bits_in : ℤ × ℤ → ℕ
bits_in r = range_width r.0 r.1

abbrev pub is_wide : Env → DataType → Bool
is_wide env type = nat_lt 128 (bits_in (written env type))

-- 129 bits that are numbered in the direction of a range, from its right bound on
abbrev pub too_wide : ℤ × ℤ → ℤ × ℤ
too_wide r = (if falls r then r.1 +ℤ pos 128 else r.1 -ℤ pos 128, r.1)

-- the numbers of the highest and the lowest bit of a signal
abbrev pub type_range : Env → DataType → ℤ × ℤ
type_range env type = if is_wide env type then too_wide (written env type) else written env type

-- those of a parameter: one that is too wide counts as one bit, since nothing behind it is judged
abbrev pub parameter_range : Env → DataType → ℤ × ℤ
parameter_range env type = if is_wide env type then (pos 0, pos 0) else written env type

-- a declaration says which bits there are: by a range, or as an `integer`
abbrev pub has_range : DataType → Bool
has_range Integer = true
has_range (Vector signed range) = is_some range

abbrev pub type_form : Env → DataType → Form
type_form env type = record { width = bits_in (type_range env type); signed = is_signed type }

-- ---- faults

abbrev pub bound_faults : Env → Ex → List Stop
bound_faults env e = faults (plainly env) e ++ constant_must (plainly env) is_bound e 10

abbrev pub range_faults : Env → Option Bounds → List Stop
range_faults env None = []
range_faults env (Some r) = bound_faults env r.left ++ bound_faults env r.right

abbrev pub range_in : DataType → Option Bounds
range_in Integer = None
range_in (Vector signed range) = range

-- the faults of the type of a name that is declared at this place
abbrev pub type_faults : Env → DataType → Place → List Stop
type_faults env type at = range_faults env (range_in type) ++ construct_if (is_wide env type) at 10
