-- Constant expressions: the value of an expression over no signals (IEEE 1364-2005, clauses 4.10 and 5).
use Rattle.std.specs.Prelude.{ℕ, ◌-◌, ◌%◌, ◌^◌, ℤ, pos, neg_ℤ, int_le, int_lt, Bool, ◌&&◌, [], if◌then◌else◌}
use Rattle.std.specs.Int.RustNames.{unsigned_abs}
use Rattle.vl_design.specs.declared.design.Form.{Form}
use Rattle.vl_design.specs.Width.{Scope, form, assigned}
use Rattle.vl_design.specs.Value.{Sample, value, own_value, own_reading}
use Rattle.vl_design.specs.Placed.{Exp}
use Rattle.vl_design.specs.Plainly.{exp}

-- no signals and no functions
abbrev pub closed : Scope
closed = record { names = record { rows = []; signals = []; funs = [] }; files = []; call = λ f args. 0 }

abbrev pub nothing : Sample
nothing = record { values = []; time = 0; answer = 0 }

-- the width and the sign of a constant read for itself
abbrev pub constant_form : Exp → Form
constant_form e = form closed.names (exp e)

-- its value read for itself, and the whole number that this is by its own sign
abbrev pub constant_value : Exp → ℕ
constant_value e = own_value closed nothing (exp e)

abbrev pub constant_reading : Exp → ℤ
constant_reading e = own_reading closed nothing (exp e)

-- its value as assigned to so many bits
abbrev pub assigned_value : Exp → ℕ → ℕ
assigned_value e w = value closed nothing (exp e) (assigned w (constant_form e)) % 2 ^ w

-- ---- where a whole number has to be in a range, one outside is a fault of its own, and counts as the nearest number at the
-- limit or just outside

-- a whole number, or the nearest one from low to high
abbrev pub nearest : ℤ → ℤ → ℤ → ℤ
nearest low high z = if int_lt z low then low else if int_lt high z then high else z

abbrev pub lowest : ℤ
lowest = neg_ℤ (pos (2 ^ 31))

abbrev pub highest : ℤ
highest = pos (2 ^ 31 - 1)

-- a whole number kept within 32 bits
abbrev pub clamped : ℤ → ℤ
clamped z = nearest lowest highest z

abbrev pub is_within : ℤ → ℤ → ℤ → Bool
is_within low high z = int_le low z && int_le z high

-- the bound of a range: from -2^31 to 2^31 - 1
abbrev pub is_bound : Exp → Bool
is_bound e = is_within lowest highest (constant_reading e)

abbrev pub bound_of : Exp → ℤ
bound_of e = clamped (constant_reading e)

-- the count of a replication: from 1 to 128
abbrev pub is_count : Exp → Bool
is_count e = is_within (pos 1) (pos 128) (constant_reading e)

-- the width behind `+:` or `-:`: at least 1
abbrev pub is_width : Exp → Bool
is_width e = int_le (pos 1) (constant_reading e)

-- a count or a width; one past 128 counts as 129
abbrev pub count_of : Exp → ℕ
count_of e = unsigned_abs (nearest (pos 1) (pos 129) (constant_reading e))

-- how often `repeat` does its body: never where the count is negative; no more than 2^32 - 1 times
abbrev pub turns_of : Exp → ℕ
turns_of e = unsigned_abs (nearest (pos 0) (pos (2 ^ 32 - 1)) (constant_reading e))
