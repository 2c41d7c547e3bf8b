-- The plain data of types and ranges.
use Rattle.std.specs.Prelude.{ℤ, ◌-ℤ◌, Bool, ◌||◌, if◌then◌else◌}
use Rattle.elab_plain.specs.vl_flat.specs.declared.binding.Constant.{Constant}
use Rattle.vl_design.specs.Placed.{Exp}
use Rattle.elab_plain.specs.vl_flat.specs.Constants.{constant_form, constant_value}
use Rattle.elab_plain.specs.vl_flat.specs.Expressions.{falls}
use Rattle.elab_plain.specs.vl_flat.specs.Parameters as p
use Rattle.elab_constant.specs.declared.ranges.Range.{Range}
use Rattle.elab_constant.specs.declared.scope.Value.{Value}

-- the numbers of the highest and the lowest bit
abbrev pub numbers : Range → ℤ × ℤ
numbers r = (r.left, r.right)

abbrev pub constant_of : Value → Constant
constant_of v = record { value = v.bits.value; width = v.bits.width; signed = v.signed; left = v.left; right = v.right }

-- a parameter's value with bits of its own
abbrev pub unranged : Bool → Exp → Constant
unranged signed e = p.unranged (constant_value e) (constant_form e).width (signed || (constant_form e).signed)

-- how far the bit of a number is from the lowest one
abbrev pub distance : ℤ × ℤ → ℤ → ℤ
distance r z = if falls r then z -ℤ r.1 else r.1 -ℤ z
