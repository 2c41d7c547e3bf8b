-- What names stand for (IEEE 1364-2005, clause 12.5).
use Rattle.std.specs.Prelude.{ℕ, ℤ, pos, List, Option, Some, None, if◌then◌else◌}
use Rattle.std.specs.Str.{bytes_eq}
use Rattle.vl_design.specs.declared.design.Form.{Form}
use Rattle.vl_design.specs.Width.{unsigned}
use Rattle.vl_design.specs.Rows.{range_width}
use Rattle.vl_flat.specs.declared.binding.Binding.{Binding}
use Rattle.vl_flat.specs.declared.binding.Binding.TheVariants.{Constant, Signal, Function}
use Rattle.vl_flat.specs.declared.binding.Shape.{Shape}

-- what each name stands for
abbrev pub Env : Type 0
Env = List ℕ → Option Binding

abbrev pub none : Env
none = λ t. None

abbrev pub bind : Env → List ℕ → Binding → Env
bind env name b = λ t. if bytes_eq name t then Some b else env t

-- names, and the functions that calls name: in a function its result is a variable, and a call names a function
pub record Scope : Type 0 where
  pub names : Env
  pub calls : Env

-- the scope of a module's own expressions
abbrev pub plainly : Env → Scope
plainly env = record { names = env; calls = env }

-- the form of a signal, of a memory's words, or of a parameter
abbrev pub shape_form : Shape → Form
shape_form s = record { width = range_width s.left s.right; signed = s.signed }

abbrev pub form_of : Option Binding → Form
form_of None = unsigned 1
form_of (Some (Constant c)) = record { width = c.width; signed = c.signed }
form_of (Some (Signal k s)) = shape_form s
form_of (Some (Function k f)) = f

-- the numbers of the highest and the lowest bit
abbrev pub range_of : Option Binding → ℤ × ℤ
range_of None = (pos 0, pos 0)
range_of (Some (Constant c)) = (c.left, c.right)
range_of (Some (Signal k s)) = (s.left, s.right)
range_of (Some (Function k f)) = (pos 0, pos 0)

-- the number of a signal or a function
abbrev pub number_of : Option Binding → ℕ
number_of None = 0
number_of (Some (Constant c)) = 0
number_of (Some (Signal k s)) = k
number_of (Some (Function k f)) = k
