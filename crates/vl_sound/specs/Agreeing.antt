-- Names that stand, in an instance and in its design, for what their declarations say (IEEE 1364-2005, clauses 4 and 12).
use Rattle.std.specs.Prelude.{◌≡◌, ℕ, ◌^◌, ◌<◌, List, length, ⊤, slice_get, Option, Some}
use Rattle.vl_names.specs.vl_scope.specs.declared.kind.Class.{Class}
use Rattle.vl_names.specs.vl_scope.specs.declared.kind.Class.TheVariants as c
use Rattle.vl_flat.specs.vl_design.specs.declared.design.Form.{Form}
use Rattle.vl_flat.specs.vl_design.specs.Rows.{range_width}
use Rattle.vl_flat.specs.vl_design.specs.Syntax.{Row, Fun}
use Rattle.vl_flat.specs.vl_design.specs.Width.{Names, result_form}
use Rattle.vl_flat.specs.vl_design.specs.Sound.{IsWidth, HasValue, IsMem}
use Rattle.vl_flat.specs.declared.binding.Binding.{Binding}
use Rattle.vl_flat.specs.declared.binding.Binding.TheVariants as b
use Rattle.vl_flat.specs.declared.binding.Shape.{Shape}
use Rattle.vl_flat.specs.Scopes.{Scope}
use Rattle.vl_sound.specs.Used.{Classes}

-- what a name of a class stands for; a parameter's value is within its width
abbrev pub StandsAs : Class → Option Binding → Type 0
StandsAs c.Port (Some (b.Signal k s)) = HasValue s.kind
StandsAs c.Net (Some (b.Signal k s)) = HasValue s.kind
StandsAs c.Variable (Some (b.Signal k s)) = HasValue s.kind
StandsAs c.Memory (Some (b.Signal k s)) = IsMem s.kind
StandsAs (c.Parameter n) (Some (b.Constant a)) = a.value < 2 ^ a.width
StandsAs (c.Function n) (Some (b.Function k f)) = ⊤
StandsAs c.Instance b = ⊤
StandsAs class b = ⊥

-- each name stands in the scope for what it is
pub record Agrees (k : Classes) (scope : Scope) : Type 0 where
  pub read : (t : List ℕ) (class : Class) → k.read t ≡ Some class → StandsAs class (scope.names t)
  pub called : (t : List ℕ) (n : ℕ) → k.called t ≡ Some (c.Function n) → StandsAs (c.Function n) (scope.calls t)

-- a row of a design is what a signal's shape says, and has from 1 to 128 bits
pub record IsRowOf (s : Shape) (r : Row) : Type 0 where
  pub kind : r.kind ≡ s.kind
  pub width : r.width ≡ range_width s.left s.right
  pub signed : r.signed ≡ s.signed
  pub wide : IsWidth r.width

-- the numbers of a scope's names stand in the design for rows and functions of these names
pub record StandsFor (k : Classes) (scope : Scope) (design : Names) : Type 0 where
  pub signals : (t : List ℕ) (j : ℕ) (s : Shape) → scope.names t ≡ Some (b.Signal j s) → (r : Row) × (slice_get design.rows j ≡ Some r) × IsRowOf s r
  pub results : (t : List ℕ) (j : ℕ) (f : Form) → scope.calls t ≡ Some (b.Function j f) → result_form design j ≡ f
  pub inputs : (t : List ℕ) (n j : ℕ) (f : Form) → k.called t ≡ Some (c.Function n) → scope.calls t ≡ Some (b.Function j f) → (g : Fun) × (slice_get design.funs j ≡ Some g) × (n ≡ length g.inputs)
