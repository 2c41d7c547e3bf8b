-- What the laws on widths speak of: expressions whose names stand for what they are used as (IEEE 1364-2005, clause 5.2), and
-- designs in which the numbers of names stand for the same (clause 12).
use Rattle.std.specs.Prelude.{◌≡◌, ℕ, ◌<◌, List, length, ⊤, Option, Some}
use Rattle.vl_flat.specs.vl_design.specs.declared.design.Form.{Form}
use Rattle.vl_flat.specs.vl_design.specs.Width as w
use Rattle.vl_flat.specs.declared.binding.Binding.{Binding}
use Rattle.vl_flat.specs.declared.binding.Binding.TheVariants.{Signal, Function}
use Rattle.vl_flat.specs.declared.binding.Shape.{Shape}
use Rattle.vl_flat.specs.Surface as x
use Rattle.vl_flat.specs.Scopes.{Scope, shape_form}

-- the numbers of an instance's names stand, in a design, for signals and functions of the widths and signs of these names
pub record StandsIn (scope : Scope) (design : w.Names) : Type 0 where
  pub signals : (t : List ℕ) (k : ℕ) (s : Shape) → scope.names t ≡ Some (Signal k s) → w.signal_form design.rows k ≡ shape_form s
  pub inside : (t : List ℕ) (k : ℕ) (s : Shape) → scope.names t ≡ Some (Signal k s) → k < length design.rows
  pub functions : (t : List ℕ) (k : ℕ) (f : Form) → scope.calls t ≡ Some (Function k f) → w.result_form design k ≡ f

-- a name that is read as a value is no function's
abbrev pub IsValue : Option Binding → Type 0
IsValue (Some (Function k f)) = ⊥
IsValue b = ⊤

-- a name that is called is a function's
abbrev pub IsCalled : Option Binding → Type 0
IsCalled (Some (Function k f)) = ⊤
IsCalled b = ⊥

module _ (scope : Scope) where
  abbrev mutual
    -- each name of the expression stands for what it is used as
    pub IsResolved : x.Ex → Type 0
    IsResolved (x.Number at n) = ⊤
    IsResolved (x.Text at text) = ⊤
    IsResolved (x.Named at t ss) = IsValue (scope.names t) × AreResolvedSelects ss
    IsResolved (x.Paren at a) = IsResolved a
    IsResolved (x.Unary at op a) = IsResolved a
    IsResolved (x.Binary at op a b) = IsResolved a × IsResolved b
    IsResolved (x.Choice at t a b) = IsResolved t × IsResolved a × IsResolved b
    IsResolved (x.Joined at es) = AreResolved es
    IsResolved (x.Repeated at n es) = IsResolved n × AreResolved es
    IsResolved (x.Called at t es) = IsCalled (scope.calls t) × AreResolved es
    IsResolved (x.System at name given) = AreResolvedArgs given

    pub AreResolved : x.Exs → Type 0
    AreResolved x.NoExs = ⊤
    AreResolved (x.MoreExs e es) = IsResolved e × AreResolved es

    pub AreResolvedSelects : x.Selects → Type 0
    AreResolvedSelects x.NoSelects = ⊤
    AreResolvedSelects (x.Index at i others) = IsResolved i × AreResolvedSelects others
    AreResolvedSelects (x.Range at mark l r others) = IsResolved l × IsResolved r × AreResolvedSelects others

    pub AreResolvedArgs : x.Args → Type 0
    AreResolvedArgs x.NoArgs = ⊤
    AreResolvedArgs (x.NullArg others) = AreResolvedArgs others
    AreResolvedArgs (x.MoreArgs e others) = IsResolved e × AreResolvedArgs others
