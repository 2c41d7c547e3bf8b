-- Expressions, left sides and statements by the names, calls and system calls that stand in them.
use Rattle.std.specs.Prelude.{◌≡◌, ℕ, Bool, true, false, ◌⊎◌, List, ⊤, Option, Some, None, codes}
use Rattle.std.specs.Str.{bytes_eq}
use Rattle.vl_sound.specs.vl_tree.specs.declared.tree.UnaryOperator.TheVariants.{LogicalNot}
use Rattle.vl_sound.specs.vl_scope.specs.declared.kind.Class.{Class}
use Rattle.vl_sound.specs.vl_scope.specs.declared.kind.Class.TheVariants as c
use Rattle.vl_sound.specs.vl_uses.specs.Nodes.{is_load}
use Rattle.ten_plan.specs.vl_design.specs.Calls.{task_of}
use Rattle.ten_plan.specs.vl_design.specs.Plainly as plain
use Rattle.vl_accept.specs.vl_sites.specs.Answers.{gives_answer}
use Rattle.vl_sound.specs.vl_flat.specs.Surface as x
use Rattle.vl_sound.specs.vl_flat.specs.Scopes.{Scope}
use Rattle.vl_sound.specs.vl_flat.specs.Expressions.{args, keeps_texts}
use Rattle.vl_sound.specs.Used.{Classes, IsLoad, is_operand, is_on_files}
use Rattle.vl_sound.specs.Agreeing.{Agrees}
use Rattle.elab_laws.specs.Names.{is_misnamed}

-- a name with its selects, a call of a function, or a system call
pub data Leaf : Type 0 where
  Name : (t : List ℕ) (ss : x.Selects) → Leaf
  Call : (t : List ℕ) → Leaf
  System : (name : List ℕ) → Leaf

-- each name of a left side is so, with its selects
module _ (N : List ℕ → x.Selects → Type 0) where
  abbrev mutual
    pub LeftAll : x.Left → Type 0
    LeftAll (x.LeftName at t ss) = N t ss
    LeftAll (x.LeftList at ls) = LeftsAll ls

    pub LeftsAll : x.Lefts → Type 0
    LeftsAll x.NoLefts = ⊤
    LeftsAll (x.MoreLefts l ls) = LeftAll l × LeftsAll ls

module _ (L : Leaf → Type 0) where
  abbrev mutual
    -- each leaf of the expression is so; counts and right bounds are numbers in a design
    pub Has : x.Ex → Type 0
    Has (x.Number at n) = ⊤
    Has (x.Text at text) = ⊤
    Has (x.Named at t ss) = L (Name t ss) × SelectsHave ss
    Has (x.Paren at a) = Has a
    Has (x.Unary at op a) = Has a
    Has (x.Binary at op a b) = Has a × Has b
    Has (x.Choice at t a b) = Has t × Has a × Has b
    Has (x.Joined at es) = ExsHave es
    Has (x.Repeated at n es) = ExsHave es
    Has (x.Called at t es) = L (Call t) × ExsHave es
    Has (x.System at name given) = L (System name) × ArgsHave given

    pub ExsHave : x.Exs → Type 0
    ExsHave x.NoExs = ⊤
    ExsHave (x.MoreExs e es) = Has e × ExsHave es

    pub SelectsHave : x.Selects → Type 0
    SelectsHave x.NoSelects = ⊤
    SelectsHave (x.Index at a others) = Has a × SelectsHave others
    SelectsHave (x.Range at mark l r others) = Has l × SelectsHave others

    pub ArgsHave : x.Args → Type 0
    ArgsHave x.NoArgs = ⊤
    ArgsHave (x.NullArg others) = ArgsHave others
    ArgsHave (x.MoreArgs e others) = Has e × ArgsHave others

  -- each leaf of an index in the left side is so
  abbrev pub LeftHas : x.Left → Type 0
  LeftHas l = LeftAll (λ t ss. SelectsHave ss) l

  abbrev pub LeftsHave : x.Lefts → Type 0
  LeftsHave ls = LeftsAll (λ t ss. SelectsHave ss) ls

  abbrev pub ValueHas : Option x.Ex → Type 0
  ValueHas None = ⊤
  ValueHas (Some e) = Has e

abbrev pub is_time : List ℕ → Bool
is_time name = bytes_eq name (codes "$time")

abbrev pub is_fill : List ℕ → Bool
is_fill name = bytes_eq name (codes "$fread")

-- a leaf of an expression, in an initial or a clocked process or elsewhere: elsewhere none asks for the time
abbrev pub IsPlain : Bool → Leaf → Type 0
IsPlain timed (Name t ss) = ⊤
IsPlain timed (Call t) = ⊤
IsPlain timed (System name) = (is_operand name ≡ true) × (timed ≡ false → is_time name ≡ false)

abbrev pub IsParameter : Option Class → Type 0
IsParameter (Some (c.Parameter n)) = ⊤
IsParameter class = ⊥

abbrev pub IsBareParameter : Option Class → x.Selects → Type 0
IsBareParameter class x.NoSelects = IsParameter class
IsBareParameter class ss = ⊥

-- a leaf of a constant
abbrev pub IsFixed : Classes → Leaf → Type 0
IsFixed k (Name t ss) = IsBareParameter (k.read t) ss
IsFixed k (Call t) = ⊥
IsFixed k (System name) = ⊥

-- what a process may assign
abbrev pub IsStored : Option Class → Type 0
IsStored (Some c.Variable) = ⊤
IsStored (Some c.Memory) = ⊤
IsStored class = ⊥

-- in each instance a call of `$save` has a name that is fit for files
abbrev pub IsNamedCall : List ℕ → x.Args → Type 0
IsNamedCall name given = (path : List ℕ) (scope : Scope) → is_misnamed (task_of path name (plain.args (args scope (keeps_texts name) given))) ≡ false

-- a net, or a port of which only the direction is told
abbrev pub IsDriven : Option Class → Type 0
IsDriven (Some c.Port) = ⊤
IsDriven (Some c.Net) = ⊤
IsDriven class = ⊥

module _ (k : Classes) where
  -- `$fread` fills a variable
  abbrev pub IsFilled : x.Args → Type 0
  IsFilled (x.MoreArgs (x.Named at t x.NoSelects) others) = k.read t ≡ Some c.Variable
  IsFilled given = ⊥

  -- the call gives an answer in each instance where names are these
  abbrev pub IsAnswering : List ℕ → x.Args → Type 0
  IsAnswering name given = (path : List ℕ) (scope : Scope) → Agrees k scope → gives_answer (task_of path name (plain.args (args scope (keeps_texts name) given))) ≡ true

  -- a call of a function on files: only where time is asked for
  pub record IsOnFiles (timed : Bool) (name : List ℕ) (given : x.Args) : Type 0 where
    pub timely : timed ≡ true
    pub named : is_on_files name ≡ true
    pub filled : is_fill name ≡ true → IsFilled given
    pub answers : IsAnswering name given

  pub record IsTask (timed : Bool) (name : List ℕ) (given : x.Args) : Type 0 where
    pub loaded : is_load name ≡ true → IsLoad k given
    pub filled : is_fill name ≡ true → IsFilled given
    pub read : is_load name ≡ false → ArgsHave (IsPlain timed) given
    pub saves : IsNamedCall name given

  module _ (timed : Bool) where
    abbrev pub IsCall : List ℕ → x.Args → Type 0
    IsCall name given = IsPlain timed (System name) ⊎ IsOnFiles timed name given

    -- a right side
    abbrev pub IsSide : x.Ex → Type 0
    IsSide (x.System at name given) = IsCall name given × ArgsHave (IsPlain timed) given
    IsSide (x.Paren at a) = IsSide a
    IsSide e = Has (IsPlain timed) e

    -- a condition: also behind one `!`
    abbrev pub IsTest : x.Ex → Type 0
    IsTest (x.Unary at LogicalNot a) = IsSide a
    IsTest (x.Paren at a) = IsTest a
    IsTest e = IsSide e

    -- a name on a left side in a process
    abbrev pub IsStoredName : List ℕ → x.Selects → Type 0
    IsStoredName t ss = IsStored (k.read t) × SelectsHave (IsPlain timed) ss

    abbrev pub IsLeft : x.Left → Type 0
    IsLeft l = LeftAll IsStoredName l

    abbrev pub AreLefts : x.Lefts → Type 0
    AreLefts ls = LeftsAll IsStoredName ls

    -- one on that of a continuous assignment: its indices are constant
    abbrev pub IsDrivenName : List ℕ → x.Selects → Type 0
    IsDrivenName t ss = IsDriven (k.read t) × (SelectsHave (IsFixed k) ss × SelectsHave (IsPlain timed) ss)

    abbrev pub IsDrivenLeft : x.Left → Type 0
    IsDrivenLeft l = LeftAll IsDrivenName l

    abbrev mutual
      -- a statement of a process: it assigns variables and memories, and asks for the time only where it may
      pub IsBody : x.Statement → Type 0
      IsBody (x.Null at) = ⊤
      IsBody (x.Block at as') = AreBodies as'
      IsBody (x.If at t a b) = IsTest t × IsBody a × IsBody b
      IsBody (x.Case at wild e items) = Has (IsPlain timed) e × HaveBodies items
      IsBody (x.For at l e t l' e' a) = IsLeft l × IsSide e × Has (IsPlain timed) t × IsLeft l' × IsSide e' × IsBody a
      IsBody (x.Repeat at n a) = IsBody a
      IsBody (x.Assign at blocking l e) = IsLeft l × IsSide e
      IsBody (x.Task at name given) = IsTask timed name given

      pub AreBodies : x.Statements → Type 0
      AreBodies x.NoStatements = ⊤
      AreBodies (x.MoreStatements a as') = IsBody a × AreBodies as'

      pub HaveBodies : x.CaseItems → Type 0
      HaveBodies x.NoItems = ⊤
      HaveBodies (x.Labelled es a others) = ExsHave (IsPlain timed) es × IsBody a × HaveBodies others
      HaveBodies (x.Default a others) = IsBody a × HaveBodies others
