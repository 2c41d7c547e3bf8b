-- Names that are used as what they are (IEEE 1364-2005, clauses 5.2, 9.2, 9.7.2, 10.4.3 and 17).
use Rattle.std.specs.Prelude.{◌≡◌, ℕ, ◌+◌, Bool, true, false, ◌||◌, List, drop, ⊤, All, Option, Some, None, option_map, if◌then◌else◌, codes}
use Rattle.std.specs.List.{list_any}
use Rattle.std.specs.Str.{bytes_eq}
use Rattle.vl_flat.specs.vl_tree.specs.declared.source_tree.Trigger.{Trigger}
use Rattle.vl_flat.specs.vl_tree.specs.declared.source_tree.Trigger.TheVariants.{Events}
use Rattle.vl_flat.specs.vl_tree.specs.declared.tree.UnaryOperator.TheVariants.{LogicalNot}
use Rattle.vl_names.specs.vl_scope.specs.declared.kind.Class.{Class}
use Rattle.vl_names.specs.vl_scope.specs.declared.kind.Class.TheVariants as c
use Rattle.vl_names.specs.vl_scope.specs.Declarations.{Declared, kind_in}
use Rattle.vl_names.specs.vl_uses.specs.Nodes.{is_load}
use Rattle.vl_flat.specs.Binding.{is_proper}
use Rattle.vl_flat.specs.Surface as x
use Rattle.vl_flat.specs.Items as i

-- ---- what names are

-- what a name is where it is read or written, and what it is where it is called
pub record Classes : Type 0 where
  pub read : List ℕ → Option Class
  pub called : List ℕ → Option Class

-- by a module's declarations
abbrev pub class_in : List Declared → List ℕ → Option Class
class_in ds t = option_map (λ kind. kind.class) (kind_in ds t)

abbrev pub classes : List Declared → Classes
classes ds = record { read = class_in ds; called = class_in ds }

abbrev pub declares : List i.Local → List ℕ → Bool
declares ls t = list_any (λ l. bytes_eq t l.name.name) ls

-- in a function's body its locals are variables; its own name is called as the function
abbrev pub within : Classes → i.Function → Classes
within k f = record {
  read = λ t. if declares f.locals t then Some c.Variable else k.read t;
  called = λ t. if declares (drop 1 f.locals) t then Some c.Variable else k.called t;
}

-- ---- selects behind a name

-- none, or one, which takes bits
abbrev pub AreOfBits : x.Selects → Type 0
AreOfBits x.NoSelects = ⊤
AreOfBits (x.Index at a x.NoSelects) = ⊤
AreOfBits (x.Range at mark l r x.NoSelects) = ⊤
AreOfBits ss = ⊥

-- the index of a word, and then those of a value
abbrev pub AreOfAWord : x.Selects → Type 0
AreOfAWord (x.Index at a others) = AreOfBits others
AreOfAWord ss = ⊥

-- what is read with such selects
abbrev pub IsRead : Option Class → x.Selects → Type 0
IsRead (Some c.Port) ss = AreOfBits ss
IsRead (Some c.Net) ss = AreOfBits ss
IsRead (Some c.Variable) ss = AreOfBits ss
IsRead (Some (c.Parameter n)) ss = AreOfBits ss
IsRead (Some c.Memory) ss = AreOfAWord ss
IsRead class ss = ⊥

-- what is written with such selects
abbrev pub IsWritten : Option Class → x.Selects → Type 0
IsWritten (Some c.Port) ss = AreOfBits ss
IsWritten (Some c.Net) ss = AreOfBits ss
IsWritten (Some c.Variable) ss = AreOfBits ss
IsWritten (Some c.Memory) ss = AreOfAWord ss
IsWritten class ss = ⊥

-- a signal's name in a trigger
abbrev pub IsWatched : Option Class → Type 0
IsWatched (Some c.Port) = ⊤
IsWatched (Some c.Net) = ⊤
IsWatched (Some c.Variable) = ⊤
IsWatched class = ⊥

abbrev pub how_many : x.Exs → ℕ
how_many x.NoExs = 0
how_many (x.MoreExs e es) = 1 + how_many es

-- the name of a memory
abbrev pub IsMemoryName : Classes → x.Ex → Type 0
IsMemoryName k (x.Named at t x.NoSelects) = k.read t ≡ Some c.Memory
IsMemoryName k e = ⊥

-- `$readmemh` takes a file's name and a memory's (clause 17.2.9)
abbrev pub IsLoad : Classes → x.Args → Type 0
IsLoad k (x.MoreArgs (x.Text at text) (x.MoreArgs e x.NoArgs)) = IsMemoryName k e
IsLoad k given = ⊥

-- the functions whose calls are operands (clauses 17.7 and 17.8)
abbrev pub is_operand : List ℕ → Bool
is_operand name = bytes_eq name (codes "$signed") || (bytes_eq name (codes "$unsigned") || bytes_eq name (codes "$time"))

-- the functions on files, whose calls are whole right sides or conditions (clause 17.2; where they stand is own)
abbrev pub is_on_files : List ℕ → Bool
is_on_files name = bytes_eq name (codes "$fopen") || (bytes_eq name (codes "$fread") || (bytes_eq name (codes "$fgetc") || bytes_eq name (codes "$feof")))

-- the one of two, by a test
abbrev pub ByTest : Bool → Type 0 → Type 0 → Type 0
ByTest true A B = A
ByTest false A B = B

module _ (k : Classes) where
  abbrev mutual
    -- each name of the expression is used as what it is; a function has as many arguments as inputs; a number has 1 to 128 bits,
    -- and its value fits them (clause 3.5.1; the bound is own)
    pub IsUsed : x.Ex → Type 0
    IsUsed (x.Number at n) = is_proper n ≡ true
    IsUsed (x.Text at text) = ⊤
    IsUsed (x.Named at t ss) = IsRead (k.read t) ss × AreUsedSelects ss
    IsUsed (x.Paren at a) = IsUsed a
    IsUsed (x.Unary at op a) = IsUsed a
    IsUsed (x.Binary at op a b) = IsUsed a × IsUsed b
    IsUsed (x.Choice at t a b) = IsUsed t × IsUsed a × IsUsed b
    IsUsed (x.Joined at es) = AreUsed es
    IsUsed (x.Repeated at n es) = IsUsed n × AreUsed es
    IsUsed (x.Called at t es) = (k.called t ≡ Some (c.Function (how_many es))) × AreUsed es
    IsUsed (x.System at name given) = (is_operand name ≡ true) × AreUsedArgs given

    pub AreUsed : x.Exs → Type 0
    AreUsed x.NoExs = ⊤
    AreUsed (x.MoreExs e es) = IsUsed e × AreUsed es

    pub AreUsedSelects : x.Selects → Type 0
    AreUsedSelects x.NoSelects = ⊤
    AreUsedSelects (x.Index at a others) = IsUsed a × AreUsedSelects others
    AreUsedSelects (x.Range at mark l r others) = IsUsed l × IsUsed r × AreUsedSelects others

    pub AreUsedArgs : x.Args → Type 0
    AreUsedArgs x.NoArgs = ⊤
    AreUsedArgs (x.NullArg others) = AreUsedArgs others
    AreUsedArgs (x.MoreArgs e others) = IsUsed e × AreUsedArgs others

  -- a right side: also a call of a function on files
  abbrev pub IsUsedSide : x.Ex → Type 0
  IsUsedSide (x.System at name given) = ((is_operand name || is_on_files name) ≡ true) × AreUsedArgs given
  IsUsedSide (x.Paren at a) = IsUsedSide a
  IsUsedSide e = IsUsed e

  -- a condition: also behind one `!`
  abbrev pub IsUsedTest : x.Ex → Type 0
  IsUsedTest (x.Unary at LogicalNot a) = IsUsedSide a
  IsUsedTest (x.Paren at a) = IsUsedTest a
  IsUsedTest e = IsUsedSide e

  -- a system task
  abbrev pub IsUsedTask : List ℕ → x.Args → Type 0
  IsUsedTask name given = ByTest (is_load name) (IsLoad k given) (AreUsedArgs given)

  abbrev mutual
    -- a left side
    pub IsUsedLeft : x.Left → Type 0
    IsUsedLeft (x.LeftName at t ss) = IsWritten (k.read t) ss × AreUsedSelects ss
    IsUsedLeft (x.LeftList at ls) = AreUsedLefts ls

    pub AreUsedLefts : x.Lefts → Type 0
    AreUsedLefts x.NoLefts = ⊤
    AreUsedLefts (x.MoreLefts l ls) = IsUsedLeft l × AreUsedLefts ls

  abbrev mutual
    pub IsUsedStatement : x.Statement → Type 0
    IsUsedStatement (x.Null at) = ⊤
    IsUsedStatement (x.Block at as') = AreUsedStatements as'
    IsUsedStatement (x.If at t a b) = IsUsedTest t × IsUsedStatement a × IsUsedStatement b
    IsUsedStatement (x.Case at wild e items) = IsUsed e × AreUsedItems items
    IsUsedStatement (x.For at l e t l' e' a) = IsUsedLeft l × IsUsedSide e × IsUsed t × IsUsedLeft l' × IsUsedSide e' × IsUsedStatement a
    IsUsedStatement (x.Repeat at n a) = IsUsed n × IsUsedStatement a
    IsUsedStatement (x.Assign at blocking l e) = IsUsedLeft l × IsUsedSide e
    IsUsedStatement (x.Task at name given) = IsUsedTask name given

    pub AreUsedStatements : x.Statements → Type 0
    AreUsedStatements x.NoStatements = ⊤
    AreUsedStatements (x.MoreStatements a as') = IsUsedStatement a × AreUsedStatements as'

    pub AreUsedItems : x.CaseItems → Type 0
    AreUsedItems x.NoItems = ⊤
    AreUsedItems (x.Labelled es a others) = AreUsed es × IsUsedStatement a × AreUsedItems others
    AreUsedItems (x.Default a others) = IsUsedStatement a × AreUsedItems others

  -- ---- items of a module

  abbrev pub IsUsedValue : Option x.Ex → Type 0
  IsUsedValue None = ⊤
  IsUsedValue (Some e) = IsUsed e

  -- a signal's own value is a right side
  abbrev pub IsUsedOwnValue : Option x.Ex → Type 0
  IsUsedOwnValue None = ⊤
  IsUsedOwnValue (Some e) = IsUsedSide e

  abbrev pub IsUsedRange : Option i.Bounds → Type 0
  IsUsedRange None = ⊤
  IsUsedRange (Some r) = IsUsed r.left × IsUsed r.right

  abbrev pub IsUsedType : i.DataType → Type 0
  IsUsedType i.Integer = ⊤
  IsUsedType (i.Vector signed range) = IsUsedRange range

  pub record IsUsedDeclared (d : i.Declared) : Type 0 where
    pub type : IsUsedType d.type
    pub words : IsUsedRange d.words
    pub value : IsUsedOwnValue d.value

  abbrev pub IsUsedTrigger : Trigger → Type 0
  IsUsedTrigger (Events es) = All (λ e. IsWatched (k.read e.name.name)) es
  IsUsedTrigger trigger = ⊤

  abbrev pub AreConnected : List i.Connection → Type 0
  AreConnected qs = All (λ q. IsUsedValue q.value) qs

-- a function of a module, where names are these
pub record IsUsedFunction (k : Classes) (f : i.Function) : Type 0 where
  pub locals : All (λ l. IsUsedType k l.type) f.locals
  pub body : IsUsedStatement (within k f) f.body

abbrev pub IsUsedItem : Classes → i.Item → Type 0
IsUsedItem k (i.Parameters type ps) = IsUsedType k type × All (λ a. IsUsed k a.value) ps
IsUsedItem k (i.Signals ds) = All (IsUsedDeclared k) ds
IsUsedItem k (i.Assigns as') = All (λ a. IsUsedLeft k a.target × IsUsedSide k a.value) as'
IsUsedItem k (i.Initial at a) = IsUsedStatement k a
IsUsedItem k (i.Always at trigger a) = IsUsedTrigger k trigger × IsUsedStatement k a
IsUsedItem k (i.Functions f) = IsUsedFunction k f
IsUsedItem k (i.Instantiates us) = AreConnected k us.overrides × All (λ u. AreConnected k u.connections) us.units

-- the names in each item of a module are used as what they are
abbrev pub AreUsedIn : Classes → i.Module → Type 0
AreUsedIn k m = All (IsUsedItem k) m.items
