-- The parts of a source that may be at fault by their names: numbers, names, calls, concatenations and system calls, each
-- with where it stands. Types of trees may hold each other; a row is a list of parts, and a part in a place of its own is a
-- row of one.
use Rattle.std.specs.Prelude.{ℕ, ◌+◌, Bool, true, false, ◌&&◌, if◌then◌else◌, List, [], ◌∷◌, ◌++◌, length, map, flat_map, sum_by, Option, Some, None, is_some, codes}
use Rattle.std.specs.List.{list_any}
use Rattle.std.specs.Str.{bytes_eq}
use Rattle.vl_tree.specs.vl_base.specs.declared.place.Place.{Place}
use Rattle.vl_tree.specs.vl_base.specs.declared.number.Number.{Number as Numeral}
use Rattle.vl_tree.specs.declared.tree.Identifier.{Identifier}
use Rattle.vl_tree.specs.declared.tree.Expression as e
use Rattle.vl_tree.specs.declared.tree.Expression.{Expression}
use Rattle.vl_tree.specs.declared.tree.Choice as c
use Rattle.vl_tree.specs.declared.tree.Binary as b
use Rattle.vl_tree.specs.declared.tree.Primary as p
use Rattle.vl_tree.specs.declared.tree.Primary.{Primary}
use Rattle.vl_tree.specs.declared.tree.Name as n
use Rattle.vl_tree.specs.declared.tree.Name.{Name}
use Rattle.vl_tree.specs.declared.tree.Select as x
use Rattle.vl_tree.specs.declared.tree.Select.{Select}
use Rattle.vl_tree.specs.declared.tree.Bound as d
use Rattle.vl_tree.specs.declared.tree.SystemCall as y
use Rattle.vl_tree.specs.declared.tree.SystemCall.{SystemCall}
use Rattle.vl_tree.specs.declared.tree.SystemArgument as g
use Rattle.vl_tree.specs.declared.source_tree.Module.{Module}
use Rattle.vl_tree.specs.declared.source_tree.ParameterGroup.{ParameterGroup}
use Rattle.vl_tree.specs.declared.source_tree.ParameterType.{ParameterType}
use Rattle.vl_tree.specs.declared.source_tree.ParameterType.TheVariants as pt
use Rattle.vl_tree.specs.declared.source_tree.ParameterAssignment.{ParameterAssignment}
use Rattle.vl_tree.specs.declared.source_tree.Ports.{Ports}
use Rattle.vl_tree.specs.declared.source_tree.Ports.TheVariants as ps
use Rattle.vl_tree.specs.declared.source_tree.PortDeclaration.{PortDeclaration}
use Rattle.vl_tree.specs.declared.source_tree.PortDeclaration.TheVariants as pd
use Rattle.vl_tree.specs.declared.source_tree.DeclarationAssignment.{DeclarationAssignment}
use Rattle.vl_tree.specs.declared.source_tree.Range.{Range}
use Rattle.vl_tree.specs.declared.source_tree.Item.{Item}
use Rattle.vl_tree.specs.declared.source_tree.Item.TheVariants as i
use Rattle.vl_tree.specs.declared.source_tree.VariableType.{VariableType}
use Rattle.vl_tree.specs.declared.source_tree.VariableMore.{VariableMore}
use Rattle.vl_tree.specs.declared.source_tree.VariableMore.TheVariants as vm
use Rattle.vl_tree.specs.declared.source_tree.Assignment.{Assignment}
use Rattle.vl_tree.specs.declared.source_tree.Trigger.{Trigger}
use Rattle.vl_tree.specs.declared.source_tree.Trigger.TheVariants as tr
use Rattle.vl_tree.specs.declared.source_tree.Function.{Function}
use Rattle.vl_tree.specs.declared.source_tree.FunctionPort.{FunctionPort}
use Rattle.vl_tree.specs.declared.source_tree.FunctionDeclaration.{FunctionDeclaration}
use Rattle.vl_tree.specs.declared.source_tree.FunctionDeclaration.TheVariants as fd
use Rattle.vl_tree.specs.declared.source_tree.Instance.{Instance}
use Rattle.vl_tree.specs.declared.source_tree.NamedInstance.{NamedInstance}
use Rattle.vl_tree.specs.declared.source_tree.Connection.{Connection}
use Rattle.vl_tree.specs.declared.source_tree.Connection.TheVariants as cn
use Rattle.vl_tree.specs.declared.source_tree.Statement as s
use Rattle.vl_tree.specs.declared.source_tree.Statement.{Statement}
use Rattle.vl_tree.specs.declared.source_tree.CaseItem as ci
use Rattle.vl_tree.specs.declared.source_tree.CaseItem.{CaseItem}
use Rattle.vl_tree.specs.declared.source_tree.CaseKeyword.{CaseKeyword}
use Rattle.vl_tree.specs.declared.source_tree.CaseKeyword.TheVariants as ck
use Rattle.vl_tree.specs.declared.source_tree.Lvalue as l
use Rattle.vl_tree.specs.declared.source_tree.Lvalue.{Lvalue}
use Rattle.vl_uses.specs.declared.setting.Setting.{Setting}
use Rattle.vl_uses.specs.declared.setting.Side.{Side}
use Rattle.vl_uses.specs.declared.setting.Side.TheVariants.{Continuous, Procedural}
use Rattle.vl_uses.specs.declared.setting.Usage.{Usage}
use Rattle.vl_uses.specs.declared.setting.Usage.TheVariants.{Task, Whole, Operand}
use Rattle.vl_uses.specs.Settings.{behind, constantly, timely, later, before_mark, of_index}
use Rattle.vl_uses.specs.Alone.{apart, negated, bare}

-- a part that may be at fault
pub data Part : Type 0 where
  -- a number
  number : Place → Numeral → Part
  -- a name that is read, with its selects
  value : Name → Part
  -- a name on a left side, with its selects
  target : Side → Name → Part
  -- a call of a function: its name, and how many arguments it has
  call : Identifier → ℕ → Part
  -- a concatenation or a replication
  group : Place → Part
  -- a call of a system task or function
  system : Usage → SystemCall → Part
  -- a name in a trigger
  event : Identifier → Part

-- a part with where it stands
pub record Node : Type 0 where
  pub setting : Setting
  pub part : Part

-- a part that stands so
abbrev pub node : Setting → Part → Node
node k a = record { setting = k; part = a }

-- what a part gives that may be absent
abbrev pub given : {A B : Type 0} → (A → List B) → Option A → List B
given f None = []
given f (Some a) = f a

-- ---- expressions

-- a system call of this name loads a memory (clause 17.2.8), which isn't read
abbrev pub is_load : List ℕ → Bool
is_load name = bytes_eq name (codes "$readmemh")

-- an argument isn't read: a bare name where a memory is loaded
abbrev pub is_loaded : Bool → Expression → Bool
is_loaded load a = load && is_some (bare a)

-- how many parts a row has
abbrev pub row_length : {m : _} → p.Row_of-Expression m → ℕ
row_length p.end_of-Expression = 0
row_length (p.more_of-Expression a rest) = row_length rest + 1

unfoldable mutual
  pub expression_nodes : Setting → Expression → List Node
  expression_nodes k (e.Expression' at s whole choice) = binary_row k whole ++ choice_nodes k choice

  pub choice_nodes : Setting → e.Held-Expression-choice → List Node
  choice_nodes k e.Expression-choice-None' = []
  choice_nodes k (e.Expression-choice-Some' s row) = choice_row k row

  pub choice_row : {m : _} → Setting → e.Row_of-Choice m → List Node
  choice_row k e.end_of-Choice = []
  choice_row k (e.more_of-Choice (c.Choice' chosen otherwise) rest) = expression_nodes k chosen ++ expression_nodes k otherwise

  pub binary_row : {m : _} → Setting → e.Row_of-Binary m → List Node
  binary_row k e.end_of-Binary = []
  binary_row k (e.more_of-Binary (b.Binary' at from marks s primary t links) rest) = primary_row k primary ++ link_row k links

  pub link_row : {m : _} → Setting → b.Row_of-Link m → List Node
  link_row k b.end_of-Link = []
  link_row k (b.more_of-Link operator at marks s primary rest) = primary_row k primary ++ link_row k rest

  pub primary_row : {m : _} → Setting → b.Row_of-Primary m → List Node
  primary_row k b.end_of-Primary = []
  primary_row k (b.more_of-Primary a rest) = primary_nodes k a

  pub primary_nodes : Setting → Primary → List Node
  primary_nodes k (p.Number at a) = node k (number at a) ∷ []
  primary_nodes k (p.Str at text) = []
  primary_nodes k (p.Name a) = node k (value a) ∷ name_nodes k a
  primary_nodes k (p.Parenthesized' at s inner) = expression_row k inner
  primary_nodes k (p.Concatenation' at s parts) = node k (group at) ∷ expression_row k parts
  primary_nodes k (p.Replication' at s count t parts) = node k (group at) ∷ (expression_row (constantly k) count ++ expression_row k parts)
  primary_nodes k (p.Call' name s arguments) = node k (call name (row_length arguments)) ∷ expression_row k arguments
  primary_nodes k (p.System a) = system_nodes k Operand a

  pub expression_row : {m : _} → Setting → p.Row_of-Expression m → List Node
  expression_row k p.end_of-Expression = []
  expression_row k (p.more_of-Expression a rest) = expression_nodes k a ++ expression_row k rest

  -- what stands in the selects of a name
  pub name_nodes : Setting → Name → List Node
  name_nodes k (n.Name' at name s selects) = select_row k selects

  pub select_row : {m : _} → Setting → n.Row_of-Select m → List Node
  select_row k n.end_of-Select = []
  select_row k (n.more_of-Select a rest) = select_nodes k a ++ select_row k rest

  pub select_nodes : Setting → Select → List Node
  select_nodes k (x.Select' at first x.Select-second-None') = expression_nodes k first
  select_nodes k (x.Select' at first (x.Select-second-Some' (d.Bound' mark bound))) = expression_nodes (before_mark mark k) first ++ expression_nodes (constantly k) bound

  pub system_nodes : Setting → Usage → SystemCall → List Node
  system_nodes k u (y.SystemCall' at name arguments) = node k (system u (y.SystemCall' at name arguments)) ∷ arguments_nodes k (is_load name) arguments

  pub arguments_nodes : Setting → Bool → y.Held-SystemCall-arguments → List Node
  arguments_nodes k load y.SystemCall-arguments-None' = []
  arguments_nodes k load (y.SystemCall-arguments-Some' s row) = argument_row k load row

  pub argument_row : {m : _} → Setting → Bool → y.Row_of-SystemArgument m → List Node
  argument_row k load y.end_of-SystemArgument = []
  argument_row k load (y.more_of-SystemArgument (g.SystemArgument' a) rest) = argument_nodes k load a ++ argument_row k load rest

  pub argument_nodes : Setting → Bool → g.Held-SystemArgument-argument → List Node
  argument_nodes k load g.SystemArgument-argument-None' = []
  argument_nodes k load (g.SystemArgument-argument-Some' a) = if is_loaded load a then [] else expression_nodes k a

-- ---- whole right sides, conditions and labels

-- the call of a system function that a primary is
abbrev pub call_in : Option Primary → Option SystemCall
call_in (Some (p.System a)) = Some a
call_in _ = None

-- a call that is the whole is used as such; what else stands there is read
abbrev pub whole_nodes : Setting → Option SystemCall → List Node → List Node
whole_nodes k (Some a) others = system_nodes k Whole a
whole_nodes k None others = others

-- a right side: a call may be the whole, also in parentheses
unfoldable pub right_side_nodes : Setting → Expression → List Node
right_side_nodes k a = whole_nodes k (call_in (apart a)) (expression_nodes k a)

-- a condition of an `if`: also behind one `!`
unfoldable pub condition_nodes : Setting → Expression → List Node
condition_nodes k a = whole_nodes k (call_in (apart a)) (whole_nodes k (call_in (negated a)) (expression_nodes k a))

-- a primary is a number
abbrev pub is_number : Option Primary → Bool
is_number (Some (p.Number at a)) = true
is_number _ = false

-- a label: in a `casez` a number may be the whole whatever its digits, also in parentheses (clause 9.5.1)
unfoldable pub label_nodes : Setting → CaseKeyword → Expression → List Node
label_nodes k ck.Case a = expression_nodes k a
label_nodes k ck.Casez a = if is_number (apart a) then [] else expression_nodes k a

-- ---- statements

unfoldable mutual
  -- a left side
  pub lvalue_nodes : Side → Setting → Lvalue → List Node
  lvalue_nodes side k (l.Name a) = node k (target side a) ∷ name_nodes (of_index side k) a
  lvalue_nodes side k (l.Concatenation' at s parts) = lvalue_row side k parts

  pub lvalue_row : {m : _} → Side → Setting → l.Row_of-Lvalue m → List Node
  lvalue_row side k l.end_of-Lvalue = []
  lvalue_row side k (l.more_of-Lvalue a rest) = lvalue_nodes side k a ++ lvalue_row side k rest

-- an assignment
unfoldable pub assignment_nodes : Side → Setting → Assignment → List Node
assignment_nodes side k a = lvalue_nodes side k a.target ++ right_side_nodes k a.value

unfoldable mutual
  pub statement_nodes : Setting → Statement → List Node
  statement_nodes k (s.Null at) = []
  statement_nodes k (s.Block' at t statements) = statement_row k statements
  statement_nodes k (s.If' at test t chosen otherwise) = condition_nodes k test ++ statement_row k chosen ++ otherwise_nodes k otherwise
  statement_nodes k (s.Case' at keyword subject t items) = expression_nodes k subject ++ case_row k keyword items
  statement_nodes k (s.For' at first test step t body) = assignment_nodes Procedural k first ++ expression_nodes k test ++ assignment_nodes Procedural k step ++ statement_row k body
  statement_nodes k (s.Repeat' at count t body) = expression_nodes (constantly k) count ++ statement_row k body
  statement_nodes k (s.Assign at left mark right) = lvalue_nodes Procedural k left ++ right_side_nodes k right
  statement_nodes k (s.System at a) = system_nodes k Task a

  pub statement_row : {m : _} → Setting → s.Row_of-Statement m → List Node
  statement_row k s.end_of-Statement = []
  statement_row k (s.more_of-Statement a rest) = statement_nodes k a ++ statement_row k rest

  pub otherwise_nodes : Setting → s.Held-Statement-If-3 → List Node
  otherwise_nodes k s.None' = []
  otherwise_nodes k (s.Some' t row) = statement_row k row

  pub case_row : {m : _} → Setting → CaseKeyword → s.Row_of-CaseItem m → List Node
  case_row k keyword s.end_of-CaseItem = []
  case_row k keyword (s.more_of-CaseItem a rest) = case_nodes k keyword a ++ case_row k keyword rest

  pub case_nodes : Setting → CaseKeyword → CaseItem → List Node
  case_nodes k keyword (ci.Labels' at labels t body) = flat_map (label_nodes k keyword) labels ++ statement_row k body
  case_nodes k keyword (ci.Default' at t body) = statement_row k body

-- ---- declarations

-- the bounds of a range
abbrev pub range_nodes : Setting → Range → List Node
range_nodes k a = expression_nodes (constantly k) a.left ++ expression_nodes (constantly k) a.right

-- the type of a parameter, or of a function's input or result
abbrev pub type_nodes : Setting → ParameterType → List Node
type_nodes k pt.Integer = []
type_nodes k (pt.Vector signed range) = given (range_nodes k) range

-- the values of parameters: each knows the parameters before it
unfoldable pub parameter_nodes : Setting → List ParameterAssignment → List Node
parameter_nodes k [] = []
parameter_nodes k (a ∷ as') = expression_nodes (constantly k) a.value ++ parameter_nodes (later k 1) as'

-- the parameters in a module's header
unfoldable pub group_nodes : Setting → List ParameterGroup → List Node
group_nodes k [] = []
group_nodes k (a ∷ as') = type_nodes k a.kind ++ parameter_nodes k a.assignments ++ group_nodes (later k (length a.assignments)) as'

-- a variable's first value is assigned when time begins (clause 6.2.1)
unfoldable pub first_value_nodes : Setting → Expression → List Node
first_value_nodes k a = right_side_nodes (timely k) a

-- variables that are ports
abbrev pub output_variables_nodes : Setting → List DeclarationAssignment → List Node
output_variables_nodes k variables = flat_map (λ a. given (first_value_nodes k) a.value) variables

-- a port's declaration
abbrev pub port_nodes : Setting → PortDeclaration → List Node
port_nodes k (pd.Net at direction wire signed range names) = given (range_nodes k) range
port_nodes k (pd.Reg at signed range variables) = given (range_nodes k) range ++ output_variables_nodes k variables
port_nodes k (pd.Integer at variables) = output_variables_nodes k variables

-- what stands in a module's parentheses
abbrev pub ports_nodes : Setting → Ports → List Node
ports_nodes k ps.Empty = []
ports_nodes k (ps.Names names) = []
ports_nodes k (ps.Declarations ports) = flat_map (port_nodes k) ports

-- nets, with their values
abbrev pub nets_nodes : Setting → List DeclarationAssignment → List Node
nets_nodes k nets = flat_map (λ a. given (expression_nodes k) a.value) nets

-- what stands behind a variable's name: addresses, or its first value
abbrev pub variable_nodes : Setting → VariableMore → List Node
variable_nodes k (vm.Words addresses) = range_nodes k addresses
variable_nodes k (vm.Value a) = first_value_nodes k a

-- variables and memories
abbrev pub variables_nodes : Setting → List VariableType → List Node
variables_nodes k variables = flat_map (λ a. given (variable_nodes k) a.more) variables

-- ---- items

-- continuous assignments
abbrev pub continuous_nodes : Setting → List Assignment → List Node
continuous_nodes k assignments = flat_map (assignment_nodes Continuous k) assignments

-- the process is a clocked one: its trigger has an edge
abbrev pub is_clocked : Trigger → Bool
is_clocked tr.Star = false
is_clocked tr.Parenthesized = false
is_clocked (tr.Events events) = list_any (λ a. is_some a.edge) events

-- the names of a trigger
abbrev pub trigger_nodes : Setting → Trigger → List Node
trigger_nodes k tr.Star = []
trigger_nodes k tr.Parenthesized = []
trigger_nodes k (tr.Events events) = map (λ a. node k (event a.name)) events

-- an `always`
unfoldable pub always_nodes : Setting → Trigger → Statement → List Node
always_nodes k trigger statement = trigger_nodes k trigger ++ statement_nodes (if is_clocked trigger then timely k else k) statement

-- a connection or an override
abbrev pub connection_nodes : Setting → Connection → List Node
connection_nodes k (cn.Ordered at a) = given (expression_nodes k) a
connection_nodes k (cn.Named at name a) = given (expression_nodes k) a

-- connections or overrides
abbrev pub connections_nodes : Setting → List Connection → List Node
connections_nodes k as' = flat_map (connection_nodes k) as'

-- an instance
abbrev pub named_instance_nodes : Setting → NamedInstance → List Node
named_instance_nodes k a = connections_nodes k a.connections

-- overrides are constants (clause 12.2.2)
abbrev pub instance_nodes : Setting → Instance → List Node
instance_nodes k a = given (connections_nodes (constantly k)) a.overrides ++ flat_map (named_instance_nodes k) a.instances

-- the parts of an item that is no function
abbrev pub item_nodes : Setting → Item → List Node
item_nodes k (i.Port a) = port_nodes k a
item_nodes k (i.Parameter at word type assignments) = type_nodes k type ++ parameter_nodes k assignments
item_nodes k (i.Wire at signed range nets) = given (range_nodes k) range ++ nets_nodes k nets
item_nodes k (i.Reg at signed range variables) = given (range_nodes k) range ++ variables_nodes k variables
item_nodes k (i.Integer at variables) = variables_nodes k variables
item_nodes k (i.Assign at assignments) = continuous_nodes k assignments
item_nodes k (i.Initial at statement) = statement_nodes (timely k) statement
item_nodes k (i.Always at trigger statement) = always_nodes k trigger statement
item_nodes k (i.Function a) = []
item_nodes k (i.Instance a) = instance_nodes k a

-- the inputs in a function's parentheses
abbrev pub inputs_nodes : Setting → List FunctionPort → List Node
inputs_nodes k inputs = flat_map (λ a. type_nodes k a.kind) inputs

-- a declaration in a function's body
abbrev pub function_declaration_nodes : Setting → FunctionDeclaration → List Node
function_declaration_nodes k (fd.Input a) = type_nodes k a.kind
function_declaration_nodes k (fd.Reg at signed range names) = given (range_nodes k) range
function_declaration_nodes k (fd.Integer at names) = []

-- the parts of a function
abbrev pub function_nodes : Setting → Function → List Node
function_nodes k a =
    type_nodes k a.kind
    ++ given (inputs_nodes k) a.ports
    ++ flat_map (function_declaration_nodes k) a.declarations
    ++ statement_nodes k a.statement

-- ---- modules

-- a part of a module, and the function in which it stands, if it does in one
pub record Site : Type 0 where
  pub function : Option Function
  pub node : Node

-- a part that stands in a function or in none
abbrev pub site : Option Function → Node → Site
site within a = record { function = within; node = a }

-- how many parameters an item declares
abbrev pub item_parameters : Item → ℕ
item_parameters (i.Parameter at word type assignments) = length assignments
item_parameters _ = 0

-- the parts of an item
abbrev pub item_sites : ℕ → Item → List Site
item_sites n (i.Function a) = map (site (Some a)) (function_nodes (behind n) a)
item_sites n a = map (site None) (item_nodes (behind n) a)

-- the parts of items, of which the first stands behind n declared parameters
unfoldable pub items_sites : ℕ → List Item → List Site
items_sites n [] = []
items_sites n (a ∷ as') = item_sites n a ++ items_sites (n + item_parameters a) as'

-- how many parameters items declare
abbrev pub items_parameters : List Item → ℕ
items_parameters items = sum_by item_parameters items

-- how many parameters the groups in a module's header declare
abbrev pub group_parameters : List ParameterGroup → ℕ
group_parameters groups = sum_by (λ a. length a.assignments) groups

-- how many parameters a module's header declares, if it has any
abbrev pub header_parameters : Option (List ParameterGroup) → ℕ
header_parameters None = 0
header_parameters (Some groups) = group_parameters groups

-- the parts of a module's header
abbrev pub header_nodes : Module → List Node
header_nodes m =
    given (group_nodes (behind 0)) m.parameters
    ++ given (ports_nodes (behind (header_parameters m.parameters))) m.ports

-- the parts of a module
abbrev pub sites : Module → List Site
sites m = map (site None) (header_nodes m) ++ items_sites (header_parameters m.parameters) m.items
