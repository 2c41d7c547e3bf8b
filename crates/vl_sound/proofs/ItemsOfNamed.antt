-- Items without faults: each name is used as what it is.
use Rattle.std.proofs.Common.{◌≡◌, if◌then◌else◌, List, [], ◌∷◌, ◌++◌, map, length, Option, Some, None, refl}
use Rattle.std.specs.Prelude.{⊤, flat_map, All, option_map}
use Rattle.std.specs.Option.{option_map_or}
use Rattle.std.proofs.lemmas.List.Elements.{All-nil, All-cons}
use Rattle.vl_flat.specs.vl_tree.specs.declared.tree.Expression.{Expression}
use Rattle.vl_flat.specs.vl_tree.specs.declared.source_tree.ParameterGroup.{ParameterGroup}
use Rattle.vl_flat.specs.vl_tree.specs.declared.source_tree.ParameterAssignment.{ParameterAssignment}
use Rattle.vl_flat.specs.vl_tree.specs.declared.source_tree.PortDeclaration.{PortDeclaration}
use Rattle.vl_flat.specs.vl_tree.specs.declared.source_tree.PortDeclaration.TheVariants as pd
use Rattle.vl_flat.specs.vl_tree.specs.declared.source_tree.DeclarationAssignment.{DeclarationAssignment}
use Rattle.vl_flat.specs.vl_tree.specs.declared.source_tree.Item.{Item as ItemTree}
use Rattle.vl_flat.specs.vl_tree.specs.declared.source_tree.Item.TheVariants as i
use Rattle.vl_flat.specs.vl_tree.specs.declared.source_tree.VariableType.{VariableType}
use Rattle.vl_flat.specs.vl_tree.specs.declared.source_tree.VariableMore.{VariableMore}
use Rattle.vl_flat.specs.vl_tree.specs.declared.source_tree.VariableMore.TheVariants as vm
use Rattle.vl_flat.specs.vl_tree.specs.declared.source_tree.Assignment.{Assignment}
use Rattle.vl_flat.specs.vl_tree.specs.declared.source_tree.Event.{Event}
use Rattle.vl_flat.specs.vl_tree.specs.declared.source_tree.Trigger.{Trigger}
use Rattle.vl_flat.specs.vl_tree.specs.declared.source_tree.Trigger.TheVariants as tr
use Rattle.vl_flat.specs.vl_tree.specs.declared.source_tree.Statement.{Statement}
use Rattle.vl_flat.specs.vl_tree.specs.declared.source_tree.Function.{Function as FunctionTree}
use Rattle.vl_flat.specs.vl_tree.specs.declared.source_tree.Instance.{Instance}
use Rattle.vl_flat.specs.vl_tree.specs.declared.source_tree.Connection.{Connection as ConnectionTree}
use Rattle.vl_flat.specs.vl_tree.specs.declared.source_tree.Connection.TheVariants as cn
use Rattle.vl_names.specs.vl_uses.specs.declared.setting.Setting.{Setting}
use Rattle.vl_names.specs.vl_uses.specs.declared.setting.Side.TheVariants.{Continuous}
use Rattle.vl_names.specs.vl_uses.specs.Settings.{constantly, timely, later}
use Rattle.vl_names.specs.vl_uses.specs.Nodes as n
use Rattle.vl_names.specs.vl_uses.specs.UseFaults.{Meanings}
use Rattle.vl_flat.specs.Binding.{ex, left, statement}
use Rattle.vl_flat.specs.Items as x
use Rattle.vl_flat.specs.Declarations as d
use Rattle.vl_sound.proofs.Sides.{used-side}
use Rattle.vl_sound.specs.Used.{Classes, IsUsed, IsUsedSide, IsUsedOwnValue, IsUsedLeft, IsUsedValue, IsUsedRange, IsUsedType, IsUsedDeclared, IsUsedTrigger, IsUsedStatement, IsWatched, AreConnected, IsUsedFunction, IsUsedItem}
use Rattle.vl_sound.proofs.Fitting.{IsFine, Means, event-fits}
use Rattle.vl_sound.proofs.ExpressionsOfNamed.{Every, lefts-so, rights-so, first-so, rest-so}
use Rattle.vl_sound.proofs.Types.{each-same, each-used, value-used, own-used, bounds-used, range-used, type-used}
use Rattle.vl_sound.proofs.StatementsOfNamed.{suits, fine-ex, fine-right-side, assignment-used, statement-used}

module _ (m : Meanings) (k : Classes) (means : Means m k) where
  abbrev P : n.Node → Type 0
  P = IsFine m

  abbrev Any : Setting → Type 0
  Any st = ⊤

  abbrev fits : (st : Setting) (v : Expression) → Every P (n.expression_nodes st v) → IsUsed k (ex v)
  fits st v w = fine-ex m k means st v w

  -- ---- declarations

  declared-type : (st : Setting) (a : _) → Every P (n.type_nodes st a) → IsUsedType k (d.type a)
  declared-type st a w = type-used k P Any (suits m k means) st tt a w

  declared-range : (st : Setting) (o : Option _) → Every P (n.given (n.range_nodes st) o) → IsUsedRange k (option_map d.bounds o)
  declared-range st o w = range-used k P Any (suits m k means) st tt o w

  pub parameters-used : (st : Setting) (as' : List ParameterAssignment) → Every P (n.parameter_nodes st as') → All (λ (a : x.Parameter). IsUsed k a.value) (map d.parameter as')
  unfolding n.parameter_nodes
  parameters-used st [] w = All-nil (λ (a : x.Parameter). IsUsed k a.value)
  parameters-used st (a ∷ as') w =
      let bs = n.expression_nodes (constantly st) a.value in
      let cs = n.parameter_nodes (later st 1) as' in
      All-cons (λ (a : x.Parameter). IsUsed k a.value) (d.parameter a) (map d.parameter as') (fits (constantly st) a.value (lefts-so P bs cs w)) (parameters-used (later st 1) as' (rights-so P bs cs w))

  pub groups-used : (st : Setting) (gs : List ParameterGroup) → Every P (n.group_nodes st gs) → All (IsUsedItem k) (map d.header_parameters gs)
  unfolding n.group_nodes
  groups-used st [] w = All-nil (IsUsedItem k)
  groups-used st (a ∷ gs) w =
      let as' = n.type_nodes st a.kind in
      let bs = n.parameter_nodes st a.assignments in
      let cs = n.group_nodes (later st (length a.assignments)) gs in
      let two = lefts-so P (as' ++ bs) cs w in
      All-cons (IsUsedItem k) (d.header_parameters a) (map d.header_parameters gs)
      (declared-type st a.kind (lefts-so P as' bs two), parameters-used st a.assignments (rights-so P as' bs two))
      (groups-used (later st (length a.assignments)) gs (rights-so P (as' ++ bs) cs w))

  first-value-used : (st : Setting) (v : Expression) → Every P (n.first_value_nodes st v) → IsUsedSide k (ex v)
  unfolding n.first_value_nodes
  first-value-used st v w = fine-right-side m k means (timely st) v w

  outputs-used : (st : Setting) (type : x.DataType) → IsUsedType k type → (as' : List DeclarationAssignment) → Every P (n.output_variables_nodes st as') → All (IsUsedDeclared k) (map (d.output_variable type) as')
  outputs-used st type u as' w =
      each-used P (d.output_variable type) (λ a. n.given (n.first_value_nodes st) a.value) (IsUsedDeclared k)
      (λ a v. record { type = u; words = tt; value = own-used P k (n.first_value_nodes st) (first-value-used st) a.value v }) as' w

  pub ports-used : (st : Setting) (a : PortDeclaration) → Every P (n.port_nodes st a) → All (IsUsedDeclared k) (d.ports_in a)
  ports-used st (pd.Net at direction wire signed range names) w =
      let u = declared-range st range w in
      each-same (d.net (Some direction) (d.vector signed range)) (IsUsedDeclared k) (λ name. record { type = u; words = tt; value = tt }) names
  ports-used st (pd.Reg at signed range as') w =
      let bs = n.given (n.range_nodes st) range in
      let cs = n.output_variables_nodes st as' in
      outputs-used st (d.vector signed range) (declared-range st range (lefts-so P bs cs w)) as' (rights-so P bs cs w)
  ports-used st (pd.Integer at as') w = outputs-used st x.Integer tt as' w

  nets-used : (st : Setting) (type : x.DataType) → IsUsedType k type → (as' : List DeclarationAssignment) → Every P (n.nets_nodes st as') → All (IsUsedDeclared k) (map (d.assigned_net type) as')
  nets-used st type u as' w =
      each-used P (d.assigned_net type) (λ a. n.given (n.expression_nodes st) a.value) (IsUsedDeclared k)
      (λ a v. record { type = u; words = tt; value = own-used P k (n.expression_nodes st) (λ v w. used-side k (ex v) (fits st v w)) a.value v }) as' w

  words-used : (st : Setting) (o : Option VariableMore) → Every P (n.given (n.variable_nodes st) o) → IsUsedRange k (d.words_in o)
  words-used st None w = tt
  words-used st (Some (vm.Words r)) w = bounds-used k P Any (suits m k means) st tt r w
  words-used st (Some (vm.Value v)) w = tt

  more-used : (st : Setting) (o : Option VariableMore) → Every P (n.given (n.variable_nodes st) o) → IsUsedOwnValue k (d.value_in o)
  more-used st None w = tt
  more-used st (Some (vm.Words r)) w = tt
  more-used st (Some (vm.Value v)) w = first-value-used st v w

  variables-used : (st : Setting) (type : x.DataType) → IsUsedType k type → (as' : List VariableType) → Every P (n.variables_nodes st as') → All (IsUsedDeclared k) (map (d.variable type) as')
  variables-used st type u as' w =
      each-used P (d.variable type) (λ a. n.given (n.variable_nodes st) a.more) (IsUsedDeclared k)
      (λ a v. record { type = u; words = words-used st a.more v; value = more-used st a.more v }) as' w

  -- ---- assignments and processes

  abbrev setting-of : Assignment → x.Setting
  setting-of a = record { target = left a.target; value = ex a.value }

  assigns-used : (st : Setting) (as' : List Assignment) → Every P (n.continuous_nodes st as') → All (λ (a : x.Setting). IsUsedLeft k a.target × IsUsedSide k a.value) (map setting-of as')
  assigns-used st as' w =
      each-used P setting-of (n.assignment_nodes Continuous st) (λ a. IsUsedLeft k a.target × IsUsedSide k a.value) (λ a v. assignment-used m k means Continuous st a v) as' w

  events-used : (st : Setting) (es : List Event) → Every P (map (λ (a : Event). n.node st (n.event a.name)) es) → All (λ (a : Event). IsWatched (k.read a.name.name)) es
  events-used st [] w = All-nil (λ (a : Event). IsWatched (k.read a.name.name))
  events-used st (a ∷ es) w =
      let others = map (λ (a : Event). n.node st (n.event a.name)) es in
      All-cons (λ (a : Event). IsWatched (k.read a.name.name)) a es
      (event-fits m k means st a.name (first-so P (n.node st (n.event a.name)) others w)) (events-used st es (rest-so P (n.node st (n.event a.name)) others w))

  trigger-used : (st : Setting) (a : Trigger) → Every P (n.trigger_nodes st a) → IsUsedTrigger k a
  trigger-used st tr.Star w = tt
  trigger-used st tr.Parenthesized w = tt
  trigger-used st (tr.Events es) w = events-used st es w

  always-used : (st : Setting) (trigger : Trigger) (a : Statement) → Every P (n.always_nodes st trigger a) → IsUsedTrigger k trigger × IsUsedStatement k (statement a)
  unfolding n.always_nodes
  always-used st trigger a w =
      let inside : Setting = if n.is_clocked trigger then timely st else st in
      let as' = n.trigger_nodes st trigger in
      let bs = n.statement_nodes inside a in
      (trigger-used st trigger (lefts-so P as' bs w), statement-used m k means inside a (rights-so P as' bs w))

  -- ---- instances

  connection-used : (st : Setting) (a : ConnectionTree) → Every P (n.connection_nodes st a) → IsUsedValue k (d.connection a).value
  connection-used st (cn.Ordered at o) w = value-used P k (n.expression_nodes st) (fits st) o w
  connection-used st (cn.Named at name o) w = value-used P k (n.expression_nodes st) (fits st) o w

  connections-used : (st : Setting) (as' : List ConnectionTree) → Every P (n.connections_nodes st as') → AreConnected k (map d.connection as')
  connections-used st as' w = each-used P d.connection (n.connection_nodes st) (λ q. IsUsedValue k q.value) (connection-used st) as' w

  overrides-used : (st : Setting) (o : Option (List ConnectionTree)) → Every P (n.given (n.connections_nodes st) o) → AreConnected k (option_map_or (map d.connection) o [])
  overrides-used st None w = All-nil (λ (q : x.Connection). IsUsedValue k q.value)
  overrides-used st (Some as') w = connections-used st as' w

  instances-used : (st : Setting) (a : Instance) → Every P (n.instance_nodes st a) → IsUsedItem k (x.Instantiates (d.instances a))
  instances-used st a w =
      let as' = n.given (n.connections_nodes (constantly st)) a.overrides in
      let bs = flat_map (n.named_instance_nodes st) a.instances in (
        overrides-used (constantly st) a.overrides (lefts-so P as' bs w),
        each-used P d.named_instance (n.named_instance_nodes st) (λ u. AreConnected k u.connections) (λ u v. connections-used st u.connections v) a.instances (rights-so P as' bs w),
      )

  -- ---- items

  -- functions apart
  pub item-used : (st : Setting) (a : ItemTree) → ((f : FunctionTree) → a ≡ i.Function f → IsUsedFunction k (d.function f)) → Every P (n.item_nodes st a) → IsUsedItem k (d.item a)
  item-used st (i.Port a) f w = ports-used st a w
  item-used st (i.Parameter at word type as') f w =
      let bs = n.type_nodes st type in
      let cs = n.parameter_nodes st as' in
      (declared-type st type (lefts-so P bs cs w), parameters-used st as' (rights-so P bs cs w))
  item-used st (i.Wire at signed range as') f w =
      let bs = n.given (n.range_nodes st) range in
      let cs = n.nets_nodes st as' in
      nets-used st (d.vector signed range) (declared-range st range (lefts-so P bs cs w)) as' (rights-so P bs cs w)
  item-used st (i.Reg at signed range as') f w =
      let bs = n.given (n.range_nodes st) range in
      let cs = n.variables_nodes st as' in
      variables-used st (d.vector signed range) (declared-range st range (lefts-so P bs cs w)) as' (rights-so P bs cs w)
  item-used st (i.Integer at as') f w = variables-used st x.Integer tt as' w
  item-used st (i.Assign at as') f w = assigns-used st as' w
  item-used st (i.Initial at a) f w = statement-used m k means (timely st) a w
  item-used st (i.Always at trigger a) f w = always-used st trigger a w
  item-used st (i.Function a) f w = f a refl
  item-used st (i.Instance a) f w = instances-used st a w
