-- Items of sources whose uses of names have no fault, as processes are made of them.
use Rattle.std.proofs.Common.{◌≡◌, ℕ, Bool, true, false, if◌then◌else◌, List, [], map, Option, Some, None, refl, subst}
use Rattle.std.specs.Prelude.{⊤, flat_map, All, option_map}
use Rattle.vl_sound.specs.vl_tree.specs.declared.tree.Expression.{Expression}
use Rattle.vl_sound.specs.vl_tree.specs.declared.source_tree.Source.{Source}
use Rattle.vl_sound.specs.vl_tree.specs.declared.source_tree.Module.{Module as ModuleTree}
use Rattle.vl_sound.specs.vl_tree.specs.declared.source_tree.PortDeclaration.{PortDeclaration}
use Rattle.vl_sound.specs.vl_tree.specs.declared.source_tree.PortDeclaration.TheVariants as pd
use Rattle.vl_sound.specs.vl_tree.specs.declared.source_tree.DeclarationAssignment.{DeclarationAssignment}
use Rattle.vl_sound.specs.vl_tree.specs.declared.source_tree.Item.{Item as ItemTree}
use Rattle.vl_sound.specs.vl_tree.specs.declared.source_tree.Item.TheVariants as i
use Rattle.vl_sound.specs.vl_tree.specs.declared.source_tree.VariableType.{VariableType}
use Rattle.vl_sound.specs.vl_tree.specs.declared.source_tree.VariableMore.{VariableMore}
use Rattle.vl_sound.specs.vl_tree.specs.declared.source_tree.VariableMore.TheVariants as vm
use Rattle.vl_sound.specs.vl_tree.specs.declared.source_tree.Assignment.{Assignment}
use Rattle.vl_sound.specs.vl_tree.specs.declared.source_tree.Trigger.{Trigger}
use Rattle.vl_sound.specs.vl_tree.specs.declared.source_tree.Statement.{Statement}
use Rattle.vl_sound.specs.vl_tree.specs.declared.source_tree.Instance.{Instance}
use Rattle.vl_sound.specs.vl_tree.specs.declared.source_tree.Connection.{Connection as ConnectionTree}
use Rattle.vl_sound.specs.vl_tree.specs.declared.source_tree.Connection.TheVariants as cn
use Rattle.vl_sound.specs.vl_scope.specs.declared.fault.Fault.{Fault}
use Rattle.vl_sound.specs.vl_scope.specs.Faults.{In}
use Rattle.vl_sound.specs.vl_scope.specs.Declarations.{declarations}
use Rattle.vl_sound.specs.vl_uses.specs.declared.setting.Setting.{Setting}
use Rattle.vl_sound.specs.vl_uses.specs.declared.setting.Side.TheVariants.{Continuous}
use Rattle.vl_sound.specs.vl_uses.specs.Settings.{behind, constantly, timely}
use Rattle.vl_sound.specs.vl_uses.specs.Nodes as n
use Rattle.vl_sound.specs.vl_uses.specs.UseFaults as u
use Rattle.vl_sound.specs.vl_uses.specs.UseFaults.{Meanings, IsUseFault}
use Rattle.vl_sound.specs.vl_flat.specs.Surface as s
use Rattle.vl_sound.specs.vl_flat.specs.Binding.{ex, left, statement}
use Rattle.vl_sound.specs.vl_flat.specs.Items as x
use Rattle.vl_sound.specs.vl_flat.specs.Declarations as d
use Rattle.vl_sound.specs.vl_flat.specs.Declarations.{module'}
use Rattle.vl_sound.specs.Used.{Classes, classes}
use Rattle.vl_sound.proofs.ExpressionsOfNamed.{Every, rights-so}
use Rattle.vl_sound.proofs.Fitting.{IsFine, Means}
use Rattle.vl_sound.proofs.Meanings.{module-means}
use Rattle.vl_sound.proofs.Types.{each-same, each-used}
use Rattle.elab_laws.proofs.Leaves.{Has, ValueHas, IsPlain, IsSide, IsDrivenLeft, IsBody}
use Rattle.elab_laws.proofs.Sides.{side-has, fine-has, right-side-so}
use Rattle.elab_laws.proofs.Statements.{continuous-so, statement-so}
use Rattle.elab_laws.proofs.Modules.{outside, source-items}

-- ---- items as processes are made of them

-- what stands in the connections of a unit
abbrev pub IsMadeUnit : x.NamedUnit → Type 0
IsMadeUnit y = All (λ (q : x.Connection). ValueHas (IsPlain false) q.value) y.connections

module _ (k : Classes) where
  -- a variable's own value is assigned when time begins, a net's is driven
  abbrev pub IsMadeOwn : Bool → Option s.Ex → Type 0
  IsMadeOwn variable None = ⊤
  IsMadeOwn true (Some e) = IsSide k true e
  IsMadeOwn false (Some e) = Has (IsPlain false) e

  pub record IsMadeSetting (a : x.Setting) : Type 0 where
    pub target : IsDrivenLeft k false a.target
    pub value : Has (IsPlain false) a.value

  abbrev pub IsMadeItem : x.Item → Type 0
  IsMadeItem (x.Parameters type ps) = ⊤
  IsMadeItem (x.Signals ds) = All (λ (y : x.Declared). IsMadeOwn y.variable y.value) ds
  IsMadeItem (x.Assigns as') = All IsMadeSetting as'
  IsMadeItem (x.Initial at a) = IsBody k true a
  IsMadeItem (x.Always at trigger a) = IsBody k (n.is_clocked trigger) a
  IsMadeItem (x.Functions f) = ⊤
  IsMadeItem (x.Instantiates us) = All IsMadeUnit us.units

module _ (m : Meanings) (k : Classes) (means : Means m k) (count : ℕ) where
  abbrev P : n.Node → Type 0
  P = IsFine m

  abbrev st : Setting
  st = behind count

  abbrev Own : x.Declared → Type 0
  Own y = IsMadeOwn k y.variable y.value

  -- ---- declarations

  first-value-made : (v : Expression) → Every P (n.first_value_nodes st v) → IsSide k true (ex v)
  unfolding n.first_value_nodes
  first-value-made v w = right-side-so m k means (timely st) v w

  output-made : (o : Option Expression) → Every P (n.given (n.first_value_nodes st) o) → IsMadeOwn k true (option_map ex o)
  output-made None w = tt
  output-made (Some v) w = first-value-made v w

  outputs-made : (type : x.DataType) (as' : List DeclarationAssignment) → Every P (n.output_variables_nodes st as') → All Own (map (d.output_variable type) as')
  outputs-made type as' w = each-used P (d.output_variable type) (λ a. n.given (n.first_value_nodes st) a.value) Own (λ a v. output-made a.value v) as' w

  ports-made : (a : PortDeclaration) → Every P (n.port_nodes st a) → All Own (d.ports_in a)
  ports-made (pd.Net at direction wire signed range names) w = each-same (d.net (Some direction) (d.vector signed range)) Own (λ name. tt) names
  ports-made (pd.Reg at signed range as') w = outputs-made (d.vector signed range) as' (rights-so P (n.given (n.range_nodes st) range) (n.output_variables_nodes st as') w)
  ports-made (pd.Integer at as') w = outputs-made x.Integer as' w

  net-made : (o : Option Expression) → Every P (n.given (n.expression_nodes st) o) → IsMadeOwn k false (option_map ex o)
  net-made None w = tt
  net-made (Some v) w = fine-has m k means st v w

  nets-made : (type : x.DataType) (as' : List DeclarationAssignment) → Every P (n.nets_nodes st as') → All Own (map (d.assigned_net type) as')
  nets-made type as' w = each-used P (d.assigned_net type) (λ a. n.given (n.expression_nodes st) a.value) Own (λ a v. net-made a.value v) as' w

  more-made : (o : Option VariableMore) → Every P (n.given (n.variable_nodes st) o) → IsMadeOwn k true (d.value_in o)
  more-made None w = tt
  more-made (Some (vm.Words r)) w = tt
  more-made (Some (vm.Value v)) w = first-value-made v w

  variables-made : (type : x.DataType) (as' : List VariableType) → Every P (n.variables_nodes st as') → All Own (map (d.variable type) as')
  variables-made type as' w = each-used P (d.variable type) (λ a. n.given (n.variable_nodes st) a.more) Own (λ a v. more-made a.more v) as' w

  -- ---- assignments and processes

  abbrev setting-of : Assignment → x.Setting
  setting-of a = record { target = left a.target; value = ex a.value }

  assign-made : (a : Assignment) → Every P (n.assignment_nodes Continuous st a) → IsMadeSetting k (setting-of a)
  assign-made a w =
      let r = continuous-so m k means st a w in
      record { target = r.0; value = side-has k false (ex a.value) refl r.1 }

  always-made : (trigger : Trigger) (a : Statement) → Every P (n.always_nodes st trigger a) → IsBody k (n.is_clocked trigger) (statement a)
  unfolding n.always_nodes
  always-made trigger a w =
      let inside : Setting = if n.is_clocked trigger then timely st else st in
      subst (λ t. IsBody k t (statement a)) (timed-is (n.is_clocked trigger)) (statement-so m k means inside a (rights-so P (n.trigger_nodes st trigger) (n.statement_nodes inside a) w))
    where
      timed-is : (b : Bool) → (if b then timely st else st).timed ≡ b
      timed-is true = refl
      timed-is false = refl

  -- ---- instances

  value-made : (o : Option Expression) → Every P (n.given (n.expression_nodes st) o) → ValueHas (IsPlain false) (option_map ex o)
  value-made None w = tt
  value-made (Some v) w = fine-has m k means st v w

  connection-made : (a : ConnectionTree) → Every P (n.connection_nodes st a) → ValueHas (IsPlain false) (d.connection a).value
  connection-made (cn.Ordered at o) w = value-made o w
  connection-made (cn.Named at name o) w = value-made o w

  units-made : (a : Instance) → Every P (n.instance_nodes st a) → All IsMadeUnit (d.instances a).units
  units-made a w =
      each-used P d.named_instance (n.named_instance_nodes st) IsMadeUnit
      (λ y v. each-used P d.connection (n.connection_nodes st) (λ (q : x.Connection). ValueHas (IsPlain false) q.value) connection-made y.connections v) a.instances
      (rights-so P (n.given (n.connections_nodes (constantly st)) a.overrides) (flat_map (n.named_instance_nodes st) a.instances) w)

  -- ---- items

  item-made : (a : ItemTree) → Every P (n.item_nodes st a) → IsMadeItem k (d.item a)
  item-made (i.Port a) w = ports-made a w
  item-made (i.Parameter at word type as') w = tt
  item-made (i.Wire at signed range as') w = nets-made (d.vector signed range) as' (rights-so P (n.given (n.range_nodes st) range) (n.nets_nodes st as') w)
  item-made (i.Reg at signed range as') w = variables-made (d.vector signed range) as' (rights-so P (n.given (n.range_nodes st) range) (n.variables_nodes st as') w)
  item-made (i.Integer at as') w = variables-made x.Integer as' w
  item-made (i.Assign at as') w = each-used P setting-of (n.assignment_nodes Continuous st) (IsMadeSetting k) assign-made as' w
  item-made (i.Initial at a) w = statement-so m k means (timely st) a w
  item-made (i.Always at trigger a) w = always-made trigger a w
  item-made (i.Function a) w = tt
  item-made (i.Instance a) w = units-made a w

-- ---- modules

pub source-made : (s : Source) → ((f : Fault) → IsUseFault s f → ⊥) → (m : ModuleTree) → In m s.modules → All (IsMadeItem (classes (declarations m))) (module' m).items
source-made s none m there =
    let ds = declarations m in
    let k = classes ds in
    let means = module-means ds in
    source-items (IsMadeItem k) s none m there (record {
      group = λ a. tt;
      port = λ count a w. ports-made (u.meanings ds []) k means count a w;
      item = λ count a w. item-made (u.meanings ds []) k means count a (outside ds count a w);
    })
