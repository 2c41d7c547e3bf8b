-- Modules of sources whose uses of names have no fault.
use Rattle.std.proofs.Common.{◌≡◌, ℕ, ◌+◌, Bool, true, false, List, [], ◌∷◌, ◌++◌, map, Option, Some, None, refl}
use Rattle.std.specs.Prelude.{◌&&◌, All}
use Rattle.std.specs.Option.{option_map_or}
use Rattle.std.proofs.lemmas.Bool.{and_parts}
use Rattle.std.proofs.lemmas.List.Elements.{All-nil, All-cons, All-append}
use Rattle.vl_flat.specs.vl_tree.specs.declared.source_tree.Source.{Source}
use Rattle.vl_flat.specs.vl_tree.specs.declared.source_tree.Module.{Module as ModuleTree}
use Rattle.vl_flat.specs.vl_tree.specs.declared.source_tree.ParameterGroup.{ParameterGroup}
use Rattle.vl_flat.specs.vl_tree.specs.declared.source_tree.Ports.{Ports}
use Rattle.vl_flat.specs.vl_tree.specs.declared.source_tree.Ports.TheVariants as ps
use Rattle.vl_flat.specs.vl_tree.specs.declared.source_tree.Item.{Item as ItemTree}
use Rattle.vl_flat.specs.vl_tree.specs.declared.source_tree.Item.TheVariants as i
use Rattle.vl_flat.specs.vl_tree.specs.declared.source_tree.Function.{Function as FunctionTree}
use Rattle.vl_names.specs.vl_scope.specs.declared.fault.Fault.{Fault}
use Rattle.vl_names.specs.vl_scope.specs.Faults.{In}
use Rattle.vl_names.specs.vl_scope.specs.Declarations.{Declared, declarations}
use Rattle.vl_names.specs.vl_scope.proofs.Members.{In-append_left, In-append_right, In-map}
use Rattle.vl_names.specs.vl_uses.specs.Settings.{behind}
use Rattle.vl_names.specs.vl_uses.specs.Nodes as n
use Rattle.vl_names.specs.vl_uses.specs.UseFaults as u
use Rattle.vl_names.specs.vl_uses.specs.UseFaults.{IsUseFault, undeclared, misused, varying, refused}
use Rattle.vl_flat.specs.Declarations as d
use Rattle.vl_flat.specs.Declarations.{module'}
use Rattle.vl_sound.specs.Used.{classes, IsUsedItem, IsUsedFunction, AreUsedIn}
use Rattle.vl_sound.proofs.Fitting.{IsFine}
use Rattle.vl_sound.proofs.Meanings.{module-means}
use Rattle.vl_sound.proofs.ExpressionsOfNamed.{Every, lefts-so, rights-so}
use Rattle.vl_sound.proofs.Types.{each-used}
use Rattle.vl_sound.proofs.FunctionsOfNamed.{function-used}
use Rattle.vl_sound.proofs.ItemsOfNamed.{groups-used, ports-used, item-used}
use Rattle.vl_flat.specs.vl_base.proofs.Booleans.{false_by as refuted}

module _ (ds : List Declared) where
  -- the parts of sites have no fault
  abbrev AreFine : List n.Site → Type 0
  AreFine sites = (a : n.Site) → In a sites → IsFine (u.meanings ds (u.inner_declarations a.function)) a.node

  -- parts outside functions, or in one
  nodes-fine : (w : Option FunctionTree) (as' : List n.Node) → AreFine (map (n.site w) as') → Every (IsFine (u.meanings ds (u.inner_declarations w))) as'
  nodes-fine w as' h = λ a i. h (n.site w a) (In-map (n.site w) a as' i)

  plain-used : (count : ℕ) (a : ItemTree) → ((f : FunctionTree) → a ≡ i.Function f → IsUsedFunction (classes ds) (d.function f)) → AreFine (map (n.site None) (n.item_nodes (behind count) a)) → IsUsedItem (classes ds) (d.item a)
  plain-used count a f h = item-used (u.meanings ds []) (classes ds) (module-means ds) (behind count) a f (nodes-fine None (n.item_nodes (behind count) a) h)

  item-fine : (count : ℕ) (a : ItemTree) → AreFine (n.item_sites count a) → IsUsedItem (classes ds) (d.item a)
  item-fine count (i.Function a) h = function-used ds count a (nodes-fine (Some a) (n.function_nodes (behind count) a) h)
  item-fine count a h = plain-used count a (λ f e. absurd cc) h

  items-fine : (count : ℕ) (as' : List ItemTree) → AreFine (n.items_sites count as') → All (IsUsedItem (classes ds)) (map d.item as')
  unfolding n.items_sites
  items-fine count [] h = All-nil (IsUsedItem (classes ds))
  items-fine count (a ∷ as') h =
      let here = n.item_sites count a in
      let next = n.items_sites (count + n.item_parameters a) as' in
      All-cons (IsUsedItem (classes ds)) (d.item a) (map d.item as')
      (item-fine count a (λ b q. h b (In-append_left b here next q)))
      (items-fine (count + n.item_parameters a) as' (λ b q. h b (In-append_right b here next q)))

  abbrev Q : n.Node → Type 0
  Q = IsFine (u.meanings ds [])

  groups-fine : (o : Option (List ParameterGroup)) → Every Q (n.given (n.group_nodes (behind 0)) o) → All (IsUsedItem (classes ds)) (option_map_or (map d.header_parameters) o [])
  groups-fine None w = All-nil (IsUsedItem (classes ds))
  groups-fine (Some gs) w = groups-used (u.meanings ds []) (classes ds) (module-means ds) (behind 0) gs w

  ports-fine : (count : ℕ) (o : Option Ports) → Every Q (n.given (n.ports_nodes (behind count)) o) → All (IsUsedItem (classes ds)) (d.header_ports o)
  ports-fine count None w = All-nil (IsUsedItem (classes ds))
  ports-fine count (Some ps.Empty) w = All-nil (IsUsedItem (classes ds))
  ports-fine count (Some (ps.Names names)) w = All-nil (IsUsedItem (classes ds))
  ports-fine count (Some (ps.Declarations ports)) w =
      each-used Q _ (n.port_nodes (behind count)) (IsUsedItem (classes ds)) (λ a v. ports-used (u.meanings ds []) (classes ds) (module-means ds) (behind count) a v) ports w

  module-fine : (m : ModuleTree) → AreFine (n.sites m) → AreUsedIn (classes ds) (module' m)
  module-fine m h =
      let count = n.header_parameters m.parameters in
      let groups = n.given (n.group_nodes (behind 0)) m.parameters in
      let ports = n.given (n.ports_nodes (behind count)) m.ports in
      let heads = map (n.site None) (n.header_nodes m) in
      let items = n.items_sites count m.items in
      let header : Every Q (groups ++ ports) = nodes-fine None (n.header_nodes m) (λ b q. h b (In-append_left b heads items q)) in
      let R = IsUsedItem (classes ds) in
      All-append R (option_map_or (map d.header_parameters) m.parameters []) (d.header_ports m.ports ++ map d.item m.items) (groups-fine m.parameters (lefts-so Q groups ports header))
      (All-append R (d.header_ports m.ports) (map d.item m.items) (ports-fine count m.ports (rights-so Q groups ports header))
      (items-fine count m.items (λ b q. h b (In-append_right b heads items q))))

pub source-used : (s : Source) → ((f : Fault) → IsUseFault s f → ⊥) → (m : ModuleTree) → In m s.modules → AreUsedIn (classes (declarations m)) (module' m)
source-used s none m there = module-fine (declarations m) m (λ a here.
    let b = a.node in
    let q = u.meanings_at m a in
    record {
      known = refuted (u.is_undeclared q b.setting.parameters b.part) (λ e. none _ (undeclared m a there here e));
      used = refuted (u.is_misused q b.part) (λ e. none _ (misused m a there here e));
      fixed = refuted (b.setting.constant && u.varies q b.part) (λ e. let p = and_parts b.setting.constant (u.varies q b.part) e in none _ (varying m a there here p.0 p.1));
      allowed = refuted (u.is_refused q b.setting.timed b.part) (λ e. none _ (refused m a there here e));
    })
