-- Items of modules whose uses of names have no fault: what holds of each, by its own parts.
use Rattle.std.proofs.Common.{ℕ, ◌+◌, List, [], ◌∷◌, ◌++◌, map, Option, Some, None}
use Rattle.std.specs.Prelude.{◌&&◌, All}
use Rattle.std.specs.Option.{option_map_or}
use Rattle.std.proofs.lemmas.Bool.{and_parts, false_from_ne_true}
use Rattle.std.proofs.lemmas.List.Elements.{All-nil, All-cons, All-append}
use Rattle.vl_sound.specs.vl_tree.specs.declared.source_tree.Source.{Source}
use Rattle.vl_sound.specs.vl_tree.specs.declared.source_tree.Module.{Module as ModuleTree}
use Rattle.vl_sound.specs.vl_tree.specs.declared.source_tree.ParameterGroup.{ParameterGroup}
use Rattle.vl_sound.specs.vl_tree.specs.declared.source_tree.Ports.{Ports}
use Rattle.vl_sound.specs.vl_tree.specs.declared.source_tree.Ports.TheVariants as ps
use Rattle.vl_sound.specs.vl_tree.specs.declared.source_tree.PortDeclaration.{PortDeclaration}
use Rattle.vl_sound.specs.vl_tree.specs.declared.source_tree.Item.{Item as ItemTree}
use Rattle.vl_sound.specs.vl_tree.specs.declared.source_tree.Item.TheVariants as i
use Rattle.vl_sound.specs.vl_tree.specs.declared.source_tree.Function.{Function as FunctionTree}
use Rattle.vl_sound.specs.vl_scope.specs.declared.fault.Fault.{Fault}
use Rattle.vl_sound.specs.vl_scope.specs.Faults.{In}
use Rattle.vl_sound.specs.vl_scope.specs.Declarations.{Declared, declarations, function_declarations}
use Rattle.vl_sound.specs.vl_scope.proofs.Members.{In-append_left, In-append_right, In-map}
use Rattle.vl_sound.specs.vl_uses.specs.Settings.{behind}
use Rattle.vl_sound.specs.vl_uses.specs.Nodes as n
use Rattle.vl_sound.specs.vl_uses.specs.UseFaults as u
use Rattle.vl_sound.specs.vl_uses.specs.UseFaults.{IsUseFault, undeclared, misused, varying, refused}
use Rattle.vl_sound.specs.vl_flat.specs.Items as x
use Rattle.vl_sound.specs.vl_flat.specs.Declarations as d
use Rattle.vl_sound.specs.vl_flat.specs.Declarations.{module'}
use Rattle.vl_sound.proofs.ExpressionsOfNamed.{Every, rights-so}
use Rattle.vl_sound.proofs.Fitting.{IsFine}
use Rattle.vl_sound.proofs.Types.{each-same, each-used}

module _ (ds : List Declared) where
  -- a part that stands in no function, one that stands in this one
  abbrev pub Outside : n.Node → Type 0
  Outside = IsFine (u.meanings ds [])

  abbrev pub Inside : FunctionTree → n.Node → Type 0
  Inside a = IsFine (u.meanings ds (function_declarations a))

  -- the parts have no fault, each where it stands
  abbrev pub AreFine : List n.Site → Type 0
  AreFine sites = (a : n.Site) → In a sites → IsFine (u.meanings ds (u.inner_declarations a.function)) a.node

  -- the parts of an item that is no function
  pub outside : (count : ℕ) (a : ItemTree) → AreFine (n.item_sites count a) → Every Outside (n.item_nodes (behind count) a)
  outside count (i.Function a) h = λ b q. absurd q
  outside count a h = λ b q. h (n.site None b) (In-map (n.site None) b (n.item_nodes (behind count) a) q)

  -- those of a function
  pub inside : (count : ℕ) (a : FunctionTree) → AreFine (n.item_sites count (i.Function a)) → Every (Inside a) (n.function_nodes (behind count) a)
  inside count a h = λ b q. h (n.site (Some a) b) (In-map (n.site (Some a)) b (n.function_nodes (behind count) a) q)

  module _ (R : x.Item → Type 0) where
    -- what is needed of the items that a module's header stands for, and of its own
    pub record Needs : Type 0 where
      pub group : (a : ParameterGroup) → R (d.header_parameters a)
      pub port : (count : ℕ) (a : PortDeclaration) → Every Outside (n.port_nodes (behind count) a) → R (x.Signals (d.ports_in a))
      pub item : (count : ℕ) (a : ItemTree) → AreFine (n.item_sites count a) → R (d.item a)

    module _ (needs : Needs) where
      items-so : (count : ℕ) (as' : List ItemTree) → AreFine (n.items_sites count as') → All R (map d.item as')
      unfolding n.items_sites
      items-so count [] h = All-nil R
      items-so count (a ∷ as') h =
          let here = n.item_sites count a in
          let next = n.items_sites (count + n.item_parameters a) as' in
          All-cons R (d.item a) (map d.item as') (needs.item count a (λ b q. h b (In-append_left b here next q)))
          (items-so (count + n.item_parameters a) as' (λ b q. h b (In-append_right b here next q)))

      groups-so : (o : Option (List ParameterGroup)) → All R (option_map_or (map d.header_parameters) o [])
      groups-so None = All-nil R
      groups-so (Some gs) = each-same d.header_parameters R needs.group gs

      ports-so : (count : ℕ) (o : Option Ports) → Every Outside (n.given (n.ports_nodes (behind count)) o) → All R (d.header_ports o)
      ports-so count (Some (ps.Declarations ports)) w = each-used Outside (λ a. x.Signals (d.ports_in a)) (n.port_nodes (behind count)) R (needs.port count) ports w
      ports-so count o w = All-nil R

      module-so : (t : ModuleTree) → AreFine (n.sites t) → All R (module' t).items
      module-so t h =
          let count = n.header_parameters t.parameters in
          let groups = n.given (n.group_nodes (behind 0)) t.parameters in
          let ports = n.given (n.ports_nodes (behind count)) t.ports in
          let heads = map (n.site None) (n.header_nodes t) in
          let items = n.items_sites count t.items in
          let header : Every Outside (groups ++ ports) = λ b q. h (n.site None b) (In-append_left (n.site None b) heads items (In-map (n.site None) b (n.header_nodes t) q)) in
          All-append R (option_map_or (map d.header_parameters) t.parameters []) (d.header_ports t.ports ++ map d.item t.items) (groups-so t.parameters)
          (All-append R (d.header_ports t.ports) (map d.item t.items) (ports-so count t.ports (rights-so Outside groups ports header))
          (items-so count t.items (λ b q. h b (In-append_right b heads items q))))

-- the items of a module of a source whose uses of names have no fault
pub source-items : (R : x.Item → Type 0) (s : Source) → ((f : Fault) → IsUseFault s f → ⊥) → (m : ModuleTree) → In m s.modules → Needs (declarations m) R → All R (module' m).items
source-items R s none m there needs = module-so (declarations m) R needs m (λ a here.
    let b = a.node in
    let q = u.meanings_at m a in
    record {
      known = false_from_ne_true (u.is_undeclared q b.setting.parameters b.part) (λ e. none _ (undeclared m a there here e));
      used = false_from_ne_true (u.is_misused q b.part) (λ e. none _ (misused m a there here e));
      fixed = false_from_ne_true (b.setting.constant && u.varies q b.part) (λ e. let p = and_parts b.setting.constant (u.varies q b.part) e in none _ (varying m a there here p.0 p.1));
      allowed = false_from_ne_true (u.is_refused q b.setting.timed b.part) (λ e. none _ (refused m a there here e));
    })
