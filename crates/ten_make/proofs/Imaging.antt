-- What is made of a design is its image.
use Rattle.std.proofs.Common.{◌≡◌, ℕ, ◌≤◌, ◌^◌, List, length, map, take, sym, ap, ◌∙◌, subst}
use Rattle.ten_core.specs.vl_design.specs.Costs.{saturated_cost}
use Rattle.ten_core.specs.vl_design.specs.Cost.{cost}
use Rattle.std.specs.Prelude.{All}
use Rattle.std.proofs.lemmas.List.{length-map}
use Rattle.ten_core.specs.vl_design.specs.Syntax.{Flat}
use Rattle.ten_core.specs.vl_design.specs.Trees.{flat_of}
use Rattle.ten_core.specs.vl_design.specs.Width.{names_of}
use Rattle.ten_core.specs.cell_form.specs.declared.bank.PortMap.{PortMap}
use Rattle.ten_core.specs.cell_form.specs.declared.table.StateTable.{StateTable}
use Rattle.ten_core.specs.cell_form.specs.Views as cells
use Rattle.ten_core.specs.cell_form.specs.Views.{state_of}
use Rattle.sub_split.specs.sub_nodes.specs.Nodes as n
use Rattle.sub_split.specs.sub_nodes.specs.Code.{table_of}
use Rattle.sub_split.specs.sub_nodes.specs.Early.{early_from}
use Rattle.sub_split.specs.declared.table.Node.{Node}
use Rattle.sub_split.specs.declared.table.Table.{Table}
use Rattle.sub_split.specs.Views.{node_view, table_view}
use Rattle.ten_core.specs.ten_form.specs.Banks.{cell_nodes, stores_in}
use Rattle.ten_core.specs.ten_form.specs.Registers.{state_register}
use Rattle.std.specs.List.{AllByRecursion}
use Rattle.ten_make.specs.Designs.{IsTenantDesign}
use Rattle.ten_core.specs.Holding.{CanBeHeld, IsSized}
use Rattle.ten_core.specs.Ports.{ports_of}
use Rattle.ten_core.specs.ten_form.specs.Paired.{CallsStandApart}
use Rattle.ten_core.specs.ten_form.specs.States.{AreStates}
use Rattle.cell_states.specs.Pieces.{IsCellNode}
use Rattle.cell_states.specs.declared.made.States.{States}
use Rattle.ten_core.specs.declared.image.Image.{Image}
use Rattle.ten_core.specs.Tenants.{IsImage}

-- ---- the table

pub nodes-are : (d : Flat) (t : Table) → table_view t ≡ table_of d → map node_view t.nodes.items ≡ (table_of d).nodes
nodes-are d t same = ap (λ (x : n.Table). x.nodes) same

pub rise-is : (d : Flat) (t : Table) → table_view t ≡ table_of d → t.rise.first ≡ (table_of d).rise.first
rise-is d t same = ap (λ (x : n.Table). x.rise.first) same

pub first-cells : (d : Flat) (xs : List Node) (early : ℕ) → early ≡ early_from d → All (IsCellNode (names_of d)) (take (early_from d) xs) → All (IsCellNode (names_of d)) (take early xs)
first-cells d xs early same h = subst (λ k. All (IsCellNode (names_of d)) (take k xs)) (sym same) h

-- ---- the image

module _ (d : Flat) (order : List ℕ) where
  -- what holds of the states
  pub record AreMade (made : States) : Type 0 where
    pub register : made.table.state ≡ state_register
    pub states : AreStates d order made.slots (cell_nodes d) (map state_of made.table.states)
    pub stores : made.stores ≡ length (stores_in d)

  pub record IsOf (made : States) (rise : ℕ) (places : PortMap) (image : Image) : Type 0 where
    pub design : d ≡ flat_of image.design
    pub ordered : image.order.items ≡ order
    pub table : image.table ≡ made.table
    pub slots : image.slots ≡ made.slots
    pub stores : image.stores ≡ made.stores
    pub begins : image.rise ≡ rise
    pub ports : image.ports ≡ places
    pub costs : image.cost ≡ saturated_cost (cost d)

  pub image-is : (xs : List Node) (made : States) (rise : ℕ) (places : PortMap) (image : Image) → map node_view xs ≡ (table_of d).nodes → length xs ≤ 2 ^ 31 → rise ≡ (table_of d).rise.first → CallsStandApart (cell_nodes d)
      → places.ports ≡ ports_of d.rows → CanBeHeld d → AreMade made → IsOf made rise places image → IsImage d order image
  image-is xs made rise places image same few first apart kept held are is = record {
    design = is.design;
    ordered = is.ordered;
    states =
        subst (λ k. AreStates d order k (cell_nodes d) (cells.table_of image.table).states) (sym is.slots)
        (subst (λ (x : StateTable). AreStates d order made.slots (cell_nodes d) (cells.table_of x).states) (sym is.table) are.states);
    stores = is.stores ∙ are.stores;
    register = ap (λ (x : StateTable). x.state) is.table ∙ are.register;
    apart = apart;
    rise = is.begins ∙ first;
    few = subst (λ k. k ≤ 2 ^ 31) (sym (length-map xs node_view) ∙ ap (λ (ys : List n.Node). length ys) same) few;
    ports = ap (λ (x : PortMap). x.ports) is.ports ∙ kept;
    held = held;
    costs = is.costs;
  }

-- ---- designs that can be held
