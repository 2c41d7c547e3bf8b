-- Engines and images as plain data, and which image stands for a design (own).
use Rattle.std.specs.Prelude.{◌≡◌, ℕ, ◌≤◌, ◌^◌, Bool, List, length, Option, option_map}
use Rattle.std.specs.Arc.{arc_value}
use Rattle.vl_design.specs.vl_base.specs.declared.files.File.{File}
use Rattle.vl_design.specs.Costs.{saturated_cost}
use Rattle.vl_design.specs.Alone as alone
use Rattle.vl_design.specs.Cost.{cost}
use Rattle.vl_design.specs.Syntax.{Flat}
use Rattle.vl_design.specs.Trees.{flat_of}
use Rattle.trap_runtime.specs.cell_form.specs.Data.{BankData, StateData, TableData}
use Rattle.trap_runtime.specs.cell_form.specs.Views as cells
use Rattle.ten_form.specs.sub_nodes.specs.Code.{table_of}
use Rattle.ten_files.specs.declared.row.Row.{Row}
use Rattle.ten_form.specs.Banks.{cell_nodes, stores_in}
use Rattle.ten_form.specs.Registers.{state_register}
use Rattle.ten_core.specs.Holding.{CanBeHeld}
use Rattle.ten_core.specs.Ports.{ports_of}
use Rattle.ten_form.specs.Paired.{CallsStandApart}
use Rattle.ten_form.specs.States.{AreStates}
use Rattle.ten_plan.specs.Held.{snapshot_of}
use Rattle.ten_plan.specs.Plans.{plan_of}
use Rattle.ten_core.specs.declared.engine.Engine.{Engine}
use Rattle.ten_core.specs.declared.image.Image.{Image}
use Rattle.ten_core.specs.declared.origin.Origin.{Origin}

-- what an engine has, and the bank that it runs on
pub record TenantData : Type 0 where
  pub image : Image
  pub files : List File
  -- the rows of the table of open files
  pub rows : List (Option Row)
  pub bank : BankData
  pub printed : List ℕ
  -- the names of the snapshots asked for in this tick
  pub asked : List (List ℕ)
  pub ticks : ℕ
  pub cycles : ℕ
  -- the number of the state that is next
  pub next : ℕ
  pub waits : Bool
  pub finished : Bool

abbrev pub tenant_of : Engine → BankData → TenantData
tenant_of e b = record {
  image = (arc_value e.origin).image;
  files = (arc_value e.origin).files;
  rows = e.open;
  bank = b;
  printed = e.printed.items;
  asked = e.asked.items;
  ticks = e.ticks;
  cycles = e.cycles;
  next = e.next;
  waits = e.waits;
  finished = e.finished;
}

-- the states of an engine's image
abbrev pub table_in : Engine → TableData
table_in e = cells.table_of (arc_value e.origin).image.table

abbrev pub states_of : Image → List StateData
states_of image = (cells.table_of image.table).states

-- the run alone that an engine's is
abbrev pub origin_of : Origin → alone.Origin
origin_of o = record {
  flat = flat_of o.image.design;
  files = o.files;
  plan = plan_of o.plan;
  resume = option_map (snapshot_of (flat_of o.image.design).rows) o.start;
}

-- the states of the image do what the nodes of the design's table behind time zero's wave do, where nets settle in this order
pub record IsImage (d : Flat) (order : List ℕ) (image : Image) : Type 0 where
  pub design : d ≡ flat_of image.design
  pub ordered : image.order.items ≡ order
  -- so many slots are there, and so many stores of pending writes to words
  pub states : AreStates d order image.slots (cell_nodes d) (states_of image)
  pub stores : image.stores ≡ length (stores_in d)
  pub register : image.table.state ≡ state_register
  pub apart : CallsStandApart (cell_nodes d)
  pub rise : image.rise ≡ (table_of d).rise.first
  -- its acts can be counted
  pub few : length (table_of d).nodes ≤ 2 ^ 31
  -- where its banks have what a snapshot keeps
  pub ports : image.ports.ports ≡ ports_of d.rows
  pub held : CanBeHeld d
  pub costs : image.cost ≡ saturated_cost (cost d)
