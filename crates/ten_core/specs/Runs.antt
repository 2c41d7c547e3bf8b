-- Where the run of a tenant is (own).
use Rattle.std.specs.Prelude.{◌≡◌, ℕ, ◌<◌, false, List, slice_get, All, Some}
use Rattle.vl_design.specs.Alone.{Origin}
use Rattle.vl_design.specs.Functions.{scope_of}
use Rattle.vl_design.specs.Laws.{can_act}
use Rattle.vl_design.specs.Sound.{IsSoundTask}
use Rattle.vl_design.specs.Syntax.{Task}
use Rattle.vl_design.specs.Width.{names_of}
use Rattle.ten_form.specs.cell_emit.specs.Envs.{HasOneWord}
use Rattle.ten_form.specs.sub_nodes.specs.Code.{table_of}
use Rattle.ten_form.specs.sub_nodes.specs.Cycles.{Stage, cycle, served}
use Rattle.ten_form.specs.sub_nodes.specs.Nodes.{Segment, WayOn, Node, Run, Trap}
use Rattle.ten_form.specs.sub_nodes.specs.Stands.{Comes, at_trap}
use Rattle.ten_form.specs.sub_nodes.specs.Early.{early_from}
use Rattle.ten_files.specs.Tables.{open_files, IsTableOf}
use Rattle.ten_form.specs.Banks.{cell_nodes}
use Rattle.ten_form.specs.Nets.{nets_of, IsTidy, HoldsNoOthers}
use Rattle.ten_form.specs.Works.{IsVariableRead, HaveBytes}
use Rattle.ten_form.specs.Delays.{IsDue}
use Rattle.ten_form.specs.States.{StandsAt}
use Rattle.ten_core.specs.Tenants.{TenantData, states_of, IsImage}

-- the stage behind a cycle, where nets settle in this order, and the one behind a served call
abbrev pub after_cycle : Origin → List ℕ → Stage → Stage
after_cycle o order i = cycle o.flat o.files (nets_of o.flat o.files order) (table_of o.flat).nodes i

abbrev pub after_call : Origin → Stage → Stage
after_call o i = served (scope_of o.flat o.files) (table_of o.flat).nodes i

-- the tenant is at this stage of the run of its design's table, after c acts
pub record IsAt (o : Origin) (order : List ℕ) (t : TenantData) (c : ℕ) (i : Stage) : Type 0 where
  pub image : IsImage o.flat order t.image
  pub files : o.files ≡ t.files
  pub comes : Comes o (table_of o.flat) (nets_of o.flat o.files order) c i
  -- time zero's wave has ended
  pub late : i.node < early_from o.flat
  pub stands : StandsAt o.flat order o.files t.image.slots (cell_nodes o.flat) (states_of t.image) t.bank i
  pub printed : t.printed ≡ i.state.printed
  pub fits : IsTableOf o.files t.rows
  pub table : open_files o.files t.rows ≡ i.state.table
  pub finished : t.finished ≡ i.state.finished
  pub waits : t.waits ≡ at_trap (table_of o.flat) i
  pub cycles : t.cycles ≡ c
  pub asked : t.asked ≡ i.state.saves
  pub ticks : t.ticks ≡ i.state.ticks
  pub next : t.next ≡ i.node

-- what cycles and calls need of a design and its runs
pub record IsTame (o : Origin) (order : List ℕ) : Type 0 where
  pub one_word : HasOneWord o.flat.rows
  pub bytes : HaveBytes o.files
  -- calls stand in nodes of their own
  pub quiet : (n : ℕ) (g : Segment) (on : WayOn) → slice_get (table_of o.flat).nodes n ≡ Some (Run g on) → All (λ a. can_act a ≡ false) g.statements
  pub calls : (n : ℕ) (task : Task) (to : ℕ) → slice_get (table_of o.flat).nodes n ≡ Some (Trap task to) →
      IsSoundTask (names_of o.flat) task × IsVariableRead o.flat task
  pub tidy : (c : ℕ) (i : Stage) → Comes o (table_of o.flat) (nets_of o.flat o.files order) c i → i.node < early_from o.flat → i.state.finished ≡ false →
      IsTidy o.flat o.files order i.state i.committed
  -- loop variables and clocks are 0
  pub others : (c : ℕ) (i : Stage) → Comes o (table_of o.flat) (nets_of o.flat o.files order) c i → HoldsNoOthers o.flat i.state i.committed
  pub due : (c : ℕ) (i : Stage) (x : Node) → Comes o (table_of o.flat) (nets_of o.flat o.files order) c i → slice_get (table_of o.flat).nodes i.node ≡ Some x → IsDue o.flat x i

-- the tenant is somewhere in a run of such a design
pub record Runs (t : TenantData) : Type 0 where
  pub origin : Origin
  pub order : List ℕ
  pub acts : ℕ
  pub stage : Stage
  pub at : IsAt origin order t acts stage
  pub tame : IsTame origin order
