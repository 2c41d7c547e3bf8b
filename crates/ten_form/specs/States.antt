-- What it means that states of cells do what the nodes of a table do (own).
use Rattle.std.specs.Prelude.{◌≡◌, ℕ, ◌+◌, ◌<◌, ◌≤◌, ◌^◌, false, List, [], ◌∷◌, length, map, slice_get, slice_index, Some, None}
use Rattle.std.specs.List.{AllByRecursion}
use Rattle.vl_design.specs.vl_base.specs.declared.files.File.{File}
use Rattle.vl_design.specs.Functions.{scope_of}
use Rattle.vl_design.specs.State.{sample}
use Rattle.vl_design.specs.Syntax.{Task, Flat}
use Rattle.cell_emit.specs.cell_form.specs.Data.{ListData, BankData, StateData}
use Rattle.cell_emit.specs.cell_form.specs.Cycle as cells
use Rattle.cell_emit.specs.cell_form.specs.Sound.{Shape, IsList, shape_of}
use Rattle.cell_emit.specs.cell_form.specs.declared.table.Trap.{Trap as TrapOf}
use Rattle.sub_split.specs.sub_nodes.specs.Nodes.{Go, Node, Run, Trap, Apply}
use Rattle.sub_split.specs.sub_nodes.specs.Cycles.{Stage, cycled}
use Rattle.ten_form.specs.Registers.{state_register}
use Rattle.ten_form.specs.Nets.{nets_of, IsTidy, HoldsNoOthers}
use Rattle.ten_form.specs.Banks.{cell_nodes, stores_before, IsFor, HoldsState}
use Rattle.ten_form.specs.Holding.{IsIdle}
use Rattle.ten_form.specs.Asked.{asked}
use Rattle.ten_form.specs.Traps.{IsTrapOf}
use Rattle.ten_form.specs.Delays.{IsDue}

-- so many slots are there up to the end of a list
abbrev pub slots_in : ListData → ℕ
slots_in l = l.first + length l.cells

-- before which number stores are idle where a node is next: those of its segment, and of the segments that may come behind it in
-- its wave
abbrev pub idle_before : ℕ → Node → ℕ
idle_before n (Run g on) = n + 1
idle_before n (Trap task to) = to + 1
idle_before n (Apply to) = 0

-- a bank holds a stage of a run of a table: the node that is next, the state, and the values committed last
pub record HoldsStage (d : Flat) (b : BankData) (i : Stage) : Type 0 where
  pub node : slice_index b.regs state_register ≡ i.node
  pub holds : HoldsState d b i.state i.committed
  pub idle : (x : Node) → slice_get (cell_nodes d) i.node ≡ Some x → AllByRecursion (IsIdle b) (stores_before d (idle_before i.node x))

module _ (d : Flat) (order : List ℕ) where
  -- the stage behind the cycle of a node
  abbrev pub behind : List File → Node → Stage → Stage
  behind files x i = cycled d files (nets_of d files order) (Some x) i

  -- a run that goes on is at a stage behind time zero's wave, and may do the cycle of this node, whose number is next: so many slots
  -- are there, and the clock has ticks left
  pub record MayCycle (files : List File) (n : ℕ) (x : Node) (slots : ℕ) (b : BankData) (i : Stage) : Type 0 where
    pub at : i.node ≡ n
    pub there : slice_get (cell_nodes d) n ≡ Some x
    pub shape : IsFor d slots (shape_of b)
    pub tidy : IsTidy d files order i.state i.committed
    -- loop variables and clocks are 0, and stay so
    pub others : HoldsNoOthers d i.state i.committed
    pub others_behind : HoldsNoOthers d (behind files x i).state (behind files x i).committed
    pub due : IsDue d x i
    pub alive : i.state.finished ≡ false
    pub few : (behind files x i).state.ticks < 2 ^ 32
    pub stage : HoldsStage d b i

  -- a list of cells does what the node of a number does
  pub record DoesNode (n : ℕ) (x : Node) (l : ListData) : Type 0 where
    pub runs : (z : Shape) → IsFor d (slots_in l) z → IsList z l
    pub does : (files : List File) (b : BankData) (i : Stage) → MayCycle files n x (slots_in l) b i → HoldsStage d (cells.cycled l b) (behind files x i)

  -- and slots hold what the call is given that comes behind it
  pub record AsksFor (n : ℕ) (x : Node) (l : ListData) (task : Task) (args : List ℕ) : Type 0 where
    pub asks : (files : List File) (b : BankData) (i : Stage) → MayCycle files n x (slots_in l) b i →
        map (slice_index (cells.cycled l b).slots) args ≡ asked (scope_of d files) (sample (behind files x i).state) task

  -- the state of a number has this trap
  pub record HasTrap (states : List StateData) (n : ℕ) (t : TrapOf) : Type 0 where
    pub state : StateData
    pub there : slice_get states n ≡ Some state
    pub trap : state.trap ≡ Some t

  -- a state without a trap does what a node does
  pub record Does (n : ℕ) (x : Node) (s : StateData) : Type 0 where
    pub none : s.trap ≡ None
    pub does : DoesNode n x s.cells

  -- and leads to the trap of this number, a call's, whose arguments stand in its slots
  pub record LeadsToCall (n : ℕ) (nodes : List Node) (states : List StateData) (x : Node) (s : StateData) (m : ℕ) : Type 0 where
    pub task : Task
    pub to : ℕ
    pub trap : TrapOf
    pub node : slice_get nodes m ≡ Some (Trap task to)
    pub there : HasTrap states m trap
    pub asks : AsksFor n x s.cells task trap.args

  -- a state with a trap has no cells: just one state is next
  pub record Waits (slots : ℕ) (task : Task) (to : ℕ) (s : StateData) : Type 0 where
    pub no_cells : s.cells.cells ≡ []
    pub no_writes : s.cells.sets ≡ []
    pub trap : TrapOf
    pub is : s.trap ≡ Some trap
    pub next : s.nexts ≡ to ∷ []
    pub call : IsTrapOf d task slots trap

  abbrev pub IsStateOf : ℕ → ℕ → List Node → List StateData → Node → StateData → Type 0
  IsStateOf n slots nodes states (Run g (Go m)) s = Does n (Run g (Go m)) s × LeadsToCall n nodes states (Run g (Go m)) s m
  IsStateOf n slots nodes states (Run g on) s = Does n (Run g on) s
  IsStateOf n slots nodes states (Trap task to) s = Waits slots task to s
  IsStateOf n slots nodes states (Apply to) s = Does n (Apply to) s

  -- of each node the state of its number; so many slots are there for all
  pub record AreStates (slots : ℕ) (nodes : List Node) (states : List StateData) : Type 0 where
    pub many : length states ≡ length nodes
    pub fits : (n : ℕ) (s : StateData) → slice_get states n ≡ Some s → slots_in s.cells ≤ slots
    pub each : (n : ℕ) (x : Node) (s : StateData) → slice_get nodes n ≡ Some x → slice_get states n ≡ Some s → IsStateOf n slots nodes states x s

  -- ---- runs

  -- where a call is next, its trap's arguments stand in slots
  pub record IsAsked (files : List File) (states : List StateData) (b : BankData) (i : Stage) (task : Task) : Type 0 where
    pub trap : TrapOf
    pub there : HasTrap states i.node trap
    pub args : map (slice_index b.slots) trap.args ≡ asked (scope_of d files) (sample i.state) task

  -- with this bank the states are where the nodes are
  pub record StandsAt (files : List File) (slots : ℕ) (nodes : List Node) (states : List StateData) (b : BankData) (i : Stage) : Type 0 where
    pub shape : IsFor d slots (shape_of b)
    pub stage : HoldsStage d b i
    pub asked : (task : Task) (to : ℕ) → slice_get nodes i.node ≡ Some (Trap task to) → IsAsked files states b i task
