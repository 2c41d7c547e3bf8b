-- States of the first nodes of a table (own).
use Rattle.std.specs.Prelude.{◌≡◌, ℕ, ◌≤◌, List, [], ◌∷◌, ◌++◌, length, drop, slice_get, Option, Some, None}
use Rattle.vl_design.specs.Syntax.{Task, Flat}
use Rattle.cell_emit.specs.cell_form.specs.Data.{StateData}
use Rattle.ten_form.specs.sub_nodes.specs.Nodes.{Segment, WayOn, Go, Node}
use Rattle.ten_form.specs.sub_nodes.specs.Pairs.{ArePaired}
use Rattle.ten_form.specs.Banks.{stores_after}
use Rattle.ten_form.specs.States.{slots_in, Does, IsStateOf}
use Rattle.cell_states.specs.Cells.{AreCounted}
use Rattle.cell_states.specs.Trims.{Calls}
use Rattle.cell_states.specs.Widths.{IsNarrow, AreNarrow}

-- the node to which a segment goes whatever is read, if it is a call's
abbrev pub go_of : WayOn → Option ℕ
go_of (Go to) = Some to
go_of on = None

-- of the first nodes there are states, which have so many slots together; the nodes behind them begin with none of a call, and have so
-- many stores
pub record AreFirst (d : Flat) (order : List ℕ) (nodes : List Node) (states : List StateData) (slots stores : ℕ) : Type 0 where
  pub many : length states ≤ length nodes
  pub fits : (n : ℕ) (s : StateData) → slice_get states n ≡ Some s → slots_in s.cells ≤ slots
  pub each : (n : ℕ) (x : Node) (s : StateData) → slice_get nodes n ≡ Some x → slice_get states n ≡ Some s → IsStateOf d order n slots nodes states x s
  pub rest : ArePaired (length states) (drop (length states) nodes)
  pub left : stores ≡ length (stores_after d (length states))
  pub few : AreCounted d order nodes states
  pub narrow : AreNarrow d states

-- one state more, which does the node of a number, has at most so many cells, sets no register from too wide a slot, and its slots
pub record HasOneMore (d : Flat) (order : List ℕ) (n : ℕ) (x : Node) (most : ℕ) (old : List StateData) (before : ℕ) (new : List StateData) (after : ℕ) : Type 0 where
  pub state : StateData
  pub is : new ≡ old ++ state ∷ []
  pub grows : before ≤ after
  pub slots : slots_in state.cells ≡ after
  pub does : Does d order n x state
  pub few : length state.cells.cells ≤ most
  pub narrow : IsNarrow d state

-- two more, of a segment of that number that comes to a call, with at most so many cells, and of the call
pub record HasTwoMore (d : Flat) (order : List ℕ) (n : ℕ) (g : Segment) (trap : ℕ) (task : Task) (to most : ℕ) (old : List StateData) (before : ℕ) (new : List StateData) (after : ℕ) : Type 0 where
  pub run : StateData
  pub wait : StateData
  pub is : new ≡ (old ++ run ∷ []) ++ wait ∷ []
  pub grows : before ≤ after
  pub slots : slots_in run.cells ≡ after
  pub slots_behind : slots_in wait.cells ≡ after
  pub calls : Calls d order n g trap task to run wait
  pub few : length run.cells.cells ≤ most
  pub narrow : IsNarrow d run
