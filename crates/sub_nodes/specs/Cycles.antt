-- What a cycle of a table does, and a served call (own).
use Rattle.std.specs.Prelude.{ℕ, ◌+◌, Bool, true, false, List, [], ◌∷◌, if◌then◌else◌, slice_get, Option, Some, None}
use Rattle.vl_design.specs.vl_base.specs.declared.files.File.{File}
use Rattle.vl_design.specs.declared.design.Form.{Form}
use Rattle.vl_design.specs.Syntax.{Exp, Stm, Flat}
use Rattle.vl_design.specs.Width.{Names, Scope, form}
use Rattle.vl_design.specs.Value.{Sample, value}
use Rattle.vl_design.specs.State.{State, sample, counted}
use Rattle.vl_design.specs.Tasks.{called}
use Rattle.vl_design.specs.Exec.{exec, is_true, labels_form, some_match}
use Rattle.vl_design.specs.Functions.{scope_of}
use Rattle.vl_design.specs.Queue.{with_updates}
use Rattle.sub_nodes.specs.Nodes.{Segment, Way, WayOn, Go, Branch, Switch, Commit, Node, Run, Trap, Apply}

-- a run of a table: the node that is next, the state, and the values that nets are computed from, which change at the end of
-- a wave and at its update alone
pub record Stage : Type 0 where
  pub node : ℕ
  pub state : State
  pub committed : List (List ℕ)

-- in a state whose values are committed
abbrev pub committed_in : ℕ → State → Stage
committed_in n s = record { node = n; state = s; committed = s.values }

-- one more tick has begun
abbrev pub ticked : State → State
ticked s = record s { ticks = s.ticks + 1; saves = [] }

-- the subject and all labels are sized to the longest, and signed where all are (IEEE 1364-2005, clause 9.5)
abbrev pub ways_form : Names → Form → List Way → Form
ways_form names f [] = f
ways_form names f (w ∷ ws) = ways_form names (labels_form names f w.labels) ws

-- the node of the first way with a label that matches v
abbrev pub way_of : Scope → Sample → ℕ → Form → List Way → ℕ → ℕ
way_of scope s v c [] otherwise = otherwise
way_of scope s v c (w ∷ ws) otherwise = if some_match scope s c v w.labels then w.to else way_of scope s v c ws otherwise

abbrev pub switched : Scope → State → Exp → List Way → ℕ → ℕ
switched scope s e ways otherwise =
    let c = ways_form scope.names (form scope.names e) ways in
    way_of scope (sample s) (value scope (sample s) e c) c ways otherwise

-- the node is a call's
abbrev pub is_trap : Option Node → Bool
is_trap (Some (Trap task to)) = true
is_trap other = false

-- before the statements of the node the clock rises
abbrev pub rises : Option Node → Bool
rises (Some (Run g on)) = g.rises
rises other = false

module _ (scope : Scope) where
  abbrev pub execs : List Stm → State → State
  execs [] s = s
  execs (a ∷ rest) s = execs rest (exec scope a s)

  -- what a segment does
  abbrev pub segment_done : Segment → State → State
  segment_done g s = execs g.statements (if g.rises then ticked s else s)

-- nets gives the values in which the combinational processes have settled
module _ (d : Flat) (files : List File) (nets : State → List (List ℕ)) where
  abbrev pub settled : State → State
  settled s = record s { values = nets s }

  -- behind a segment, in the state s; the choice of a branch and the end of a wave are counted acts
  abbrev pub goes_on : WayOn → State → (committed : List (List ℕ)) → Stage
  goes_on (Go to) s committed = record { node = to; state = s; committed = committed }
  goes_on (Branch t first second) s committed =
      record { node = if is_true (scope_of d files) t s then first else second; state = counted s; committed = committed }
  goes_on (Switch e ways otherwise) s committed =
      record { node = switched (scope_of d files) s e ways otherwise; state = counted s; committed = committed }
  goes_on (Commit to) s committed = committed_in to (settled (counted s))

  -- a node's cycle: a trap, and the number of no node, stay
  abbrev pub cycled : Option Node → Stage → Stage
  cycled None i = i
  cycled (Some (Run g on)) i = goes_on on (segment_done (scope_of d files) g i.state) i.committed
  cycled (Some (Trap task to)) i = i
  cycled (Some (Apply to)) i = committed_in to (settled (counted (with_updates d.rows i.state)))

  abbrev pub cycle : List Node → Stage → Stage
  cycle nodes i = cycled (slice_get nodes i.node) i

-- the call of a trap is done
abbrev pub served_by : Scope → Option Node → Stage → Stage
served_by scope (Some (Trap task to)) i = record i { node = to; state = called scope task i.state }
served_by scope other i = i

abbrev pub served : Scope → List Node → Stage → Stage
served scope nodes i = served_by scope (slice_get nodes i.node) i
