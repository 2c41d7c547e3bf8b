-- At most how many cells the states of nodes have (own).
use Rattle.std.specs.Prelude.{◌≡◌, ℕ, ◌+◌, ◌*◌, ◌≤◌, List, [], ◌∷◌, length, slice_get, Option, Some}
use Rattle.vl_design.specs.Syntax.{Stm, Flat}
use Rattle.cell_emit.specs.cell_form.specs.Data.{StateData}
use Rattle.cell_expr.specs.Counts.{stm_count, body_cells}
use Rattle.cell_calls.specs.Counts.{asked_count}
use Rattle.cell_calls.specs.Next.{next_count}
use Rattle.cell_waves.specs.Begins.{begin_count}
use Rattle.cell_waves.specs.Copies.{count_to}
use Rattle.ten_form.specs.Delays.{is_delayed}
use Rattle.ten_form.specs.sub_nodes.specs.Nodes.{Segment, WayOn, Go, Node, Run, Trap, Apply}
use Rattle.ten_form.specs.Banks.{stores_in}

-- statements one after another
abbrev pub stms_count : Flat → List Stm → ℕ
stms_count d [] = 0
stms_count d (a ∷ rest) = stm_count (body_cells d) a + stms_count d rest

-- up to the end of a segment, where it reads so many stores, each by four cells; and four where the clock rises
abbrev pub segment_count : Flat → List ℕ → ℕ → Segment → ℕ
segment_count d order stores g = begin_count d order + 4 * stores + (4 + stms_count d g.statements)

-- what the call of a trap is given
abbrev pub call_count : Flat → Option Node → ℕ
call_count d (Some (Trap task to)) = asked_count (body_cells d) task
call_count d other = 0

-- the number of the node that is next; and where that is a call's, what it is given
abbrev pub way_count : Flat → List Node → WayOn → ℕ
way_count d nodes (Go to) = 1 + call_count d (slice_get nodes to)
way_count d nodes on = next_count (body_cells d) on

-- of the state of an update: a 0, four for each store, six for each signal that a nonblocking assignment names, and the number of the node
-- that is next
abbrev pub update_count : Flat → ℕ
update_count d = 1 + 4 * length (stores_in d) + 6 * count_to (is_delayed d) (length d.rows) + 1

-- of the state of a node
abbrev pub node_count : Flat → List ℕ → List Node → Node → ℕ
node_count d order nodes (Run g on) = segment_count d order (length (stores_in d)) g + way_count d nodes on
node_count d order nodes (Trap task to) = 0
node_count d order nodes (Apply to) = update_count d

-- the states of these nodes have at most so many
abbrev pub AreCounted : Flat → List ℕ → List Node → List StateData → Type 0
AreCounted d order nodes states =
    (n : ℕ) (x : Node) (s : StateData) → slice_get nodes n ≡ Some x → slice_get states n ≡ Some s → length s.cells.cells ≤ node_count d order nodes x
