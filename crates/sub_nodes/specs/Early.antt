-- The nodes of time zero's wave (own).
use Rattle.std.specs.Prelude.{ℕ, ◌+◌, ◌≤◌, List, [], ◌∷◌, length}
use Rattle.vl_design.specs.Syntax.{Flat}
use Rattle.vl_design.specs.Queue.{is_rise, is_fall}
use Rattle.vl_design.specs.Alone.{blocks}
use Rattle.sub_nodes.specs.Nodes.{rising, Commit, Node, Run, Apply}
use Rattle.sub_nodes.specs.Implements.{bodies}
use Rattle.sub_nodes.specs.Code.{wave_nodes, fall_nodes, updates}
use Rattle.sub_nodes.specs.Shape.{targets}

-- the nodes with which a run may go on behind a node
abbrev pub next_of : Node → List ℕ
next_of (Run g (Commit to)) = to ∷ []
next_of (Apply to) = to ∷ []
next_of x = targets x

-- the number of the first node of time zero's wave: its nodes stand behind all others in a design's table
abbrev pub early_from : Flat → ℕ
early_from d =
    let falls = blocks is_fall d.procs in
    let from = length (updates falls 0 0) in
    let up = wave_nodes from 1 (bodies (blocks is_rise d.procs)) rising in
    from + length up + length (fall_nodes (from + length up) falls)

-- the node is one of time zero's wave, but not its update
abbrev pub IsEarly : Flat → ℕ → Type 0
IsEarly d n = early_from d ≤ n
