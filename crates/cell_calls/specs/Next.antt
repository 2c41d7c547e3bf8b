-- Which node is next behind a segment, and at most how many cells find it (IEEE 1364-2005, clauses 9.4 and 9.5; own).
use Rattle.std.specs.Prelude.{ℕ, ◌+◌, ◌==◌, if◌then◌else◌, List, [], ◌∷◌, map}
use Rattle.vl_design.specs.Value.{Sample, value, own_value}
use Rattle.vl_design.specs.Width.{Scope, form}
use Rattle.ten_form.specs.sub_nodes.specs.Nodes as n
use Rattle.ten_form.specs.sub_nodes.specs.Nodes.{WayOn, Go, Branch, Switch, Commit}
use Rattle.ten_form.specs.sub_nodes.specs.Cycles.{ways_form, way_of}
use Rattle.cell_expr.specs.Counts.{exp_count, labels_count}
use Rattle.ten_form.specs.sub_split.specs.declared.table.Way.{Way}
use Rattle.ten_form.specs.sub_split.specs.Views.{way_view}

abbrev pub ways_view : List Way → List n.Way
ways_view ws = map way_view ws

-- the node to which what is read leads
abbrev pub next_node : Scope → Sample → WayOn → ℕ
next_node scope s (Go to) = to
next_node scope s (Branch t first second) = if own_value scope s t == 0 then second else first
next_node scope s (Switch e ws otherwise) =
    let c = ways_form scope.names (form scope.names e) ws in
    way_of scope s (value scope s e c) c ws otherwise
next_node scope s (Commit to) = to

-- ---- cells

-- of each way its labels, its number and a choice
abbrev pub ways_count : (ℕ → ℕ) → List n.Way → ℕ
ways_count body [] = 0
ways_count body (w ∷ ws) = ways_count body ws + (labels_count body w.labels + 2)

abbrev pub next_count : (ℕ → ℕ) → WayOn → ℕ
next_count body (Go to) = 1
next_count body (Branch t first second) = exp_count body t + 3
next_count body (Switch e ws otherwise) = exp_count body e + 1 + ways_count body ws
next_count body (Commit to) = 1
