-- What a table is a table of: each reference into a design as its plain data.
use Rattle.std.specs.Prelude.{ℕ, List, [], map}
use Rattle.vl_design.specs.declared.design.SysCall.{SysCall}
use Rattle.vl_design.specs.Syntax.{Task, Stm, Set, Later}
use Rattle.vl_design.specs.Plainly as plain
use Rattle.vl_design.specs.Seen as seen
use Rattle.vl_design.specs.Trees.{exp_of, exps_of, target_of, stm_of, task_of}
use Rattle.sub_nodes.specs.Nodes as n
use Rattle.sub_split.specs.declared.table.Piece.{Piece}
use Rattle.sub_split.specs.declared.table.Piece.TheVariants as p
use Rattle.sub_split.specs.declared.table.Segment.{Segment}
use Rattle.sub_split.specs.declared.table.Way.{Way}
use Rattle.sub_split.specs.declared.table.WayOn.{WayOn}
use Rattle.sub_split.specs.declared.table.WayOn.TheVariants as w
use Rattle.sub_split.specs.declared.table.Node.{Node}
use Rattle.sub_split.specs.declared.table.Node.TheVariants as v
use Rattle.sub_split.specs.declared.table.Wave.{Wave}
use Rattle.sub_split.specs.declared.table.Table.{Table}

-- a system call in an instance of this path
abbrev pub call_view : List ℕ → SysCall → Task
call_view path call = task_of path call.name (plain.args (seen.args_of call.args.items))

abbrev pub piece_view : Piece → Stm
piece_view (p.Whole a) = stm_of [] a.now
piece_view (p.Loop path a) = stm_of path.now a.now
piece_view (p.Set target source) = Set (target_of target.now) (exp_of source.now)
piece_view (p.Later target source) = Later (target_of target.now) (exp_of source.now)

abbrev pub segment_view : Segment → n.Segment
segment_view g = record { rises = g.rises; statements = map piece_view g.statements.items }

abbrev pub way_view : Way → n.Way
way_view x = record { labels = exps_of x.labels.now; to = x.to }

abbrev pub way_on_view : WayOn → n.WayOn
way_on_view (w.Go to) = n.Go to
way_on_view (w.Branch test first second) = n.Branch (exp_of test.now) first second
way_on_view (w.Switch subject ways otherwise) = n.Switch (exp_of subject.now) (map way_view ways.items) otherwise
way_on_view (w.Commit to) = n.Commit to

abbrev pub node_view : Node → n.Node
node_view (v.Run segment on) = n.Run (segment_view segment) (way_on_view on)
node_view (v.Trap path call to) = n.Trap (call_view path.now call.now) to
node_view (v.Apply to) = n.Apply to

abbrev pub wave_view : Wave → n.Wave
wave_view x = record { first = x.first; update = x.update }

abbrev pub table_view : Table → n.Table
table_view t = record { nodes = map node_view t.nodes.items; zero = wave_view t.zero; rise = wave_view t.rise; fall = wave_view t.fall }
