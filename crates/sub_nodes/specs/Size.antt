-- How many nodes a design's table has (own).
use Rattle.std.specs.Prelude.{ℕ, ◌+◌}
use Rattle.vl_design.specs.Syntax.{Flat}
use Rattle.vl_design.specs.Queue.{is_init, is_rise, is_fall}
use Rattle.vl_design.specs.Alone.{blocks}
use Rattle.sub_nodes.specs.Implements.{bodies}
use Rattle.sub_nodes.specs.Shape.{all_cuts}

-- where the blocks of a design are cut
abbrev pub table_cuts : Flat → ℕ
table_cuts d = all_cuts (bodies (blocks is_init d.procs)) + all_cuts (bodies (blocks is_rise d.procs)) + all_cuts (bodies (blocks is_fall d.procs))
