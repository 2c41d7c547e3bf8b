-- What takes memory (own).
use Rattle.std.specs.Prelude.{Bool, true, if◌then◌else◌}
use Rattle.ten_core.specs.sub_nodes.specs.Code.{table_of}
use Rattle.ten_core.specs.sub_nodes.specs.Stands.{at_trap}
use Rattle.ten_core.specs.Memory.{serving_takes_memory}
use Rattle.fab_model.specs.Points.{Point, run_in}

-- what a tenant waits for takes memory to be done: making a snapshot does, serving a call only where that does
abbrev pub takes_memory : Point → Bool
takes_memory p = if at_trap (table_of (run_in p).flat) p.stage then serving_takes_memory (run_in p).flat p.stage else true
