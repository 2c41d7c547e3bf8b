use Rattle.std.proofs.Common.{◌≡◌, map, drop}
use Rattle.vl_design.specs.Alone.{blocks}
use Rattle.vl_design.specs.Queue.{is_init}
use Rattle.vl_design.specs.Trees.{proc_of}
use Rattle.vl_design.specs.Width.{names_of}
use Rattle.vl_run.specs.Machines.{IsMachine}
use Rattle.sub_runs.specs.sub_nodes.specs.Cycles.{execs}
use Rattle.sub_runs.specs.sub_nodes.specs.Implements.{bodies}
use Rattle.ten_zero.specs.Early.{blocks_done, flat_in, scope_in, state_in}
use Rattle.ten_zero.proofs.setting.Setting.do_blocks.Given as goal

-- the blocks of the rest lead from here where all lead
abbrev pub invariant-loop-process : goal.invariant-loop-process
invariant-loop-process l =
    let rest = bodies (blocks is_init (map proc_of (drop l.process-index l.process-items))) in
    record {
      machine : IsMachine (names_of (flat_in l.self)) l.e.machine;
      does : execs (scope_in l.self) rest (state_in l.e) ≡ blocks_done (flat_in l.self) l.self.files.now (state_in l.initial.e);
    }
