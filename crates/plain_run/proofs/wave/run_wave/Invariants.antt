use Rattle.std.proofs.Common.{◌≡◌, map, drop}
use Rattle.vl_eval.specs.vl_design.specs.Alone.{blocks}
use Rattle.vl_eval.specs.vl_design.specs.Trees.{proc_of, flat_of}
use Rattle.vl_eval.specs.vl_design.specs.Width.{names_of}
use Rattle.vl_run.specs.Machines.{IsMachine}
use Rattle.plain_run.specs.Runs.{is_of, wave_of, Reaches}
use Rattle.plain_run.proofs.wave.run_wave.Given as goal

-- the wave has come so far that the blocks of the rest are left
abbrev pub invariant-loop-process : goal.invariant-loop-process
invariant-loop-process l =
    let d = flat_of l.design in
    record {
      machine : IsMachine (names_of d) l.m;
      ticks : l.m.ticks ≡ l.initial.m.ticks;
      reaches : Reaches d l.files (wave_of d l.wave) l.initial.m (blocks (is_of l.wave) (map proc_of (drop l.process-index l.process-items))) l.m;
    }
