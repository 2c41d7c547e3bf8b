use Rattle.std.proofs.Common.{◌≡◌, take, drop, map}
use Rattle.std.specs.Prelude.{None, []}
use Rattle.vl_design.specs.Stops.{earliest}
use Rattle.vl_check.specs.Saves.{with_firsts, save_faults}
use Rattle.vl_check.specs.SeenOfSaves.{save_of, Tells}
use Rattle.vl_check.proofs.saves.calls_fault.Given as goal

abbrev pub invariant-loop-call : goal.invariant-loop-call
invariant-loop-call l = record {
  tells : Tells (map save_of l.ones.items) (with_firsts [] (map save_of (take l.call-index l.calls)));
  rest : earliest l.best (save_faults (map save_of (take l.call-index l.calls)) (map save_of (drop l.call-index l.calls))) ≡ earliest None (save_faults [] (map save_of l.calls));
}
