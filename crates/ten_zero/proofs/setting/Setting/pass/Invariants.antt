use Rattle.std.proofs.Common.{drop}
use Rattle.vl_design.specs.Width.{names_of}
use Rattle.vl_run.specs.Machines.{IsMachine}
use Rattle.plain_run.proofs.Passing.{Passed}
use Rattle.ten_zero.specs.Early.{flat_in}
use Rattle.ten_zero.proofs.setting.Setting.pass.Given as goal

-- the pass has come so far that the rest of the list is left
abbrev pub invariant-loop-number : goal.invariant-loop-number
invariant-loop-number l = record {
  machine : IsMachine (names_of (flat_in l.self)) l.m;
  passed : Passed (flat_in l.self) l.self.files.now l.order (drop l.number-index l.order) l.initial.m l.m;
}
