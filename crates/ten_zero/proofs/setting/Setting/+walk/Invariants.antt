use Rattle.std.proofs.Common.{◌≡◌, ◌≤◌, drop}
use Rattle.vl_design.specs.Exec.{exec}
use Rattle.vl_design.specs.Laws.{IsUnrolledStm}
use Rattle.vl_design.specs.Sound.{IsSoundStm}
use Rattle.vl_design.specs.Trees.{stm_of, then_of}
use Rattle.vl_design.specs.Width.{names_of}
use Rattle.vl_run.specs.Machines.{IsMachine}
use Rattle.ten_zero.specs.Early.{flat_in, scope_in, state_in}
use Rattle.ten_zero.specs.Nodes.{nodes}
use Rattle.ten_zero.proofs.setting.Setting.+walk.Given as goal

-- the rest of the list leads from here where the whole leads
abbrev pub invariant-loop-item : goal.invariant-loop-item
invariant-loop-item l =
    let names = names_of (flat_in l.self) in
    let rest = then_of l.path (drop l.item-index l.item-items) in
    record {
      machine : IsMachine names l.e.machine;
      sound : IsSoundStm names rest;
      unrolled : IsUnrolledStm rest;
      small : nodes rest ≤ nodes (stm_of l.path l.s);
      does : exec (scope_in l.self) rest (state_in l.e) ≡ exec (scope_in l.self) (stm_of l.path l.s) (state_in l.initial.e);
    }

abbrev pub decreases-walk : goal.decreases-walk
decreases-walk l = nodes (stm_of l.path.now l.s.now)
