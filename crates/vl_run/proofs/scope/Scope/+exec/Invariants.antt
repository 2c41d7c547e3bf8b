use Rattle.std.proofs.Common.{◌≡◌, ◌≤◌, ◌+◌, ℕ, drop}
use Rattle.vl_design.specs.Exec.{exec, times}
use Rattle.vl_design.specs.Sound.{IsSoundStm}
use Rattle.vl_design.specs.Trees.{stm_of, then_of}
use Rattle.vl_eval.specs.Rooms.{names_of}
use Rattle.vl_run.specs.declared.machine.Machine.{Machine}
use Rattle.vl_run.specs.Lists.{loop_turns}
use Rattle.vl_run.specs.Machines.{IsMachine, Leads, Does}
use Rattle.vl_run.specs.Scopes.{scope_of}
use Rattle.vl_run.proofs.scope.Scope.+exec.Given as goal

-- where the rest of the list leads from here, the whole leads
abbrev pub invariant-exec-loop-item : goal.invariant-exec-loop-item
invariant-exec-loop-item g l =
    let scope = scope_of l.self in
    let rest = then_of l.path (drop l.item-index l.item-items) in
    record {
      machine : IsMachine (names_of l.self.room) l.m;
      sound : IsSoundStm (names_of l.self.room) rest;
      leads : (n : Machine) → Does scope rest l.m n → Does scope (stm_of l.path l.s) l.initial.m n;
    }

-- where the turns that are left lead from here, all of them lead
abbrev pub invariant-turns-loop-turn : goal.invariant-turns-loop-turn
invariant-turns-loop-turn g l =
    let scope = scope_of l.self in
    let all = stm_of l.path l.s in
    record {
      machine : IsMachine (names_of l.self.room) l.m;
      most : l.turn ≤ l.most;
      leads : (left : ℕ) (n : Machine) → l.turn + left ≡ l.most → Leads (loop_turns scope left all) l.m n → Leads (loop_turns scope l.most all) l.initial.m n;
    }

-- where the times that are left lead from here, all of them lead
abbrev pub invariant-run_repeat-loop-time : goal.invariant-run_repeat-loop-time
invariant-run_repeat-loop-time g l =
    let step = exec (scope_of l.self) (stm_of l.path l.body) in
    record {
      machine : IsMachine (names_of l.self.room) l.m;
      most : l.time ≤ l.count;
      leads : (left : ℕ) (n : Machine) → l.time + left ≡ l.count → Leads (times left step) l.m n → Leads (times l.count step) l.initial.m n;
    }
