use Rattle.std.proofs.Common.{◌∙◌, sym}
use Rattle.std.specs.Prelude.{slice_get}
use Rattle.ten_core.specs.sub_nodes.specs.Code.{table_of}
use Rattle.ten_core.specs.sub_nodes.specs.Cycles.{rises}
use Rattle.ten_core.specs.sub_nodes.specs.Stands.{at_trap}
use Rattle.ten_shell.specs.Shells.{flat_in, run_of}
use Rattle.ten_shell.proofs.Tests.{trap-beat, end-beat, ran-beat}
use Rattle.ten_shell.proofs.shell.Shell.beat.Goals as goal

pub returns-then-at_trap : goal.returns-then-at_trap
returns-then-at_trap c = λ b n i w.
    let s = c.args.self.now in
    trap-beat (at_trap (table_of (flat_in s)) i) (rises (slice_get (table_of (flat_in s)).nodes i.node)) (sym (c.at_trap.ensures b (run_of s) w.order n i w.at) ∙ c.if-at_trap.true)

pub returns-then-at_boundary : goal.returns-then-at_boundary
returns-then-at_boundary c = λ b n i w.
    let s = c.args.self.now in
    end-beat (at_trap (table_of (flat_in s)) i) (rises (slice_get (table_of (flat_in s)).nodes i.node)) (sym (c.at_trap.ensures b (run_of s) w.order n i w.at) ∙ c.if-at_trap.false)
    (sym (c.at_boundary.ensures b (run_of s) w.order n i w.at) ∙ c.if-at_boundary.true)

pub returns-else-at_boundary : goal.returns-else-at_boundary
returns-else-at_boundary c = λ b n i w.
    let s = c.args.self.now in
    ran-beat (at_trap (table_of (flat_in s)) i) (rises (slice_get (table_of (flat_in s)).nodes i.node)) (sym (c.at_trap.ensures b (run_of s) w.order n i w.at) ∙ c.if-at_trap.false)
    (sym (c.at_boundary.ensures b (run_of s) w.order n i w.at) ∙ c.if-at_boundary.false)
