use Rattle.std.specs.Prelude.{slice_get}
use Rattle.ten_core.specs.sub_nodes.specs.Code.{table_of}
use Rattle.ten_core.specs.sub_nodes.specs.Cycles.{rises}
use Rattle.ten_shell.specs.Shells.{flat_in, run_of}
use Rattle.ten_shell.proofs.Tests.{bound-then, bound-else}
use Rattle.ten_shell.proofs.shell.Shell.at_boundary.Goals as goal

pub returns-then-not-done : goal.returns-then-not-done
returns-then-not-done c = λ b n i w.
    let s = c.args.self.now in
    bound-then i.state.finished (rises (slice_get (table_of (flat_in s)).nodes i.node)) c.at_boundary.result c.done.result (c.done.ensures b n i w) (c.at_boundary.ensures b (run_of s) w.order n i w.at) c.if-not-done.true

pub returns-else-not-done : goal.returns-else-not-done
returns-else-not-done c = λ b n i w.
    bound-else i.state.finished (rises (slice_get (table_of (flat_in c.args.self.now)).nodes i.node)) c.done.result (c.done.ensures b n i w) c.if-not-done.false
