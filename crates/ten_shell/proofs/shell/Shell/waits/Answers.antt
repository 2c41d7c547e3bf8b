use Rattle.std.proofs.Common.{◌∙◌, sym, ◌&&◌}
use Rattle.ten_shell.specs.Shells.{flat_in, is_at_boundary, is_left, left_in, run_of}
use Rattle.ten_shell.proofs.Tests.{or-then, or-else}
use Rattle.ten_shell.proofs.shell.Shell.waits.Goals as goal

pub returns-then-at_trap : goal.returns-then-at_trap
returns-then-at_trap c = λ b n i w.
    let s = c.args.self.now in
    or-then c.at_trap.result s.engine.waits (is_at_boundary (flat_in s) i && is_left (left_in s)) (c.at_trap.ensures b (run_of s) w.order n i w.at ∙ sym w.at.waits) c.if-at_trap.true

pub returns-else-at_trap : goal.returns-else-at_trap
returns-else-at_trap c = λ b n i w.
    let s = c.args.self.now in
    or-else c.save_due.result s.engine.waits (is_at_boundary (flat_in s) i && is_left (left_in s)) (w.at.waits ∙ sym (c.at_trap.ensures b (run_of s) w.order n i w.at) ∙ c.if-at_trap.false)
    (c.save_due.ensures b n i w)
