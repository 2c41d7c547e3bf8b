use Rattle.std.proofs.Common.{◌∙◌, ap, not, sym}
use Rattle.std.specs.Prelude.{slice_get}
use Rattle.ten_core.specs.sub_nodes.specs.Code.{table_of}
use Rattle.ten_core.specs.sub_nodes.specs.Cycles.{rises}
use Rattle.ten_shell.specs.Shells.{flat_in, is_left, left_in}
use Rattle.ten_shell.proofs.Tests.{and-right, rests-over, rests-up, rests-low, right-false}
use Rattle.ten_shell.proofs.shell.Shell.rests.Goals as goal

pub returns-then-done : goal.returns-then-done
returns-then-done c = λ b n i w.
    let s = c.args.self.now in
    rests-over i.state.finished (rises (slice_get (table_of (flat_in s)).nodes i.node)) (is_left (left_in s)) c.done.result (c.done.ensures b n i w) c.if-done.true

pub returns-then-at_boundary : goal.returns-then-at_boundary
returns-then-at_boundary c = λ b n i w.
    let s = c.args.self.now in
    let up = rises (slice_get (table_of (flat_in s)).nodes i.node) in
    rests-up i.state.finished up (is_left (left_in s)) c.save_due.result (sym (c.done.ensures b n i w) ∙ c.if-done.false)
    (and-right (not i.state.finished) up (sym (c.at_boundary.ensures b n i w) ∙ c.if-at_boundary.true)) (c.save_due.ensures b n i w)

pub returns-else-at_boundary : goal.returns-else-at_boundary
returns-else-at_boundary c = λ b n i w.
    let s = c.args.self.now in
    let up = rises (slice_get (table_of (flat_in s)).nodes i.node) in
    let goes_on = sym (c.done.ensures b n i w) ∙ c.if-done.false in
    c.if-at_boundary.false
    ∙ rests-low i.state.finished up (is_left (left_in s)) goes_on (right-false (not i.state.finished) up (sym (c.at_boundary.ensures b n i w) ∙ c.if-at_boundary.false) (ap not goes_on))
