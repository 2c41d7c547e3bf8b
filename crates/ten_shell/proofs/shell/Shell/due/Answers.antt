use Rattle.std.proofs.Common.{◌∙◌, ap, sym, cond, None}
use Rattle.std.specs.Prelude.{nat_le}
use Rattle.vl_design.specs.Alone.{stop_at}
use Rattle.ten_plan.specs.Plans.{move_at}
use Rattle.ten_shell.specs.Leaving.{why_in, why_of}
use Rattle.ten_shell.specs.Shells.{run_of}
use Rattle.ten_shell.proofs.Tests.{unfinished}
use Rattle.ten_shell.proofs.Standing.{end-is, rests-here}
use Rattle.ten_shell.proofs.shell.Shell.due.Goals as goal

pub returns-then-not-rests : goal.returns-then-not-rests
returns-then-not-rests c = λ b n i w.
    let s = c.args.self.now in
    sym (ap (λ r. cond r (why_in (run_of s).plan s.stopped s.moved i.state) None) (sym (c.rests.ensures b n i w) ∙ c.if-not-rests.true))

pub end-requires : goal.end-requires
end-requires c =
    let s = c.args.self.now in
    let b = c.requires.0 in
    let n = c.requires.1 in
    let i = c.requires.2 in
    let w = c.requires.3 in
    (b, n, i, w, rests-here s b n i w (sym (c.rests.ensures b n i w) ∙ c.if-not-rests.false))

pub returns-in-Some : goal.returns-in-Some
returns-in-Some c = λ b n i w.
    let s = c.args.self.now in
    let rests = sym (c.rests.ensures b n i w) ∙ c.if-not-rests.false in
    let r = rests-here s b n i w rests in
    let is = end-is s b n i w c.a_run_at_rest_is_at_a_boundary.ensures.boundary c.end.result r (λ q at. c.end.ensures b n i q w r at) in
    sym (ap (λ x. cond x (why_in (run_of s).plan s.stopped s.moved i.state) None) rests
    ∙ ap (λ e. why_of e (move_at i.state.ticks (run_of s).plan.errands) s.moved) (sym is ∙ c.in-Some.is))

pub move_due-requires : goal.move_due-requires
move_due-requires c =
    let s = c.args.self.now in
    let b = c.requires.0 in
    let n = c.requires.1 in
    let i = c.requires.2 in
    let w = c.requires.3 in
    let r = rests-here s b n i w (sym (c.rests.ensures b n i w) ∙ c.if-not-rests.false) in
    let is = end-is s b n i w c.a_run_at_rest_is_at_a_boundary.ensures.boundary c.end.result r (λ q at. c.end.ensures b n i q w r at) in
    (b, n, i, w, r, unfinished s.stopped i.state.finished (nat_le (run_of s).plan.budget i.state.ticks) (stop_at i.state.ticks (run_of s).plan.errands) (sym is ∙ c.in-None.is))

pub returns-in-None : goal.returns-in-None
returns-in-None c = λ b n i w.
    let s = c.args.self.now in
    let rests = sym (c.rests.ensures b n i w) ∙ c.if-not-rests.false in
    let r = rests-here s b n i w rests in
    let is = end-is s b n i w c.a_run_at_rest_is_at_a_boundary.ensures.boundary c.end.result r (λ q at. c.end.ensures b n i q w r at) in
    let none = sym is ∙ c.in-None.is in
    let alive = unfinished s.stopped i.state.finished (nat_le (run_of s).plan.budget i.state.ticks) (stop_at i.state.ticks (run_of s).plan.errands) none in
    c.move_due.ensures b n i w r alive
    ∙ sym (ap (λ x. cond x (why_in (run_of s).plan s.stopped s.moved i.state) None) rests ∙ ap (λ e. why_of e (move_at i.state.ticks (run_of s).plan.errands) s.moved) none)
