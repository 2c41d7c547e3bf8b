use Rattle.std.proofs.Common.{◌≡◌, [], drop, ◌∙◌, ap, sym, subst}
use Rattle.vl_design.specs.Alone.{save_names}
use Rattle.ten_plan.specs.Plans.{move_at, plan_of, AreDone}
use Rattle.ten_shell.specs.Shells.{run_of}
use Rattle.ten_shell.proofs.Tests.{is-moved, moves-to, moves-nowhere}
use Rattle.ten_shell.proofs.Standing.{done-there, none-there, rest-there}
use Rattle.ten_shell.proofs.shell.Shell.move_due.Goals as goal

pub moves-requires-clause-done : goal.moves-requires-clause-done
moves-requires-clause-done c =
    let s = c.args.self.now in
    let b = c.requires.0 in
    let n = c.requires.1 in
    let i = c.requires.2 in
    let w = c.requires.3 in
    subst (λ x. AreDone (plan_of x.plan).errands s.engine.ticks s.done) (sym c.deref.ensures) (done-there s b n i w (rest-there s b n i w c.requires.4 c.requires.5))

pub moves-requires-clause-saved : goal.moves-requires-clause-saved
moves-requires-clause-saved c =
    let s = c.args.self.now in
    subst (λ x. save_names s.engine.ticks (drop s.done (plan_of x.plan).errands) ≡ []) (sym c.deref.ensures)
    (none-there s c.requires.0 c.requires.1 c.requires.2 c.requires.3 (c.requires.4.saved c.requires.5))

pub returns-then-self : goal.returns-then-self
returns-then-self c = λ b n i w r f.
    let s = c.args.self.now in
    is-moved (move_at i.state.ticks (run_of s).plan.errands) s.moved c.if-self.true

pub returns-in-Some : goal.returns-in-Some
returns-in-Some c = λ b n i w r f.
    let s = c.args.self.now in
    let to = sym (ap (λ k. move_at k (run_of s).plan.errands) w.at.ticks) ∙ sym (ap (λ x. move_at s.engine.ticks (plan_of x.plan).errands) c.deref.ensures) ∙ sym c.moves.ensures ∙ c.in-Some.is in
    moves-to (move_at i.state.ticks (run_of s).plan.errands) c.in-Some.fabric s.moved c.if-self.false to

pub returns-in-None : goal.returns-in-None
returns-in-None c = λ b n i w r f.
    let s = c.args.self.now in
    let to = sym (ap (λ k. move_at k (run_of s).plan.errands) w.at.ticks) ∙ sym (ap (λ x. move_at s.engine.ticks (plan_of x.plan).errands) c.deref.ensures) ∙ sym c.moves.ensures ∙ c.in-None.is in
    moves-nowhere (move_at i.state.ticks (run_of s).plan.errands) s.moved to
