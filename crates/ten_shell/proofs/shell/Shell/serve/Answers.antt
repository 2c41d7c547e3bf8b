use Rattle.std.proofs.Common.{◌∙◌, ap, sym, not, ◌&&◌}
use Rattle.std.proofs.lemmas.Result.{err_from_is_err_and}
use Rattle.ten_core.specs.cell_form.specs.Views.{bank_of}
use Rattle.ten_shell.specs.Shells.{flat_in, is_at_boundary, is_left, left_in, run_of}
use Rattle.ten_shell.proofs.Tests.{and-left, and-right, clash, other}
use Rattle.ten_shell.proofs.shell.Shell.serve.Goals as goal

pub serve_call-requires : goal.serve_call-requires
serve_call-requires c =
    let w = c.requires.2 in
    (c.requires.0, c.requires.1, w, w.at.waits ∙ sym (c.at_trap.ensures (bank_of c.args.bank.now) (run_of c.args.self.now) w.order c.requires.0 c.requires.1 w.at) ∙ c.if-at_trap.true)

pub returns-then-at_trap-clause-save : goal.returns-then-at_trap-clause-save
returns-then-at_trap-clause-save c = λ h.
    let w = c.requires.2 in
    absurd (clash c.args.self.now.engine.waits (w.at.waits ∙ sym (c.at_trap.ensures (bank_of c.args.bank.now) (run_of c.args.self.now) w.order c.requires.0 c.requires.1 w.at) ∙ c.if-at_trap.true) h)

pub returns-then-at_trap-clause-made : goal.returns-then-at_trap-clause-made
returns-then-at_trap-clause-made c = λ h.
    let w = c.requires.2 in
    absurd (clash c.args.self.now.engine.waits (w.at.waits ∙ sym (c.at_trap.ensures (bank_of c.args.bank.now) (run_of c.args.self.now) w.order c.requires.0 c.requires.1 w.at) ∙ c.if-at_trap.true) h)

pub returns-then-at_trap-clause-bank : goal.returns-then-at_trap-clause-bank
returns-then-at_trap-clause-bank c = λ h.
    let w = c.requires.2 in
    absurd (clash c.args.self.now.engine.waits (w.at.waits ∙ sym (c.at_trap.ensures (bank_of c.args.bank.now) (run_of c.args.self.now) w.order c.requires.0 c.requires.1 w.at) ∙ c.if-at_trap.true) h)

pub returns-then-at_trap-clause-which : goal.returns-then-at_trap-clause-which
returns-then-at_trap-clause-which c =
    let w = c.requires.2 in
    sym (ap not (w.at.waits ∙ sym (c.at_trap.ensures (bank_of c.args.bank.now) (run_of c.args.self.now) w.order c.requires.0 c.requires.1 w.at) ∙ c.if-at_trap.true))

pub make_save-requires : goal.make_save-requires
make_save-requires c =
    let s = c.args.self.now in
    let i = c.requires.1 in
    let w = c.requires.2 in
    let idle = w.at.waits ∙ sym (c.at_trap.ensures (bank_of c.args.bank.now) (run_of s) w.order c.requires.0 i w.at) ∙ c.if-at_trap.false in
    let both = other s.engine.waits (is_at_boundary (flat_in s) i && is_left (left_in s)) c.requires.3 idle in
    (c.requires.0, i, w, and-left (is_at_boundary (flat_in s) i) (is_left (left_in s)) both, and-right (is_at_boundary (flat_in s) i) (is_left (left_in s)) both)

pub returns-clause-call : goal.returns-clause-call
returns-clause-call c = λ h.
    let w = c.requires.2 in
    absurd (clash c.args.self.now.engine.waits h (w.at.waits ∙ sym (c.at_trap.ensures (bank_of c.args.bank.now) (run_of c.args.self.now) w.order c.requires.0 c.requires.1 w.at) ∙ c.if-at_trap.false))

pub returns-clause-which : goal.returns-clause-which
returns-clause-which c =
    let w = c.requires.2 in
    sym (ap not (w.at.waits ∙ sym (c.at_trap.ensures (bank_of c.args.bank.now) (run_of c.args.self.now) w.order c.requires.0 c.requires.1 w.at) ∙ c.if-at_trap.false))

pub returns-clause-left : goal.returns-clause-left
returns-clause-left c = λ h.
    let w = c.requires.2 in
    absurd (clash c.args.self.now.engine.waits h (w.at.waits ∙ sym (c.at_trap.ensures (bank_of c.args.bank.now) (run_of c.args.self.now) w.order c.requires.0 c.requires.1 w.at) ∙ c.if-at_trap.false))

pub returns-in_err-make_save-clause-memory : goal.returns-in_err-make_save-clause-memory
returns-in_err-make_save-clause-memory c = rw (err_from_is_err_and c.from_residual-in_err-make_save.result c.from_residual-in_err-make_save.ensures.1).1 (λ h.
    let w = c.requires.2 in
    absurd (clash c.args.self.now.engine.waits h (w.at.waits ∙ sym (c.at_trap.ensures (bank_of c.args.bank.now) (run_of c.args.self.now) w.order c.requires.0 c.requires.1 w.at) ∙ c.if-at_trap.false)))
