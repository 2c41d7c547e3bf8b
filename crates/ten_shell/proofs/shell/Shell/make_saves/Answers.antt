use Rattle.std.proofs.Common.{◌∙◌, sym}
use Rattle.ten_core.specs.cell_form.specs.Views.{bank_of}
use Rattle.ten_shell.specs.Shells.{flat_in, is_at_boundary, is_left, left_in}
use Rattle.ten_shell.proofs.Tests.{and-left, and-right, none-left, right-false}
use Rattle.ten_shell.proofs.shell.Shell.make_saves.Goals as goal

pub make_save-requires : goal.make_save-requires
make_save-requires c =
    let s = c.saves.self in
    let n = c.requires.0 in
    let i = c.requires.1 in
    let w = c.saves.invariant.stands n i c.requires.2 in
    let both = sym (c.save_due.ensures (bank_of c.args.bank.now) n i w) ∙ c.saves-test.true in
    (n, i, w, and-left (is_at_boundary (flat_in s) i) (is_left (left_in s)) both, and-right (is_at_boundary (flat_in s) i) (is_left (left_in s)) both)

pub returns-clause-none : goal.returns-clause-none
returns-clause-none c = λ n i w e.
    let s = c.saves.self in
    none-left (left_in s) (right-false (is_at_boundary (flat_in s) i) (is_left (left_in s)) (sym (c.save_due.ensures (bank_of c.args.bank.now) n i w) ∙ c.saves-test.false) e)
