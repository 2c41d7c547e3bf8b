use Rattle.std.proofs.Common.{◌∙◌, ap, sym, Bor, List, ◌&&◌}
use Rattle.std.specs.Prelude.{ℕ}
use Rattle.ten_shell.specs.Shells.{is_left, left_in}
use Rattle.ten_shell.proofs.Tests.{left-by}
use Rattle.ten_shell.proofs.shell.Shell.save_due.Goals as goal

pub next_save-requires : goal.next_save-requires
next_save-requires c =
    (c.requires.0, c.requires.1, c.requires.2, c.requires.3, sym (c.at_boundary.ensures c.requires.0 c.requires.1 c.requires.2 c.requires.3) ∙ c.if-at_boundary.true)

pub returns-then-at_boundary : goal.returns-then-at_boundary
returns-then-at_boundary c = λ b n i w.
    let s = c.args.self.now in
    c.is_some.ensures ∙ left-by (λ (x : Bor (List ℕ)). x.now) (left_in s) c.next_save.result c.next_save.ensures.none c.next_save.ensures.some
    ∙ sym (ap (λ x. x && is_left (left_in s)) (sym (c.at_boundary.ensures b n i w) ∙ c.if-at_boundary.true))

pub returns-else-at_boundary : goal.returns-else-at_boundary
returns-else-at_boundary c = λ b n i w.
    c.if-at_boundary.false ∙ sym (ap (λ x. x && is_left (left_in c.args.self.now)) (sym (c.at_boundary.ensures b n i w) ∙ c.if-at_boundary.false))
