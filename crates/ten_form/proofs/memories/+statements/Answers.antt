use Rattle.std.proofs.Common.{◌≡◌, ℕ, List, OnOk, subst}
use Rattle.ten_form.proofs.Naming.{case-adds}
use Rattle.ten_form.proofs.memories.+statements.Goals as goal

pub statement-returns-in_ok-labelled-in-Case : goal.statement-returns-in_ok-labelled-in-Case
statement-returns-in_ok-labelled-in-Case t c =
    let f = c.in-Case in
    subst (λ (z : List ℕ). OnOk c.otherwise.result (c.otherwise.new.memories.items ≡ z))
    (case-adds c.args.a.now f.field-0 f.items f.field-2 c.as_slice-in-Case.result.now c.as_slice-in-Case-2.result.now c.args.memories.now.items c.labelled.new.memories.items f.is c.as_slice-in-Case.ensures.value
    c.as_slice-in-Case-2.ensures.value c.in_ok-labelled-in-Case.ensures)
    c.otherwise.ensures
