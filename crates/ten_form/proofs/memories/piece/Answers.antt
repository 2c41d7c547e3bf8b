use Rattle.std.proofs.Common.{◌≡◌, ◌++◌, ℕ, List, OnOk, subst, sym, ap, ◌∙◌}
use Rattle.cell_emit.specs.vl_sites.specs.Stored.{stored_words}
use Rattle.sub_split.specs.Views.{piece_view}
use Rattle.ten_form.proofs.Naming.{any-path}
use Rattle.ten_form.proofs.memories.piece.Goals as goal

pub returns-in-Loop : goal.returns-in-Loop
returns-in-Loop c =
    let f = c.in-Loop in
    let old = c.args.memories.now.items in
    subst (λ (z : List ℕ). OnOk c.statement-in-Loop.result (c.statement-in-Loop.new.memories.items ≡ z))
    (ap (λ w. old ++ w) (sym (any-path f.field-0.now f.a.now)) ∙ ap (λ y. old ++ stored_words (piece_view y)) (sym f.is))
    c.statement-in-Loop.ensures
