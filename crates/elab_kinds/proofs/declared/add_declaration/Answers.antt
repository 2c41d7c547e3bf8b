use Rattle.std.proofs.Common.{ap, ◌∙◌}
use Rattle.elab_plain.specs.SeenItems.{seen_declared}
use Rattle.elab_kinds.specs.Said.{either}
use Rattle.elab_kinds.proofs.Saying.{one-more, says-seen}
use Rattle.elab_kinds.proofs.declared.add_declaration.Goals as goal

pub returns : goal.returns
returns c = λ type.
    one-more c.args.declared.now c.insert.new.self c.as_slice-name.result.now c.either.result c.declaration_of.result (seen_declared type c.args.d.now) c.as_slice-name.ensures
    (c.either.ensures ∙ ap (λ z. either z c.declaration_of.result) c.declaration_at-before.ensures) (c.declaration_of.ensures ∙ says-seen type c.args.d.now) c.in_ok-insert.ensures.updates
