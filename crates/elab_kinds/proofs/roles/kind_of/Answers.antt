use Rattle.std.proofs.Common.{ap, ◌∙◌, ℕ, List}
use Rattle.elab_kinds.specs.Facts.{Facts, kind_by}
use Rattle.elab_kinds.proofs.roles.kind_of.Goals as goal

pub returns-clause-module : goal.returns-clause-module
returns-clause-module c = λ m e. c.kind_known.ensures ∙ ap (λ (f : List ℕ → Facts). kind_by (f c.args.name.now) c.args.clock c.args.wired) e
