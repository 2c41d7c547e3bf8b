use Rattle.std.proofs.Common.{ap, ◌∙◌}
use Rattle.elab_kinds.specs.Facts.{facts, facts_of}
use Rattle.vl_elab.specs.Libraries.{modules_of}
use Rattle.vl_elab.proofs.Places.{at-place}
use Rattle.vl_elab.proofs.library.roles_at.Goals as goal

pub returns : goal.returns
returns c = λ m there.
    ap facts_of c.index.ensures
    ∙ at-place facts_of facts c.args.library.now.roles.items (modules_of c.args.library.now) c.args.number c.index.result.now m c.requires.known.roles there
