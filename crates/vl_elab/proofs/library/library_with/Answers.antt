use Rattle.std.proofs.Common.{sym, ◌∙◌}
use Rattle.elab_plain.specs.SeenItems.{seen_module}
use Rattle.elab_kinds.specs.Facts.{facts}
use Rattle.vl_elab.proofs.Steps.{map-twice}
use Rattle.vl_elab.proofs.library.library_with.Goals as goal

pub returns-clause-known : goal.returns-clause-known
returns-clause-known c = record {
  roles = c.in_ok-roles.ensures ∙ sym (map-twice facts seen_module c.args.modules.now);
  index = c.in_ok-index.ensures;
  sizes = c.requires;
}
