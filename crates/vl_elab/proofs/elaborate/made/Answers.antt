use Rattle.std.proofs.Common.{◌≡◌, ap, sym, ◌∙◌, subst, arith}
use Rattle.elab_plain.specs.vl_flat.specs.Environments as e
use Rattle.elab_plain.specs.vl_flat.specs.Flat as f
use Rattle.elab_plain.specs.SeenItems.{seen_module}
use Rattle.elab_constant.specs.Seen.{look}
use Rattle.elab_kinds.specs.Facts.{facts}
use Rattle.vl_elab.specs.Libraries.{sizes_in}
use Rattle.vl_elab.proofs.elaborate.made.Goals as goal

pub returns : goal.returns
returns c = λ m there.
    let md = seen_module c.definition_at-top.result.now in
    let is = c.definition_at-top.ensures m there in
    let facts-are = c.roles_at-roles.ensures m there ∙ ap facts (sym is) in
    let sizes = sizes_in c.args.library.now in
    let names = c.in_ok-names.ensures.module sizes md.name.name c.requires.library.sizes (omega arith) facts-are in
    c.made_with.ensures m there (subst (λ z. look c.in_ok-names.names ≡ e.environment (sizes 128) (f.top_given z) z) is names)
