use Rattle.elab_plain.specs.vl_flat.specs.Kinds.{declares}
use Rattle.elab_plain.specs.SeenItems.{seen_function}
use Rattle.elab_kinds.proofs.Parts.{filled}
use Rattle.elab_kinds.proofs.items.own_names.Goals as goal

pub returns : goal.returns
returns c =
    filled c.add_own_names.result c.and.result c.new-own.result c.add_own_names.new.names (λ t. declares t (seen_function c.args.f.now)) c.and.ensures c.new-own.ensures.empty c.add_own_names.ensures
