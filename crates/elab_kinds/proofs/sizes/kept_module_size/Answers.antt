use Rattle.std.proofs.Common.{ap, ◌∙◌}
use Rattle.elab_plain.specs.SeenItems.{seen_module}
use Rattle.elab_kinds.specs.Sized.{kept, told, round_at}
use Rattle.elab_kinds.proofs.Keeping.{kept-twice, module-kept}
use Rattle.elab_kinds.proofs.sizes.kept_module_size.Goals as goal

pub returns : goal.returns
returns c = λ all sized deep.
    let m = seen_module c.args.m.now in
    let sizes = all c.args.depth in
    let known = told c.args.sizes.now.index c.round_at-round.result.now in
    let one = ap (told c.args.sizes.now.index) (c.round_at-round.ensures ∙ ap (λ z. round_at z c.args.depth) c.as_slice.ensures.value) ∙ sized c.args.depth deep in
    c.module_counts.ensures c.in_ok-own.ensures ∙ module-kept known sizes (λ t. ap kept (λ i. one i t) ∙ kept-twice (sizes t)) m
