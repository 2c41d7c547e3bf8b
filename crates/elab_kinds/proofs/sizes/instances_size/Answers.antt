use Rattle.std.proofs.Common.{ap, sym, ◌∙◌, length}
use Rattle.std.proofs.lemmas.List.{length-map}
use Rattle.elab_plain.specs.vl_flat.specs.Environments as e
use Rattle.elab_plain.specs.SeenItems.{seen_unit}
use Rattle.elab_kinds.specs.Sized.{kept, told, round_at}
use Rattle.elab_kinds.proofs.Keeping.{kept-times, kept-twice}
use Rattle.elab_kinds.proofs.sizes.instances_size.Goals as goal

pub returns-clause-table : goal.returns-clause-table
returns-clause-table c =
    let units = c.args.instances.now.units.items in
    let t = c.args.instances.now.definition in
    let index = c.args.sizes.now.index in
    c.in_ok-exactly.ensures (e.times (length units) (told index c.round_at-round.result.now t)) c.instances_counts.ensures
    ∙ ap (λ z. e.times (length units) (told index z t)) (c.round_at-round.ensures ∙ ap (λ z. round_at z c.args.depth) c.as_slice.ensures.value)
    ∙ ap (λ k. e.times k (told index (round_at c.args.sizes.now.rounds.items c.args.depth) t)) (sym (length-map units seen_unit))

pub returns-clause-modules : goal.returns-clause-modules
returns-clause-modules c = λ sizes sized deep.
    let units = c.args.instances.now.units.items in
    let n = length units in
    let t = c.args.instances.now.definition in
    let size = sizes c.args.depth t in
    let known = told c.args.sizes.now.index c.round_at-round.result.now t in
    let one = ap (λ z. told c.args.sizes.now.index z t) (c.round_at-round.ensures ∙ ap (λ z. round_at z c.args.depth) c.as_slice.ensures.value) ∙ (λ i. sized c.args.depth deep i t) in
    c.in_ok-exactly.ensures (e.times n size) (c.instances_counts.ensures ∙ kept-times n known size (ap kept one ∙ kept-twice size))
    ∙ ap (λ k. e.times k size) (sym (length-map units seen_unit))
