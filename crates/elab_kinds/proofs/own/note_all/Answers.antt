use Rattle.std.proofs.Common.{refl, sym, ap, ◌∙◌, ◌+◌, ◌++◌, ◌∷◌, map, drop}
use Rattle.std.proofs.lemmas.List.{at_drop_more, drop_all}
use Rattle.indexmap.specs.IndexSet.{index_set_len}
use Rattle.elab_plain.specs.SeenItems.{seen_declared}
use Rattle.elab_kinds.specs.Names.{has}
use Rattle.elab_kinds.specs.Sized.{count_new}
use Rattle.elab_kinds.proofs.own.note_all.Goals as goal

pub loop-d-init : goal.loop-d-init
loop-d-init c = λ type others. refl

pub loop-d-preserved : goal.loop-d-preserved
loop-d-preserved c = λ type others.
    let rest = map (seen_declared type) (drop (c.loop-d.d-index + 1) c.args.ds.now) ++ others in
    c.in_ok-note.ensures type rest
    ∙ (ap (λ z. index_set_len c.loop-d.known + count_new (has c.loop-d.known) (seen_declared type z ∷ rest)) c.d-item.is
    ∙ (sym (at_drop_more (λ z. index_set_len c.loop-d.known + count_new (has c.loop-d.known) (map (seen_declared type) z ++ others)) c.args.ds.now c.loop-d.d-index c.d-item.result c.loop-d-test.true)
    ∙ c.loop-d.invariant type others))

pub returns : goal.returns
returns c = λ type others.
    sym (ap (λ z. index_set_len c.loop-d.known + count_new (has c.loop-d.known) (map (seen_declared type) z ++ others)) (drop_all c.loop-d.d-index c.args.ds.now c.loop-d-test.false))
    ∙ c.loop-d.invariant type others
