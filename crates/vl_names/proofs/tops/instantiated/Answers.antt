use Rattle.std.proofs.Common.{nat_eq, ap, ◌∙◌}
use Rattle.std.specs.List.{list_any}
use Rattle.std.proofs.lemmas.List.{take_all}
use Rattle.vl_names.proofs.Unmarked.{unmarked-tops}
use Rattle.vl_names.proofs.tops.instantiated.Goals as goal

pub returns-clause-tops : goal.returns-clause-tops
returns-clause-tops c =
    let h = c.loop-steps in
    let graph = c.args.graph.now in
    unmarked-tops graph h.marks.items c.requires h.invariant.same_length
    (λ k below. h.invariant.marks k below ∙ ap (list_any (list_any (nat_eq k))) (take_all h.steps-index graph c.loop-steps-test.false))
