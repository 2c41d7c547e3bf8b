use Rattle.std.proofs.Common.{length, refl, sym, ap, ◌∙◌, subst}
use Rattle.std.proofs.lemmas.Bool.{not-true, true≢false}
use Rattle.cell_level.specs.Nets as spec
use Rattle.cell_level.proofs.levels.levels.Goals as goal

pub walk_all-requires-clause-within : goal.walk_all-requires-clause-within
walk_all-requires-clause-within c =
    subst (λ n. spec.AreNets n c.args.nets.now) (sym (ap length c.as_slice.ensures.value ∙ c.in_ok-drivers.ensures.long)) c.requires

pub returns-then-not-walk-clause-exact : goal.returns-then-not-walk-clause-exact
returns-then-not-walk-clause-exact c =
    (λ _. c.in_ok-walk.ensures.acyclic (not-true c.in_ok-walk.walk.cyclic c.if-not-walk.true), λ _. refl)

pub lowest_cycle-requires-clause-within : goal.lowest_cycle-requires-clause-within
lowest_cycle-requires-clause-within c =
    subst (λ n. spec.AreNets n c.args.nets.now) (sym (ap length c.as_slice-2.ensures.value ∙ c.in_ok-readers.ensures.long)) c.requires

pub returns-clause-exact : goal.returns-clause-exact
returns-clause-exact c =
    let r = c.in_ok-cycle.ensures in
    (λ k. absurd (true≢false (sym k)), λ h. absurd (h r.first (r.is_cycle.others, r.is_cycle.closes)))
