use Rattle.std.proofs.Common.{sym, subst, Option, ℕ}
use Rattle.cell_form.specs.Views.{list_of}
use Rattle.cell_emit.specs.Slots.{Gives, Nothing}
use Rattle.cell_emit.specs.Envs.{IsEntry, held_or}
use Rattle.cell_emit.proofs.Placing.{gives-kept}
use Rattle.cell_emit.proofs.assign.begun_both.Goals as goal

pub returns-in_ok-second-in-Some-clause-one : goal.returns-in_ok-second-in-Some-clause-one
returns-in_ok-second-in-Some-clause-one c =
    let l0 = list_of c.args.cells.now in
    let l1 = list_of c.begun.new.cells in
    let slot = subst (IsEntry l0 c.args.wide) c.in-Some.is c.requires.one in
    subst (λ (o : Option ℕ). Gives Nothing 1 l0 l1 c.in-Some.first c.args.wide (λ b. held_or b l0 o)) (sym c.in-Some.is)
    (gives-kept 1 c.args.wide c.in-Some.first l0 l1 slot c.in_ok-second-in-Some.ensures.gives.longer)

pub returns-in-Some-other-clause-other : goal.returns-in-Some-other-clause-other
returns-in-Some-other-clause-other c =
    let l0 = list_of c.args.cells.now in
    let l1 = list_of c.constant.new.cells in
    let slot = subst (IsEntry l0 c.args.wide) c.in-Some-other.is c.requires.other in
    subst (λ (o : Option ℕ). Gives Nothing 1 l0 l1 c.in-Some-other.second c.args.wide (λ b. held_or b l0 o)) (sym c.in-Some-other.is)
    (gives-kept 1 c.args.wide c.in-Some-other.second l0 l1 slot c.in_ok-zero-in-None.ensures.gives.longer)
