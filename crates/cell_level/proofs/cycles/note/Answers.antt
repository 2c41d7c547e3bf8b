use Rattle.std.proofs.Common.{◌≡◌, true, sym, ap, ◌∙◌, subst}
use Rattle.std.specs.Prelude.{◌==◌, ◌⊎◌, not}
use Rattle.std.proofs.lemmas.Bool.{or_cases, or_left, eqb-true}
use mathlib.Core.Logic.{inl, inr}
use Rattle.cell_level.specs.Cycles.{IsOnCycle}
use Rattle.cell_level.specs.Nets as spec
use Rattle.cell_level.specs.Walks.{on}
use Rattle.cell_level.proofs.Marking.{marked_same}
use Rattle.cell_level.proofs.Ways.{outside_is_off}
use Rattle.cell_level.proofs.Edges.{is_none, no_way}
use Rattle.cell_level.proofs.cycles.note.Goals as goal

pub returns-then-is_none-clause-off : goal.returns-then-is_none-clause-off
returns-then-is_none-clause-off c x h =
    let E = spec.Edge c.args.nets.now in
    let seen = c.args.seen.now.items in
    let net = c.args.net in
    let none = is_none c.unmarked_reader.result (c.is_none.ensures ∙ ap not c.if-is_none.true) in
    let here : IsOnCycle E net → ⊥ = outside_is_off E (on seen) c.requires.closed net (c.unmarked_reader.ensures.none none) (sym c.is_on.ensures ∙ c.if-is_on.false) in
    let go : (on c.args.off.now.items x ≡ true) ⊎ ((x == net) ≡ true) → IsOnCycle E x → ⊥ =
    λ (o : (on c.args.off.now.items x ≡ true) ⊎ ((x == net) ≡ true)). elim o [ inl k ↦ c.requires.off x k | inr k ↦ subst (λ z. IsOnCycle E z → ⊥) (sym (eqb-true x net k)) here ] in
    go (or_cases (on c.args.off.now.items x) (x == net) (sym (c.mark.ensures.marked x) ∙ h))

pub returns-clause-closed : goal.returns-clause-closed
returns-clause-closed c x y e h =
    let net = c.args.net in
    let seen = c.args.seen.now.items in
    let way = no_way c.in_ok-_way._way (on c.mark-2.new.flags.items net) c.in_ok-_way.ensures.unseen (marked_same seen c.mark-2.new.flags.items net c.mark-2.ensures.marked) in
    c.in_ok-_way.ensures.closed way x y e (or_left (on c.search.new.seen.items x) (x == net) h)
