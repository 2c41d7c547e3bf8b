use Rattle.std.proofs.Common.{sym, ap, ◌∙◌, subst, Option, ℕ, rules, inl, inr}
use Rattle.std.proofs.Common.{◌≡◌, ℤ, to_z, of_z, arith}
use Rattle.std.specs.Prelude.{pos, neg_ℤ, ◌-ℤ◌}
use Rattle.std.specs.Int.{w64}
use Rattle.std.proofs.lemmas.Int.{to_z-of_z, ints}
use Rattle.cell_form.specs.Views.{list_of}
use Rattle.cell_emit.specs.Slots.{Gives, Nothing, held, width_at}
use Rattle.cell_emit.proofs.Newest.{ok-gives}
use Rattle.cell_emit.specs.Envs.{IsEntry, held_or}
use Rattle.cell_emit.specs.Paths.{on_path}
use Rattle.cell_emit.proofs.Placing.{gives-placed, gives-picked, gives-outside}
use Rattle.cell_emit.proofs.assign.placed_by.Goals as goal

pub returns-then-low-ltminus127-clause-gives : goal.returns-then-low-ltminus127-clause-gives
returns-then-low-ltminus127-clause-gives c =
    ok-gives c.begun.result _ _
    (λ r g. gives-outside c.args.wide c.args.far c.args.part c.args.entry c.args.low r (list_of c.args.cells.now) (list_of c.begun.new.cells) c.requires.narrow c.requires.there c.requires.part c.requires.part_narrow (inl (let h = c.if-low-ltminus127.true in let z = to_z-of_z w64 c.args.low (search rules) in omega (arith, ints, h, z))) g)
    c.begun.ensures.gives

pub returns-then-low-gt127-clause-gives : goal.returns-then-low-gt127-clause-gives
returns-then-low-gt127-clause-gives c =
    ok-gives c.begun-then-low-gt127.result _ _
    (λ r g. gives-outside c.args.wide c.args.far c.args.part c.args.entry c.args.low r (list_of c.args.cells.now) (list_of c.begun-then-low-gt127.new.cells) c.requires.narrow c.requires.there c.requires.part c.requires.part_narrow (inr (let h = c.if-low-gt127.true in let z = to_z-of_z w64 c.args.low (search rules) in omega (arith, ints, h, z))) g)
    c.begun-then-low-gt127.ensures.gives

pub returns-in-Some-clause-gives : goal.returns-in-Some-clause-gives
returns-in-Some-clause-gives c =
    let l0 = list_of c.args.cells.now in
    let l1 = list_of c.place_in.new.cells in
    let slot = subst (IsEntry l0 c.args.wide) c.in-Some.is c.requires.there in
    let z = to_z-of_z w64 c.args.low (search rules) in
    ok-gives c.place_in.result _ _
    (λ r g.
    subst (λ (o : Option ℕ). Gives Nothing 1 l0 l1 r c.args.wide (λ b. on_path b l0 c.args.far c.args.wide (held_or b l0 o) c.args.low (width_at l0 c.args.part) (held b l0 c.args.part))) (sym c.in-Some.is)
    (gives-placed c.args.wide c.in-Some.before c.args.far c.args.part c.args.low _ r l0 l1 z c.requires.narrow slot c.requires.away (let h = c.if-low-ltminus127.false in omega (arith, ints, h, z)) g))
    c.place_in.ensures.gives

turned : (y : ℤ) → pos 0 -ℤ y ≡ neg_ℤ y
turned y = omega (arith, ints)

pub returns-in-None-clause-gives : goal.returns-in-None-clause-gives
returns-in-None-clause-gives c =
    let l0 = list_of c.args.cells.now in
    let l1 = list_of c.pick.new.cells in
    let z = to_z-of_z w64 c.args.low (search rules) in
    let negated : to_z w64 (of_z w64 (pos 0 -ℤ to_z w64 (of_z w64 c.args.low))) ≡ pos 0 -ℤ c.args.low =
    ap (λ (y : ℤ). to_z w64 (of_z w64 (pos 0 -ℤ y))) z ∙ to_z-of_z w64 (pos 0 -ℤ c.args.low) (let h = c.if-low-ltminus127.false in let k = c.if-low-gt127.false in omega (arith, ints, h, k, z)) in
    ok-gives c.pick.result _ _
    (λ r g.
    subst (λ (o : Option ℕ). Gives Nothing 1 l0 l1 r c.args.wide (λ b. on_path b l0 c.args.far c.args.wide (held_or b l0 o) c.args.low (width_at l0 c.args.part) (held b l0 c.args.part))) (sym c.in-None.is)
    (gives-picked c.args.wide c.args.far c.args.part c.args.low _ r l0 l1 (negated ∙ turned c.args.low) c.requires.part c.requires.part_narrow c.requires.away (let h = c.if-low-gt127.false in omega (arith, ints, h, z)) g))
    c.pick.ensures.gives
