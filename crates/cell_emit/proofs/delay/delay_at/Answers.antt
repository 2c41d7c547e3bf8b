use Rattle.std.proofs.Common.{ℤ, to_z, of_z, rules}
use Rattle.std.specs.Int.{w64}
use Rattle.std.proofs.lemmas.Int.{to_z-of_z}
use Rattle.std.proofs.Common.{◌≡◌, sym, ap, ◌∙◌, subst, arith, length, Option}
use Rattle.cell_form.specs.Views.{list_of}
use Rattle.cell_emit.specs.Slots.{Gives, Nothing}
use Rattle.cell_emit.proofs.Frames.{grows-then, in-stays, held-stays}
use Rattle.cell_emit.specs.Envs.{IsEntry, held_or}
use Rattle.cell_emit.specs.Paths.{low_of}
use Rattle.cell_emit.proofs.Staying.{sound-before, always-stays, entry-stays, is-slot-stays}
use Rattle.cell_emit.specs.Pendings.{slot_of, slots_of}
use Rattle.cell_emit.proofs.Keeping.{slot-read}
use Rattle.cell_emit.specs.Paths.{on_path}
use Rattle.cell_emit.proofs.Placing.{distant-away}
use Rattle.cell_emit.specs.Slots.{held, width_at}
use Rattle.cell_emit.proofs.Delaying.{delays-at}
use Rattle.cell_emit.proofs.delay.delay_at.Goals as goal

pub distant-requires-clause-zero : goal.distant-requires-clause-zero
distant-requires-clause-zero c = always-stays (list_of c.args.cells.now) (list_of c.ones.new.cells) c.args.here 0 c.in_ok-set.ensures.grows c.requires.here.there c.requires.zero

pub placed_by-requires-clause-away : goal.placed_by-requires-clause-away
placed_by-requires-clause-away c = λ s b sound.
    let l1 = list_of c.ones.new.cells in
    let l2 = list_of c.distant.new.cells in
    let far = c.in_ok-far.ensures.distant in
    distant-away (held b l2 c.in_ok-far.far) 0 (held b l1 c.args.off) (far.value s b (sound-before s l1 l2 c.in_ok-far.ensures.grows sound))

pub placed_by-requires-2-clause-away : goal.placed_by-requires-2-clause-away
placed_by-requires-2-clause-away c = λ s b sound.
    let l1 = list_of c.ones.new.cells in
    let l2 = list_of c.distant.new.cells in
    let l3 = list_of c.placed_by.new.cells in
    let far = c.in_ok-far.ensures.distant in
    let sound2 = sound-before s l2 l3 c.in_ok-update.ensures.grows sound in
    distant-away (held b l3 c.in_ok-far.far) 0 (held b l1 c.args.off)
    (held-stays b l2 l3 c.in_ok-far.far c.in_ok-update.ensures.grows far.there ∙ far.value s b (sound-before s l1 l2 c.in_ok-far.ensures.grows sound2))

pub placed_by-requires-clause-there : goal.placed_by-requires-clause-there
placed_by-requires-clause-there c =
    let (names, can) = c.requires.signal in
    let p = slots_of c.args.pending.now in
    let k = c.args.signal in
    let l0 = list_of c.args.cells.now in
    let l1 = list_of c.ones.new.cells in
    let l2 = list_of c.distant.new.cells in
    let g02 = grows-then l0 l1 l2 c.in_ok-set.ensures.grows c.in_ok-far.ensures.grows in
    let entry = subst (λ n. IsEntry l0 n (slot_of p.update k)) can.width (can.pending.update k can.is_signal) in
    subst (IsEntry l2 c.args.wide) (sym (c.index.ensures ∙ slot-read p.update k _ can.there)) (entry-stays l0 l2 c.args.wide (slot_of p.update k) g02 entry)

pub placed_by-requires-2-clause-there : goal.placed_by-requires-2-clause-there
placed_by-requires-2-clause-there c =
    let (names, can) = c.requires.signal in
    let p = slots_of c.args.pending.now in
    let k = c.args.signal in
    let l0 = list_of c.args.cells.now in
    let l1 = list_of c.ones.new.cells in
    let l2 = list_of c.distant.new.cells in
    let l3 = list_of c.placed_by.new.cells in
    let g02 = grows-then l0 l1 l2 c.in_ok-set.ensures.grows c.in_ok-far.ensures.grows in
    let g03 = grows-then l0 l2 l3 g02 c.in_ok-update.ensures.grows in
    let many = can.pending.many in
    let there = can.there in
    let entry = subst (λ n. IsEntry l0 n (slot_of p.mask k)) can.width (can.pending.mask k can.is_signal) in
    subst (IsEntry l3 c.args.wide) (sym (c.index-2.ensures ∙ slot-read p.mask k _ (omega (arith, many, there)))) (entry-stays l0 l3 c.args.wide (slot_of p.mask k) g03 entry)

pub returns-clause-delays : goal.returns-clause-delays
returns-clause-delays c names can =
    let p = slots_of c.args.pending.now in
    let k = c.args.signal in
    let w = c.args.wide in
    let part = c.args.part in
    let low = c.args.low in
    let l0 = list_of c.args.cells.now in
    let l1 = list_of c.ones.new.cells in
    let l2 = list_of c.distant.new.cells in
    let l3 = list_of c.placed_by.new.cells in
    let l4 = list_of c.placed_by-2.new.cells in
    let z = to_z-of_z w64 low (search rules) in
    let far = c.in_ok-far.far in
    let set = c.in_ok-set.set in
    let many = can.pending.many in
    let there = can.there in
    let read-update = c.index.ensures ∙ slot-read p.update k _ there in
    let read-mask = c.index-2.ensures ∙ slot-read p.mask k _ (omega (arith, many, there)) in
    delays-at names p k w low part c.args.off far set c.in_ok-update.update c.in_ok-mask.mask l0 l1 l2 l3 l4 can c.requires.part c.requires.off.there
    c.in_ok-set.ensures.gives c.in_ok-far.ensures.distant
    (subst (λ (y : ℤ). Gives Nothing 1 l2 l3 c.in_ok-update.update w (λ b. on_path b l2 far w (held_or b l2 (slot_of p.update k)) y (width_at l2 part) (held b l2 part))) z
    (subst (λ e. Gives Nothing 1 l2 l3 c.in_ok-update.update w (λ b. on_path b l2 far w (held_or b l2 e) (to_z w64 (of_z w64 low)) (width_at l2 part) (held b l2 part))) read-update c.in_ok-update.ensures.gives))
    (subst (λ (y : ℤ). Gives Nothing 1 l3 l4 c.in_ok-mask.mask w (λ b. on_path b l3 far w (held_or b l3 (slot_of p.mask k)) y (width_at l3 set) (held b l3 set))) z
    (subst (λ e. Gives Nothing 1 l3 l4 c.in_ok-mask.mask w (λ b. on_path b l3 far w (held_or b l3 e) (to_z w64 (of_z w64 low)) (width_at l3 set) (held b l3 set))) read-mask c.in_ok-mask.ensures.gives))
