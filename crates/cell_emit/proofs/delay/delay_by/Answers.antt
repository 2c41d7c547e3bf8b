use Rattle.std.proofs.Common.{◌≡◌, sym, ap, ◌∙◌, subst, arith, length, Option}
use Rattle.cell_form.specs.Views.{list_of}
use Rattle.cell_emit.specs.Slots.{Gives, Nothing}
use Rattle.cell_emit.proofs.Frames.{grows-then, in-stays}
use Rattle.cell_emit.specs.Envs.{IsEntry, held_or}
use Rattle.cell_emit.specs.Paths.{low_of}
use Rattle.cell_emit.proofs.Staying.{always-stays, entry-stays, is-slot-stays}
use Rattle.cell_emit.specs.Pendings.{slot_of, slots_of}
use Rattle.cell_emit.proofs.Keeping.{slot-read}
use Rattle.cell_emit.proofs.Delaying.{delays-one}
use Rattle.cell_emit.proofs.delay.delay_by.Goals as goal

pub begun_both-requires-clause-one : goal.begun_both-requires-clause-one
begun_both-requires-clause-one c =
    let (names, can) = c.requires.signal in
    let p = slots_of c.args.pending.now in
    let k = c.args.signal in
    let l0 = list_of c.args.cells.now in
    let l1 = list_of c.ones.new.cells in
    let entry = subst (λ n. IsEntry l0 n (slot_of p.update k)) can.width (can.pending.update k can.is_signal) in
    subst (IsEntry l1 c.args.wide) (sym (c.index.ensures ∙ slot-read p.update k _ can.there)) (entry-stays l0 l1 c.args.wide (slot_of p.update k) c.in_ok-set.ensures.grows entry)

pub begun_both-requires-clause-other : goal.begun_both-requires-clause-other
begun_both-requires-clause-other c =
    let (names, can) = c.requires.signal in
    let p = slots_of c.args.pending.now in
    let k = c.args.signal in
    let l0 = list_of c.args.cells.now in
    let l1 = list_of c.ones.new.cells in
    let many = can.pending.many in
    let there = can.there in
    let entry = subst (λ n. IsEntry l0 n (slot_of p.mask k)) can.width (can.pending.mask k can.is_signal) in
    subst (IsEntry l1 c.args.wide) (sym (c.index-2.ensures ∙ slot-read p.mask k _ (omega (arith, many, there)))) (entry-stays l0 l1 c.args.wide (slot_of p.mask k) c.in_ok-set.ensures.grows entry)

pub returns-clause-delays : goal.returns-clause-delays
returns-clause-delays c names can =
    let p = slots_of c.args.pending.now in
    let k = c.args.signal in
    let w = c.args.wide in
    let low = low_of c.args.low in
    let l0 = list_of c.args.cells.now in
    let l1 = list_of c.ones.new.cells in
    let l2 = list_of c.begun_both.new.cells in
    let l3 = list_of c.rewritten.new.cells in
    let l4 = list_of c.rewritten-2.new.cells in
    let many = can.pending.many in
    let there = can.there in
    let read-update = c.index.ensures ∙ slot-read p.update k _ there in
    let read-mask = c.index-2.ensures ∙ slot-read p.mask k _ (omega (arith, many, there)) in
    delays-one names p k w low c.args.part c.args.off c.in_ok-set.set c.in_ok-first.first c.in_ok-first.second c.in_ok-update.update c.in_ok-mask.mask l0 l1 l2 l3 l4 can c.requires.low c.requires.part c.requires.off.there
    c.in_ok-set.ensures.gives
    (subst (λ e. Gives Nothing 1 l1 l2 c.in_ok-first.first w (λ b. held_or b l1 e)) read-update c.in_ok-first.ensures.one)
    (subst (λ e. Gives Nothing 1 l1 l2 c.in_ok-first.second w (λ b. held_or b l1 e)) read-mask c.in_ok-first.ensures.other)
    c.in_ok-update.ensures.gives c.in_ok-mask.ensures.gives

pub rewritten-requires-clause-zero : goal.rewritten-requires-clause-zero
rewritten-requires-clause-zero c =
    let l0 = list_of c.args.cells.now in
    let l1 = list_of c.ones.new.cells in
    let l2 = list_of c.begun_both.new.cells in
    always-stays l0 l2 c.args.here 0 (grows-then l0 l1 l2 c.in_ok-set.ensures.grows c.in_ok-first.ensures.grows) c.requires.here.there c.requires.zero

pub rewritten-requires-2-clause-here : goal.rewritten-requires-2-clause-here
rewritten-requires-2-clause-here c =
    let l0 = list_of c.args.cells.now in
    let l1 = list_of c.ones.new.cells in
    let l2 = list_of c.begun_both.new.cells in
    let l3 = list_of c.rewritten.new.cells in
    let g02 = grows-then l0 l1 l2 c.in_ok-set.ensures.grows c.in_ok-first.ensures.grows in
    is-slot-stays l0 l3 c.args.here 1 (grows-then l0 l2 l3 g02 c.in_ok-update.ensures.grows) c.requires.here

pub rewritten-requires-2-clause-zero : goal.rewritten-requires-2-clause-zero
rewritten-requires-2-clause-zero c =
    let l0 = list_of c.args.cells.now in
    let l1 = list_of c.ones.new.cells in
    let l2 = list_of c.begun_both.new.cells in
    let l3 = list_of c.rewritten.new.cells in
    let g02 = grows-then l0 l1 l2 c.in_ok-set.ensures.grows c.in_ok-first.ensures.grows in
    always-stays l0 l3 c.args.here 0 (grows-then l0 l2 l3 g02 c.in_ok-update.ensures.grows) c.requires.here.there c.requires.zero
