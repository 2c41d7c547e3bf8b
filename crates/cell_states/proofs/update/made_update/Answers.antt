use Rattle.std.proofs.Common.{◌*◌, List, [], length, map, subst, sym, ap, ◌∙◌, arith}
use Rattle.std.specs.Prelude.{All, slice_get}
use Rattle.std.specs.List.{AllByRecursion}
use Rattle.vl_design.specs.Sound.{IsOf, IsMem}
use Rattle.vl_design.specs.Trees.{flat_of, row_of}
use Rattle.vl_design.specs.declared.design.Signal.{Signal}
use Rattle.cell_emit.specs.cell_form.specs.Data.{ListData}
use Rattle.cell_emit.specs.cell_form.specs.Sound.{Shape}
use Rattle.cell_emit.specs.cell_form.specs.Views.{list_of}
use Rattle.cell_emit.specs.Slots.{AreSound, Nothing}
use Rattle.cell_emit.proofs.Frames.{held-stays, in-stays, sound-before}
use Rattle.cell_waves.specs.Reading.{HasStore, Reads}
use Rattle.cell_waves.proofs.Lengths.{longer-few}
use Rattle.cell_waves.specs.Copies.{HasSignals, count_to, marked_one}
use Rattle.ten_form.specs.declared.store.Store.{Store}
use Rattle.cell_states.proofs.Applying.{update-of}
use Rattle.cell_states.proofs.Counts.{count-same}
use Rattle.cell_states.proofs.update.made_update.Goals as goal

pub read-requires-clause-memories : goal.read-requires-clause-memories
read-requires-clause-memories c =
    subst (λ (xs : List Signal). All (λ (x : Store). IsOf IsMem (slice_get (map row_of xs) x.memory)) c.args.stores.now) (sym c.as_slice.ensures) c.requires.memories

pub applied-requires-clause-here : goal.applied-requires-clause-here
applied-requires-clause-here c = in-stays (list_of c.constant.new.cells) (list_of c.read.new.cells) c.in_ok-here.here c.in_ok-read.ensures.grows c.in_ok-here.ensures.gives.there

pub applied-requires-clause-zero : goal.applied-requires-clause-zero
applied-requires-clause-zero c z b sound =
    let l0 = list_of c.constant.new.cells in
    let l1 = list_of c.read.new.cells in
    let s0 = sound-before z l0 l1 c.in_ok-read.ensures.grows sound in
    held-stays b l0 l1 c.in_ok-here.here c.in_ok-read.ensures.grows c.in_ok-here.ensures.gives.there
    ∙ c.in_ok-here.ensures.gives.value z b (sound-before z (list_of c.no_cells-cells.result) l0 c.in_ok-here.ensures.grows s0)

pub returns-clause-made : goal.returns-clause-made
returns-clause-made c order number =
    let d = flat_of c.args.design.now in
    let old = list_of c.no_cells-cells.result in
    let l0 = list_of c.constant.new.cells in
    let l1 = list_of c.read.new.cells in
    let starts : (z : Shape) → AreSound z old = λ z. subst (λ (l : ListData). AreSound z l) (sym c.no_cells-cells.ensures) tt in
    let reads = rw c.new-sites.ensures.items at c.in_ok-read.ensures.reads in
    let reads' = subst (λ (xs : List Signal). Reads (map row_of xs) c.args.stores.now l0 l1 [] c.read.new.sites.items) c.as_slice.ensures reads in
    let applies = rw c.new-sets.ensures.items at c.in_ok-applied.ensures.applies in
    update-of d order old l0 l1 (list_of c.applied.new.cells) (list_of c.number.new.cells) c.in_ok-here.here c.args.delayed.now c.args.to c.in_ok-next.next
    c.args.stores.now c.read.new.sites.items c.as_slice-2.result.now c.applied.new.sets.items c.push.new.self.items c.apply.new.sets.items c.requires.stores c.as_slice-2.ensures.value c.in_ok-push.ensures.items c.in_ok-apply.ensures.writes c.in_ok-apply.ensures.applies
    starts c.in_ok-here.ensures.gives c.requires.memories reads' c.requires.delayed applies c.in_ok-next.ensures.gives c.requires.alone number

pub returns-clause-few : goal.returns-clause-few
returns-clause-few c =
    let d = flat_of c.args.design.now in
    let l0 = list_of c.constant.new.cells in
    let l1 = list_of c.read.new.cells in
    let l2 = list_of c.applied.new.cells in
    let stores = c.args.stores.now in
    let none = ap (λ (l : ListData). length l.cells) c.no_cells-cells.ensures in
    let few0 = longer-few Nothing 1 (list_of c.no_cells-cells.result) l0 c.in_ok-here.ensures.gives.longer in
    let few1 = longer-few (λ z. AllByRecursion (HasStore z) stores) (4 * length stores) l0 l1 c.in_ok-read.ensures.reads.longer in
    let few2 = longer-few (HasSignals (length d.rows)) (6 * count_to (marked_one c.args.delayed.now) (length d.rows)) l1 l2 c.in_ok-applied.ensures.applies.longer in
    let few3 = longer-few Nothing 1 l2 (list_of c.number.new.cells) c.in_ok-next.ensures.gives.longer in
    let same = ap (λ (xs : List Store). length xs) c.requires.stores in
    let marks = count-same d c.args.delayed.now c.requires.delayed (length d.rows) (omega arith) in
    omega (arith, none, few0, few1, few2, few3, same, marks)
