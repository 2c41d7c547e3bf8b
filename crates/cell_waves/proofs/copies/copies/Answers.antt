use Rattle.std.proofs.Common.{◌≡◌, ℕ, ◌+◌, ◌<◌, false, List, length, map, sym, arith, subst, Option}
use Rattle.std.specs.Prelude.{if◌then◌else◌}
use Rattle.std.proofs.lemmas.List.{length-map}
use Rattle.ten_form.specs.vl_design.specs.Trees.{row_of}
use Rattle.ten_form.specs.vl_design.specs.Sound.{HasValue, IsWidth}
use Rattle.cell_emit.specs.vl_sites.specs.Others.{is_other}
use Rattle.cell_emit.specs.cell_form.specs.Views.{list_of}
use Rattle.cell_emit.specs.Slots.{Longer}
use Rattle.cell_emit.specs.Entries.{HasCopy}
use Rattle.cell_emit.proofs.Reading.{row-at}
use Rattle.cell_waves.proofs.Copying.{Copied, copied-more, copied-longer, copied-all}
use Rattle.cell_waves.proofs.copies.copies.Goals as goal

pub loop-number-preserved : goal.loop-number-preserved
loop-number-preserved c =
    let signals = c.args.signals.now in
    let rows = map row_of signals in
    let n = c.loop-number.number in
    let x = c.index-signals-number.result in
    let lt = c.loop-number-test.true in
    let old = list_of c.args.cells.now in
    let mid = list_of c.loop-number.cells in
    let new = list_of c.copy.new.cells in
    let which = c.args.which in
    let e = c.in_ok-slot.slot in
    let is = c.register.ensures in
    let F : List (Option ℕ) → Type 0 = λ es. Copied rows which (length signals) (n + 1) old new es in
    let longer = subst (λ r. Longer (λ s. r < s.regs) (if is_other (row_of x).kind then 0 else 1) mid new) is c.in_ok-slot.ensures.longer in
    let one = subst (λ r. HasValue (row_of x).kind → is_other (row_of x).kind ≡ false → IsWidth (row_of x).width → HasCopy new (row_of x).width r e) is c.in_ok-slot.ensures.copies in
    subst F (sym c.in_ok-push.ensures.items)
    (copied-more rows which (length signals) n old mid new c.loop-number.slots.items (row_of x) e c.requires.which lt (row-at signals n x lt c.index-signals-number.is) c.loop-number.invariant longer one c.in_ok-slot.ensures.others)

pub returns-clause-copies : goal.returns-clause-copies
returns-clause-copies c =
    let signals = c.args.signals.now in
    let long = length-map signals row_of in
    let over = c.loop-number-test.false in
    let least = c.loop-number.auto.number-end in
    copied-all (map row_of signals) c.args.which (length signals) c.loop-number.number (list_of c.args.cells.now) (list_of c.loop-number.cells) c.loop-number.slots.items (omega arith) c.loop-number.invariant

pub returns-clause-longer : goal.returns-clause-longer
returns-clause-longer c =
    let signals = c.args.signals.now in
    let long = length-map signals row_of in
    let over = c.loop-number-test.false in
    let least = c.loop-number.auto.number-end in
    copied-longer (map row_of signals) c.args.which (length signals) c.loop-number.number (list_of c.args.cells.now) (list_of c.loop-number.cells) c.loop-number.slots.items (omega arith) c.loop-number.invariant
