use Rattle.std.proofs.Common.{◌+◌, ◌<◌, sym, map, length, arith, subst, List, Option, ℕ}
use Rattle.std.proofs.lemmas.List.{length-map}
use Rattle.vl_sites.specs.vl_design.specs.Trees.{row_of}
use Rattle.cell_form.specs.Views.{list_of}
use Rattle.cell_emit.proofs.Reading.{Entered, row-at, entered-more, entered-longer, entered-all}
use Rattle.cell_emit.proofs.reads_reads.entries.Goals as goal

pub loop-number-preserved : goal.loop-number-preserved
loop-number-preserved c =
    let signals = c.args.signals.now in
    let rows = map row_of signals in
    let n = c.loop-number.number in
    let x = c.index-signals-number.result in
    let lt : n < length signals = omega arith in
    let old = list_of c.args.cells.now in
    let new = list_of c.entry.new.cells in
    let F : List (Option ℕ) → Type 0 = λ es. Entered rows c.args.places.now (n + 1) old new es in
    subst F (sym c.in_ok-push.ensures.items)
    (entered-more rows c.args.places.now n old (list_of c.loop-number.cells) new c.loop-number.entries.items (row_of x) c.in_ok-slot.slot
    (row-at signals n x lt c.index-signals-number.is) c.loop-number.invariant c.in_ok-slot.ensures.longer c.in_ok-slot.ensures.reads)

pub returns-clause-reads : goal.returns-clause-reads
returns-clause-reads c =
    let signals = c.args.signals.now in
    let long = length-map signals row_of in
    entered-all (map row_of signals) c.args.places.now c.loop-number.number (list_of c.args.cells.now) (list_of c.loop-number.cells) c.loop-number.entries.items (omega arith) c.loop-number.invariant

pub returns-clause-longer : goal.returns-clause-longer
returns-clause-longer c =
    let signals = c.args.signals.now in
    let long = length-map signals row_of in
    entered-longer (map row_of signals) c.args.places.now c.loop-number.number (list_of c.args.cells.now) (list_of c.loop-number.cells) c.loop-number.entries.items (omega arith) c.loop-number.invariant
