use Rattle.std.proofs.Common.{◌≡◌, List, length, map, ap, ◌∙◌, arith}
use Rattle.std.proofs.lemmas.List.{length-map}
use Rattle.ten_form.specs.vl_design.specs.declared.design.Signal.{Signal}
use Rattle.ten_form.specs.vl_design.specs.Trees.{flat_of, row_of}
use Rattle.cell_emit.specs.cell_form.specs.Views.{list_of}
use Rattle.cell_emit.proofs.Frames.{grows-then}
use Rattle.cell_emit.specs.Envs.{env_of}
use Rattle.cell_emit.specs.Entries.{read_count}
use Rattle.cell_emit.specs.Pendings.{slots_of}
use Rattle.cell_waves.proofs.Placing.{places-of, places-many, copies-of}
use Rattle.cell_waves.proofs.Starting.{begins}
use Rattle.cell_waves.proofs.begin.begun.Goals as goal

pub places-requires-clause-few : goal.places-requires-clause-few
places-requires-clause-few c =
    let same = ap (λ (ys : List Signal). length ys) c.as_slice-signals.ensures in
    let long = length-map c.args.design.now.signals row_of in
    let few = c.requires.few in
    omega (arith, same, long, few)

pub begin-requires-clause-values : goal.begin-requires-clause-values
begin-requires-clause-values c = places-many c.args.design.now.signals c.as_slice-signals.result.now c.as_slice.result.now 3 c.as_slice-signals.ensures (c.as_slice.ensures.value ∙ c.in_ok-values.ensures)

pub begin-requires-clause-works : goal.begin-requires-clause-works
begin-requires-clause-works c = places-many c.args.design.now.signals c.as_slice-signals.result.now c.as_slice-2.result.now 4 c.as_slice-signals.ensures (c.as_slice-2.ensures.value ∙ c.in_ok-works.ensures)

pub returns-clause-grows : goal.returns-clause-grows
returns-clause-grows c = grows-then (list_of c.args.cells.now) (list_of c.begin.new.cells) (list_of c.pending.new.cells) c.in_ok-at.ensures.grows c.in_ok-pending.ensures.grows

pub returns-clause-begins : goal.returns-clause-begins
returns-clause-begins c =
    let xs = c.args.design.now.signals in
    let signals = c.as_slice-signals.result.now in
    let same = c.as_slice-signals.ensures in
    let d = flat_of c.args.design.now in
    let old = list_of c.args.cells.now in
    let l1 = list_of c.begin.new.cells in
    let l2 = list_of c.pending.new.cells in
    let p = c.in_ok-pending.pending in
    let e = c.in_ok-pending.ensures in
    let long = length-map xs row_of in
    let size = ap (λ (ys : List Signal). length ys) same in
    let reads = ap (λ (ys : List Signal). read_count (map row_of ys)) same in
    let many : length signals ≡ length d.rows = omega (arith, long, size) in
    let is-vs = places-of xs signals c.as_slice.result.now 3 same (c.as_slice.ensures.value ∙ c.in_ok-values.ensures) in
    let is-ws = places-of xs signals c.as_slice-2.result.now 4 same (c.as_slice-2.ensures.value ∙ c.in_ok-works.ensures) in
    begins d c.args.order.now old l1 l2 (env_of c.in_ok-at.at) (length signals) _ _ (slots_of p) e.sites many c.in_ok-at.ensures.first c.in_ok-at.ensures.fits
    e.longer (copies-of xs signals 5 l2 p.update.items same e.update) (copies-of xs signals 6 l2 p.mask.items same e.mask)
    c.as_slice.result.now c.as_slice-2.result.now is-vs is-ws c.in_ok-at.ensures.longer c.in_ok-at.ensures.memories c.in_ok-at.ensures.stands (omega (arith, reads))
