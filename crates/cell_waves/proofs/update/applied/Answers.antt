use Rattle.std.proofs.Common.{◌≡◌, ℕ, ◌+◌, Bool, List, [], Option, refl, length, map, sym, ap, arith, subst}
use Rattle.std.specs.Prelude.{slice_get, Some}
use Rattle.std.proofs.lemmas.List.{length-map}
use Rattle.std.proofs.lemmas.Result.{on_ok_weaker}
use Rattle.ten_form.specs.vl_design.specs.declared.design.Signal.{Signal}
use Rattle.ten_form.specs.vl_design.specs.Trees.{flat_of, row_of}
use Rattle.cell_emit.specs.cell_form.specs.declared.cell.Write.{Write}
use Rattle.cell_emit.specs.cell_form.specs.Views.{list_of}
use Rattle.cell_emit.proofs.Reading.{row-at}
use Rattle.cell_waves.specs.Applies.{HasUpdateIf}
use Rattle.cell_waves.specs.Copies.{marked_one, Sets}
use Rattle.cell_waves.proofs.Updating.{Updated, updated-more, applies}
use Rattle.cell_waves.proofs.update.applied.Goals as goal

-- the row of a signal, said of the design's list
row-of-design : (xs signals : List Signal) (n : ℕ) (x : Signal) → signals ≡ xs → slice_get (map row_of signals) n ≡ Some (row_of x) → slice_get (map row_of xs) n ≡ Some (row_of x)
row-of-design xs signals n x e is = subst (λ ys. slice_get (map row_of ys) n ≡ Some (row_of x)) e is

pub loop-number-preserved : goal.loop-number-preserved
loop-number-preserved c =
    let d = flat_of c.args.design.now in
    let signals = c.as_slice-signals.result.now in
    let n = c.loop-number.number in
    let x = c.index-signals-number.result in
    let old = list_of c.args.cells.now in
    let mid = list_of c.loop-number.cells in
    let new = list_of c.updated_if.new.cells in
    let marks = marked_one c.args.delayed.now in
    let is = row-of-design c.args.design.now.signals signals n x c.as_slice-signals.ensures (row-at signals n x c.loop-number-test.true c.index-signals-number.is) in
    let F : List (Option ℕ) → Type 0 = λ es. Updated d.rows marks (n + 1) old new es in
    let longer = rw c.is_marked-marked.ensures at c.in_ok-slot.ensures.longer in
    subst F (sym c.in_ok-push.ensures.items)
    (updated-more d.rows marks n (n + 1) old mid new c.loop-number.values.items (row_of x) c.in_ok-slot.slot refl is c.loop-number.invariant
    longer (subst (λ t. HasUpdateIf t (row_of x) n new c.in_ok-slot.slot) c.is_marked-marked.ensures c.in_ok-slot.ensures.updates))

sets-of : (xs signals : List Signal) (copy : ℕ) (marks : List Bool) (es fs : List (Option ℕ)) (here : ℕ) (s0 s1 : List Write) → signals ≡ xs → fs ≡ es → Sets (map row_of signals) copy (marked_one marks) fs here s0 s1 →
    Sets (map row_of xs) copy (marked_one marks) es here s0 s1
sets-of xs signals copy marks es fs here s0 s1 e f h =
    subst (λ gs. Sets (map row_of xs) copy (marked_one marks) gs here s0 s1) f (subst (λ ys. Sets (map row_of ys) copy (marked_one marks) fs here s0 s1) e h)

pub returns-clause-applies : goal.returns-clause-applies
returns-clause-applies c =
    let d = flat_of c.args.design.now in
    let here = c.args.here in
    let xs = c.args.design.now.signals in
    let signals = c.as_slice-signals.result.now in
    let same = c.as_slice-signals.ensures in
    let n = c.loop-number.number in
    let es = c.loop-number.values.items in
    let old = list_of c.args.cells.now in
    let new = list_of c.loop-number.cells in
    let s0 = c.args.sets.now.items in
    let s1 = c.write_marked.new.sets.items in
    let s2 = c.write_marked-2.new.sets.items in
    let s3 = c.write_marked-3.new.sets.items in
    let marks = c.args.delayed.now in
    let long = length-map xs row_of in
    let over = c.loop-number-test.false in
    let least = c.loop-number.auto.number-end in
    let size = ap (λ (ys : List Signal). length ys) same in
    let many : length d.rows ≡ n = omega (arith, long, over, least, size) in
    on_ok_weaker c.write_marked-3.result
    (λ h. applies d (marked_one marks) here old new n es s0 s1 s2 s3 c.requires.here c.requires.zero many c.loop-number.invariant
    (sets-of xs signals 3 marks es c.as_slice.result.now here s0 s1 same c.as_slice.ensures.value c.in_ok-write_marked.ensures)
    (sets-of xs signals 4 marks es c.as_slice-2.result.now here s1 s2 same c.as_slice-2.ensures.value c.in_ok-write_marked-2.ensures) (sets-of xs signals 6 marks [] [] here s2 s3 same refl h))
    c.write_marked-3.ensures
