use Rattle.std.proofs.Common.{◌≡◌, ℕ, ◌-◌, ◌^◌, ◌<◌, ◌≤◌, map, length, ap, sym, ◌∙◌, subst, arith}
use Rattle.std.specs.Prelude.{slice_index}
use Rattle.std.proofs.lemmas.List.{get_or_default, length-map}
use Rattle.cell_form.specs.Views.{cell_of, bank_of}
use Rattle.cell_eval.specs.Holds.{widths_of}
use Rattle.cell_eval.proofs.Operands.{operand-found, cell-width}
use Rattle.cell_eval.proofs.value.operand.Goals as goal

pub invariant_of-result : goal.invariant_of-result
invariant_of-result c =
    let a = slice_index c.as_slice.result.now c.args.place in
    let cells = map cell_of c.args.earlier.now in
    let f = operand-found c.args.first (bank_of c.args.bank.now) cells (cell_of c.args.cell.now) c.args.place a c.requires.holds c.requires.cell c.requires.place (ap (λ xs. slice_index xs c.args.place) c.as_slice.ensures) in
    let short : a - c.args.first < length c.args.earlier.now = omega (arith, f.low, f.high, length-map c.args.earlier.now cell_of) in
    let w = cell-width c.args.earlier.now (a - c.args.first) c.index-earlier-slot.result short in
    let v : c.index.result.now ≡ slice_index c.args.bank.now.slots.items a = c.index.ensures ∙ get_or_default c.args.bank.now.slots.items a c.index.result.now 0 f.there in
    let P : ℕ → Type 0 = λ n. c.index.result.now < 2 ^ n in
    record {
      wide = subst (λ (n : ℕ). 1 ≤ n) (sym w) f.wide;
      narrow = subst (λ (n : ℕ). n ≤ 128) (sym w) f.narrow;
      fits = subst P (sym w) (subst (λ (n : ℕ). n < 2 ^ slice_index (widths_of cells) (a - c.args.first)) (sym v) f.fits);
    }

pub returns-clause-width : goal.returns-clause-width
returns-clause-width c =
    let a = slice_index c.as_slice.result.now c.args.place in
    let cells = map cell_of c.args.earlier.now in
    let f = operand-found c.args.first (bank_of c.args.bank.now) cells (cell_of c.args.cell.now) c.args.place a c.requires.holds c.requires.cell c.requires.place (ap (λ xs. slice_index xs c.args.place) c.as_slice.ensures) in
    let short : a - c.args.first < length c.args.earlier.now = omega (arith, f.low, f.high, length-map c.args.earlier.now cell_of) in
    cell-width c.args.earlier.now (a - c.args.first) c.index-earlier-slot.result short ∙ f.width
