use Rattle.std.proofs.Common.{◌≡◌, ◌+◌, ◌<◌, ◌≤◌, List, map, length, get_or, take, ap, sym, ◌∙◌, subst, arith}
use Rattle.std.proofs.lemmas.List.{get_or-map, length-map, take-map}
use Rattle.cell_form.specs.Data.{CellData, BankData}
use Rattle.cell_form.specs.Views.{cell_of, bank_of}
use Rattle.cell_form.specs.Values.{slots_of, cell_slot}
use Rattle.cell_form.specs.Sound.{Shape, IsCell, shape_of}
use Rattle.cell_form.proofs.Fitting.{cell-among}
use Rattle.cell_eval.specs.Holds.{Holds, widths_of}
use Rattle.cell_eval.proofs.Filling.{filled-holds, filled-shape, filling-step}
use Rattle.cell_eval.proofs.cycle.fill.Goals as goal

pub value_of-value-requires-clause-holds : goal.value_of-value-requires-clause-holds
value_of-value-requires-clause-holds c =
    let cells = map cell_of c.args.cells.now in
    let b = bank_of c.args.bank.now in
    let n = c.loop-number.number in
    let many = length-map c.args.cells.now cell_of in
    let within : c.args.first + length cells ≤ length b.slots = omega (arith, many, c.requires.slots) in
    let lt : n < length cells = omega (arith, many) in
    let among = cell-among (shape_of b) c.args.first cells n (cell_of c.index-cells-number.result) lt c.requires.cells in
    let holds = filled-holds c.args.first cells b within n (omega arith) among.0 in
    let held = subst (λ (x : BankData). Holds c.args.first x (take n cells)) (sym c.loop-number.invariant) holds in
    subst (λ (xs : List CellData). Holds c.args.first (bank_of c.loop-number.bank) xs) (take-map cell_of n c.args.cells.now) held

pub value_of-value-requires-clause-cell : goal.value_of-value-requires-clause-cell
value_of-value-requires-clause-cell c =
    let cells = map cell_of c.args.cells.now in
    let b = bank_of c.args.bank.now in
    let n = c.loop-number.number in
    let d = cell_of c.index-cells-number.result in
    let many = length-map c.args.cells.now cell_of in
    let within : c.args.first + length cells ≤ length b.slots = omega (arith, many, c.requires.slots) in
    let lt : n < length cells = omega (arith, many) in
    let short : n < length c.args.cells.now = omega arith in
    let among = cell-among (shape_of b) c.args.first cells n d lt c.requires.cells in
    let item : d ≡ get_or cells n d = ap cell_of c.index-cells-number.is ∙ sym (get_or-map cell_of c.args.cells.now n c.index-cells-number.result d short) in
    let shape : shape_of (bank_of c.loop-number.bank) ≡ shape_of b = ap shape_of c.loop-number.invariant ∙ filled-shape c.args.first cells b within n (omega arith) in
    let at = subst (λ (x : CellData). IsCell (shape_of b) c.args.first (widths_of (take n cells)) x) (sym item) among.1 in
    let here = subst (λ (xs : List CellData). IsCell (shape_of b) c.args.first (widths_of xs) d) (take-map cell_of n c.args.cells.now) at in
    subst (λ (s : Shape). IsCell s c.args.first (widths_of (map cell_of (take n c.args.cells.now))) d) (sym shape) here

pub loop-number-preserved : goal.loop-number-preserved
loop-number-preserved c =
    let cells = map cell_of c.args.cells.now in
    let b = bank_of c.args.bank.now in
    let now = bank_of c.loop-number.bank in
    let n = c.loop-number.number in
    let d = cell_of c.index-cells-number.result in
    let many = length-map c.args.cells.now cell_of in
    let within : c.args.first + length cells ≤ length b.slots = omega (arith, many, c.requires.slots) in
    let lt : n < length cells = omega (arith, many) in
    let short : n < length c.args.cells.now = omega arith in
    let item : d ≡ get_or cells n d = ap cell_of c.index-cells-number.is ∙ sym (get_or-map cell_of c.args.cells.now n c.index-cells-number.result d short) in
    let value : c.value_of-value.result ≡ (cell_slot c.args.first now.regs now.mems (slots_of c.args.first now.regs now.mems (take n cells)) (get_or cells n d)).value
    = c.value_of-value.ensures
    ∙ ap (λ (xs : List CellData). (cell_slot c.args.first now.regs now.mems (slots_of c.args.first now.regs now.mems xs) d).value) (sym (take-map cell_of n c.args.cells.now))
    ∙ ap (λ (x : CellData). (cell_slot c.args.first now.regs now.mems (slots_of c.args.first now.regs now.mems (take n cells)) x).value) item in
    filling-step c.args.first cells b within n d now (bank_of c.set_slot.new.bank) c.value_of-value.result lt c.loop-number.invariant value c.set_slot.ensures
