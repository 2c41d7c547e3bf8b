use Rattle.std.proofs.Common.{◌≡◌, ◌<◌, ◌%◌, ◌^◌, [], map, length, get_or, ap, sym, ◌∙◌, arith, rules}
use Rattle.std.specs.Prelude.{◌-ℤ◌}
use Rattle.std.proofs.lemmas.List.{get_or-map, length-map}
use Rattle.vl_base.specs.Value.{reading}
use Rattle.cell_form.specs.Views.{cell_of, bank_of}
use Rattle.cell_form.specs.Values.{slot_at, slots_of, operands, word_at}
use Rattle.cell_form.proofs.Slots.{width-at}
use Rattle.cell_eval.specs.Wholes.{whole_of}
use Rattle.cell_eval.proofs.Operands.{operands-make}
use Rattle.cell_eval.proofs.value.operated.Goals as goal

pub side_by_side-requires : goal.side_by_side-requires
side_by_side-requires c =
    let xs = operands c.args.first (slots_of c.args.first c.args.bank.now.regs.items (bank_of c.args.bank.now).mems (map cell_of c.args.earlier.now)) c.args.cell.now.args.items in
    let makes = rw c.in-Append.is at (operands-make c.args.first (bank_of c.args.bank.now) (map cell_of c.args.earlier.now) (cell_of c.args.cell.now) c.requires.cell) in
    let high = c.operand-high.ensures.width ∙ width-at xs 0 in
    let low = c.operand-low.ensures.width ∙ width-at xs 1 in
    omega (arith, makes, high, low, c.requires.cell.narrow)

pub returns-in-MemRead : goal.returns-in-MemRead
returns-in-MemRead c =
    let xs = operands c.args.first (slots_of c.args.first c.args.bank.now.regs.items (bank_of c.args.bank.now).mems (map cell_of c.args.earlier.now)) c.args.cell.now.args.items in
    let mems = c.args.bank.now.mems.items in
    let names = rw c.in-MemRead.is at c.requires.cell.names in
    let there : c.in-MemRead.memory < length mems = omega (arith, names, length-map mems (λ m. m.items)) in
    let words : c.deref.result.now ≡ get_or (map (λ m. m.items) mems) c.in-MemRead.memory []
    = c.deref.ensures.value ∙ ap (λ m. m.items) c.index-words.ensures ∙ sym (get_or-map (λ m. m.items) mems c.in-MemRead.memory c.index-words.result.now [] there) in
    let address : whole_of c.whole_number-address.result ≡ reading c.in-MemRead.signed (slot_at xs 0).width (slot_at xs 0).value
    = c.whole_number-address.ensures ∙ ap (λ n. reading c.in-MemRead.signed n c.operand-in-MemRead.result.value) c.operand-in-MemRead.ensures.width
    ∙ ap (reading c.in-MemRead.signed (slot_at xs 0).width) c.operand-in-MemRead.ensures.value in
    let got : c.word_at.result ≡ word_at c.deref.result.now (whole_of c.whole_number-address.result -ℤ c.args.cell.now.low) = search (rules, c.word_at.ensures) in
    let all : c.cut-in-MemRead.result ≡ word_at (get_or (map (λ m. m.items) mems) c.in-MemRead.memory []) (reading c.in-MemRead.signed (slot_at xs 0).width (slot_at xs 0).value -ℤ c.args.cell.now.low) % 2 ^ c.args.cell.now.width
    = c.cut-in-MemRead.ensures
    ∙ ap (λ n. n % 2 ^ c.args.cell.now.width)
    (got ∙ ap (λ ws. word_at ws (whole_of c.whole_number-address.result -ℤ c.args.cell.now.low)) words
    ∙ ap (λ z. word_at (get_or (map (λ m. m.items) mems) c.in-MemRead.memory []) (z -ℤ c.args.cell.now.low)) address) in
    rw c.in-MemRead.is all
