use Rattle.std.proofs.Common.{map, length, take, drop, ap, sym, ◌∙◌}
use Rattle.std.proofs.lemmas.List.{length-map}
use Rattle.trap_runtime.specs.cell_form.specs.Views.{bank_of}
use Rattle.trap_runtime.specs.cell_form.specs.Sound.{shape_of}
use Rattle.fab_join.specs.Banks.{part, with_part, words_of}
use Rattle.fab_join.specs.Laid.{shape_of_span}
use Rattle.fab_join.proofs.Grown.{pasted_mapped, part_mapped, same_bank}
use Rattle.fab_join.proofs.bank.exchange.Goals as goal

pub returns-clause-bank : goal.returns-clause-bank
returns-clause-bank c =
    let b = c.args.bank.now in
    let own = c.args.own.now in
    same_bank (bank_of (record { regs = c.exchange_items.new.all; mems = c.exchange_items-2.new.all; slots = c.exchange_items-3.new.all })) (with_part (shape_of_span c.args.place) (bank_of own) (bank_of b))
    c.exchange_items.ensures.all
    (ap (map words_of) c.exchange_items-2.ensures.all ∙ pasted_mapped words_of b.mems.items own.mems.items c.args.place.mems)
    c.exchange_items-3.ensures.all

pub returns-clause-own : goal.returns-clause-own
returns-clause-own c =
    let b = c.args.bank.now in
    let own = c.args.own.now in
    same_bank (bank_of (record { regs = c.exchange_items.new.own; mems = c.exchange_items-2.new.own; slots = c.exchange_items-3.new.own })) (part (shape_of_span c.args.place) (shape_of (bank_of own)) (bank_of b))
    c.exchange_items.ensures.own
    (ap (map words_of) c.exchange_items-2.ensures.own
    ∙ part_mapped words_of b.mems.items c.args.place.mems (length own.mems.items)
    ∙ ap (λ n. take n (drop c.args.place.mems (map words_of b.mems.items))) (sym (length-map own.mems.items words_of)))
    c.exchange_items-3.ensures.own
