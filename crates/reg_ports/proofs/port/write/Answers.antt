use Rattle.std.proofs.Common.{◌<◌, length, get_or, false, sym, ◌∙◌, ap, subst, List, set}
use Rattle.std.proofs.lemmas.List.{get_or_default}
use Rattle.cell_form.specs.declared.bank.Port.{Port}
use Rattle.cell_form.specs.Views.{bank_of}
use Rattle.reg_ports.specs.Ports.{IsMap, with_held, held}
use Rattle.reg_ports.proofs.Restoring.{port-there, with-word-is, with-word-map}
use Rattle.reg_ports.proofs.port.write.Goals as goal

pub returns-clause-written : goal.returns-clause-written
returns-clause-written c =
    let ports = c.args.map.now.ports in
    let i = c.args.port in
    let b = bank_of c.args.bank.now in
    let d : Port = record { mem = false; value = 0; work = 0; width = 0; words = 0 } in
    let lt : i < length ports = port-there ports i c.args.word c.requires.word in
    c.set_held.ensures ∙ ap (λ (ps : List Port). let q = get_or ps i d in with_held q (set (held b q) c.args.word c.args.value.value) b) c.as_slice.ensures
    ∙ sym (with-word-is ports b i c.args.word (get_or ports i d) c.requires.map lt (get_or_default ports i d (get_or ports i d) lt) c.args.value.value)

pub returns-clause-map : goal.returns-clause-map
returns-clause-map c =
    let ports = c.args.map.now.ports in
    let i = c.args.port in
    let b = bank_of c.args.bank.now in
    let d : Port = record { mem = false; value = 0; work = 0; width = 0; words = 0 } in
    let lt : i < length ports = port-there ports i c.args.word c.requires.word in
    subst (IsMap ports) (sym (returns-clause-written c))
    (with-word-map ports b i c.args.word (get_or ports i d) c.requires.map lt (get_or_default ports i d (get_or ports i d) lt) c.args.value.value c.args.value.width c.args.value.fits c.requires.width)
