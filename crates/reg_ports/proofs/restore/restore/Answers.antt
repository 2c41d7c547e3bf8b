use Rattle.std.proofs.Common.{◌≡◌, sym, ◌∙◌, ap, List, subst}
use Rattle.cell_form.specs.declared.bank.Port.{Port}
use Rattle.cell_form.specs.Views.{bank_of}
use Rattle.reg_ports.specs.Ports.{IsMap, restored}
use Rattle.reg_ports.specs.Refusals.{AreFit}
use Rattle.reg_ports.proofs.Holding.{widths-length}
use Rattle.reg_ports.proofs.Restoring.{fit-length, restored-map}
use Rattle.reg_ports.proofs.restore.restore.Goals as goal

pub put_all-requires-clause-words : goal.put_all-requires-clause-words
put_all-requires-clause-words c =
    let ports = c.as_slice-ports.result.now in
    fit-length ports c.args.words.now c.in_ok-check.ensures.fit ∙ widths-length ports

pub returns-clause-map : goal.returns-clause-map
returns-clause-map c =
    let ports = c.args.map.now.ports in
    let words = c.args.words.now in
    let start = bank_of c.args.bank.now in
    let set : bank_of c.put_all.new.bank ≡ restored ports words start = c.put_all.ensures ∙ ap (λ (ps : List Port). restored ps words start) c.as_slice-ports.ensures in
    let fit : AreFit ports words = subst (λ (ps : List Port). AreFit ps words) c.as_slice-ports.ensures c.in_ok-check.ensures.fit in
    subst (IsMap ports) (sym set) (restored-map ports words start c.requires fit)
