use Rattle.std.proofs.Common.{◌≡◌, ℕ, List, refl, sym, ap, ◌∙◌, subst}
use Rattle.vl_eval.specs.vl_design.specs.Trees.{flat_of}
use Rattle.ten_core.specs.cell_form.specs.declared.bank.Port.{Port}
use Rattle.ten_core.specs.cell_form.specs.Data.{BankData}
use Rattle.ten_core.specs.cell_form.specs.Sound.{shape_of}
use Rattle.ten_core.specs.cell_form.specs.Views.{bank_of}
use Rattle.ten_core.specs.reg_ports.specs.Ports.{restored, IsMap}
use Rattle.sub_nodes.specs.Cycles.{committed_in}
use Rattle.ten_form.specs.Banks.{IsFor}
use Rattle.ten_core.specs.Ports.{ports_of}
use Rattle.ten_form.specs.States.{HoldsStage}
use Rattle.ten_parcel.specs.Banks.{resumed_state}
use Rattle.ten_parcel.proofs.Resuming.{zero-state, zeros-fine, holds-zeros}
use Rattle.ten_parcel.proofs.resume.resumed_bank.Goals as goal

pub put_back-requires-clause-ports : goal.put_back-requires-clause-ports
put_back-requires-clause-ports c =
    let image = c.args.image.now in
    let d = flat_of image.design in
    let h = c.args.held.now in
    let m = c.args.machine.now in
    let b = bank_of c.in_ok-bank.bank in
    let r = c.requires in
    let bank = c.in_ok-bank.ensures in
    let holds = holds-zeros d h m r.state image.slots image.rise b bank in
    let is = c.a_stage_is_captured.ensures d image.slots b (committed_in image.rise (zero-state d h m r.state)) r.held bank.fits (zeros-fine d h m r.state r.fine) holds in
    subst (λ (ports : List Port). IsMap ports b) (sym r.image.ports) is.0

pub returns : goal.returns
returns c =
    let image = c.args.image.now in
    let d = flat_of image.design in
    let h = c.args.held.now in
    let m = c.args.machine.now in
    let b = bank_of c.in_ok-bank.bank in
    let r = c.requires in
    let bank = c.in_ok-bank.ensures in
    let holds = holds-zeros d h m r.state image.slots image.rise b bank in
    let is = c.a_stage_is_captured.ensures d image.slots b (committed_in image.rise (zero-state d h m r.state)) r.held bank.fits (zeros-fine d h m r.state r.fine) holds in
    let e : bank_of c.put_back.new.bank ≡ restored (ports_of d.rows) h.words b =
    c.put_back.ensures
    ∙ (ap (λ (words : List ℕ). restored image.ports.ports words b) c.as_slice.ensures
    ∙ ap (λ (ports : List Port). restored ports h.words b) r.image.ports) in
    let shape = c.words_are_restored.ensures.shape d b h.words is.0 r.words in
    let again = c.words_are_restored.ensures.holds d image.slots image.rise b (zero-state d h m r.state) h.words r.held bank.fits refl refl holds r.words in
    record {
      fits = subst (λ (x : BankData). IsFor d image.slots (shape_of x)) (sym e) (subst (IsFor d image.slots) (sym shape) bank.fits);
      holds = subst (λ (x : BankData). HoldsStage d x (committed_in image.rise (resumed_state d h))) (sym e) again;
    }
