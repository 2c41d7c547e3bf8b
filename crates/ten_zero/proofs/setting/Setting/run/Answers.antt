use Rattle.std.proofs.Common.{◌≡◌, sym, ap, ◌∙◌, subst}
use Rattle.vl_design.specs.Functions.{fresh, zeros}
use Rattle.vl_design.specs.Width.{names_of}
use Rattle.vl_run.specs.Machines.{IsMachine}
use Rattle.ten_zero.specs.declared.early.Early.{Early}
use Rattle.ten_zero.specs.Early.{blocks_done, flat_in, state_in}
use Rattle.ten_zero.proofs.Behind.{zero-goes-on, zero-stops}
use Rattle.ten_zero.proofs.setting.Setting.run.Goals.{then-not-e+in_ok-end_wave, else-not-e}
use Rattle.ten_zero.proofs.setting.Setting.run.Goals as goal

pub returns : goal.returns
returns c =
    let d = flat_in c.args.self.now in
    let files = c.args.self.now.files.now in
    let order = c.args.order.now in
    let mid = c.do_blocks.new.e in
    let done : blocks_done d files (fresh (zeros d.rows)) ≡ state_in mid = ap (blocks_done d files) (sym c.in_ok-machine.ensures.state) ∙ c.in_ok-do_blocks.ensures.does in
    elim c.if-not-e.branch [
      | then-not-e+in_ok-end_wave w ↦ (
        subst (λ (e : Early). IsMachine (names_of d) e.machine) (sym w.e-is) w.in_ok-end_wave.ensures.machine,
        zero-goes-on d files order (state_in mid) (state_in w.end_wave.new.e) done w.if-not-e.true w.in_ok-end_wave.ensures.does ∙ ap state_in (sym w.e-is),
      )
      | else-not-e w ↦ (
        subst (λ (e : Early). IsMachine (names_of d) e.machine) (sym w.e-is) c.in_ok-do_blocks.ensures.machine,
        zero-stops d files order (state_in mid) done w.if-not-e.false ∙ ap state_in (sym w.e-is),
      )
    ]
