use Rattle.std.proofs.Common.{◌≡◌, ◌∙◌, refl, sym, ap, subst}
use Rattle.vl_design.specs.Snapshots.{snapshot_of}
use Rattle.ten_core.specs.cell_form.specs.Views.{bank_of}
use Rattle.ten_core.specs.reg_ports.specs.Ports.{captured, IsMap}
use Rattle.ten_files.specs.Tables.{open_files}
use Rattle.ten_plan.specs.declared.held.Held.{Held}
use Rattle.ten_plan.specs.Held.{snapshot_of as snapshot_in}
use Rattle.ten_core.specs.sub_nodes.specs.Cycles.{Stage}
use Rattle.std.specs.Prelude.{ℕ}
use Rattle.ten_shell.specs.Shells.{flat_in, StandsFor}
use Rattle.ten_shell.proofs.Tests.{ok-3}
use Rattle.ten_shell.proofs.Standing.{fine-in}
use Rattle.ten_shell.proofs.shell.Shell.held.Goals as goal

pub hold-requires-clause-ports : goal.hold-requires-clause-ports
hold-requires-clause-ports c =
    let s = c.args.self.now in
    let b = bank_of c.args.bank.now in
    let i = c.requires.1 in
    let w = c.requires.2 in
    let fine = fine-in s b c.requires.0 i w c.a_run_at_rest_is_at_a_boundary.ensures.boundary i.state.finished refl in
    let is = c.a_stage_is_captured.ensures (flat_in s) _ b i w.held w.at.stands.shape fine w.at.stands.stage in
    subst (λ x. IsMap x.image.ports.ports b) (sym c.deref.ensures) (subst (λ ports. IsMap ports b) (sym w.at.image.ports) is.0)

pub returns : goal.returns
returns c =
    let s = c.args.self.now in
    let b = bank_of c.args.bank.now in
    let rows = (flat_in s).rows in
    ok-3 (λ (h : Held). h.tick ≡ s.engine.ticks) (λ (h : Held). h.words ≡ captured c.deref.result.now.image.ports.ports b) (λ (h : Held). h.files ≡ open_files c.deref-2.result.now.files s.engine.open)
    (λ (h : Held). (n : ℕ) (i : Stage) → StandsFor s b n i → snapshot_in rows h ≡ snapshot_of rows i.state)
    (λ h tick words files n i w.
    let fine = fine-in s b n i w c.a_run_at_rest_is_at_a_boundary.ensures.boundary i.state.finished refl in
    let is = c.a_stage_is_captured.ensures (flat_in s) _ b i w.held w.at.stands.shape fine w.at.stands.stage in
    let ws = words ∙ ap (λ x. captured x.image.ports.ports b) c.deref.ensures ∙ ap (λ ports. captured ports b) w.at.image.ports ∙ is.1 in
    let fs = files ∙ ap (λ x. open_files x.files s.engine.open) c.deref-2.ensures ∙ w.at.table in
    let ts = tick ∙ w.at.ticks in
    cc)
    c.hold.result c.hold.ensures.tick c.hold.ensures.words c.hold.ensures.files
