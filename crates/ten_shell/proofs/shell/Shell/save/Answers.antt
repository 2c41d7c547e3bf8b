use Rattle.std.proofs.Common.{◌∙◌, ap, map, ◌++◌, ◌∷◌, []}
use Rattle.vl_design.specs.Snapshots.{saved_over}
use Rattle.ten_core.specs.cell_form.specs.Views.{bank_of}
use Rattle.ten_plan.specs.declared.held.FreeSave.{FreeSave}
use Rattle.ten_plan.specs.Held.{free_of, snapshot_of as snapshot_in}
use Rattle.ten_shell.specs.Shells.{flat_in, saved_in}
use Rattle.ten_shell.proofs.Tests.{map-and}
use Rattle.ten_shell.proofs.Standing.{one-besides}
use Rattle.ten_shell.proofs.shell.Shell.save.Goals as goal

pub returns-clause-stands : goal.returns-clause-stands
returns-clause-stands c = λ n i w left e.
    let s = c.args.self.now in
    let rows = (flat_in s).rows in
    let over = c.in_ok-keep.ensures.kept rows
    ∙ ap (λ x. saved_over (saved_in s) (record { name = x; snapshot = snapshot_in rows c.in_ok-held.held })) c.in_ok-copy.ensures
    ∙ ap (λ t. saved_over (saved_in s) (record { name = c.args.name; snapshot = t })) (c.in_ok-held.ensures n i w) in
    let x : FreeSave = record { name = c.args.name; tick = s.engine.ticks } in
    let more = ap (λ fs. map free_of fs) (c.push_reserved.ensures.items ∙ ap (λ fs. fs ++ x ∷ []) c.reserve.ensures.items) ∙ map-and free_of s.free.items x in
    (one-besides s (bank_of c.args.bank.now) n i w c.keep.new.saved c.push_reserved.new.self x e left w.at.ticks over more, left)

pub returns-clause-free : goal.returns-clause-free
returns-clause-free c =
    let s = c.args.self.now in
    let x : FreeSave = record { name = c.args.name; tick = s.engine.ticks } in
    ap (λ fs. map free_of fs) (c.push_reserved.ensures.items ∙ ap (λ fs. fs ++ x ∷ []) c.reserve.ensures.items) ∙ map-and free_of s.free.items x
