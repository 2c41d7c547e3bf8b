use Rattle.std.proofs.Common.{◌≡◌, ◌∙◌, subst}
use Rattle.cell_form.specs.Views.{list_of}
use Rattle.cell_emit.specs.Slots.{Gives, Nothing}
use Rattle.cell_emit.specs.Envs.{env_of, entry}
use Rattle.cell_emit.specs.Paths.{low_of, written_in}
use Rattle.cell_emit.proofs.Assigning.{assigns-with, entry-read, signal-there}
use Rattle.cell_emit.proofs.assign.assign.Goals as goal

pub returns-clause-assigns : goal.returns-clause-assigns
returns-clause-assigns c names writable =
    let old = list_of c.args.cells.now in
    let new = list_of c.assigned.new.cells in
    let low = low_of c.args.low in
    let read : c.index-entry.result.now ≡ entry (env_of c.args.at.now) c.args.signal =
    c.index-entry.ensures ∙ entry-read (env_of c.args.at.now) c.args.signal _ _ writable.fits.many writable.first (signal-there _ c.args.signal writable.is_signal) in
    assigns-with names 3 c.args.signal c.args.wide low c.args.part c.args.off c.in_ok-slot.slot (env_of c.args.at.now) old new writable
    (subst (λ e. Gives Nothing 3 old new c.in_ok-slot.slot c.args.wide (λ b. written_in b old c.args.wide e low c.args.part c.args.off)) read c.in_ok-slot.ensures.gives)
