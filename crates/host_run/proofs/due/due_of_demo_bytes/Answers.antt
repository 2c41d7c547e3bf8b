use Rattle.std.proofs.Common.{subst}
use Rattle.host_form.specs.fab_io.specs.Memory.{files_of}
use Rattle.host_files.specs.Reading.{IsAvailable}
use Rattle.host_run.proofs.Dues.{due-summed-of, one-script}
use Rattle.host_run.proofs.due.due_of_demo_bytes.Goals as goal

pub due_of_demo_script-requires-clause-available : goal.due_of_demo_script-requires-clause-available
due_of_demo_script-requires-clause-available g c κs within =
    subst (λ s. IsAvailable (files_of c.args.store.now.files) s) (one-script c.args.bytes.now c.requires.0 c.in-Ok.script c.requires.1 c.in-Ok.ensures.read) c.requires.2

pub returns-in-Ok-clause-summed : goal.returns-in-Ok-clause-summed
returns-in-Ok-clause-summed g c =
    due-summed-of c.due_of_demo_script.result (files_of c.args.store.now.files) c.in-Ok.script c.args.bytes.now c.in-Ok.ensures.read c.due_of_demo_script.ensures.summed
