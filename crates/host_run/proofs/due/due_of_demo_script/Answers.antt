use Rattle.std.proofs.Common.{ap, Err}
use Rattle.host_form.specs.fab_io.specs.Memory.{files_of}
use Rattle.host_run.proofs.Dues.{due-summed, none-missed}
use Rattle.host_run.proofs.due.due_of_demo_script.Goals as goal

pub load-requires-clause-limits : goal.load-requires-clause-limits
load-requires-clause-limits g c = c.a_script_keeps_to_its_limits.ensures.limits c.requires.read.0 c.args.script.now c.requires.read.1

pub load-requires-clause-spelt : goal.load-requires-clause-spelt
load-requires-clause-spelt g c = c.words_of_a_script_are_spelt.ensures c.requires.read.0 c.args.script.now c.requires.read.1

pub returns-in-Ok-clause-summed : goal.returns-in-Ok-clause-summed
returns-in-Ok-clause-summed g c =
    let due = c.due_of_summary.ensures in
    let run = c.in_ok-reported-in-Ok.ensures in
    due-summed c.due_of_summary.result (files_of c.args.store.now.files) c.args.script.now c.in-Ok.loaded.items c.in_ok-reported-in-Ok.reported run.bays c.in-Ok.ensures.loaded run.report
    due.text due.bays

-- no read fails
pub unreachable-requires : goal.unreachable-requires
unreachable-requires g c =
    let why = c.in-Err-Unread.field-0-1 in
    none-missed (files_of c.args.store.now.files) c.args.script.now _ why c.requires.available (c.in-Err-Unread.ensures.missed _ why (ap Err c.in-Err-Unread.field-0-is))
