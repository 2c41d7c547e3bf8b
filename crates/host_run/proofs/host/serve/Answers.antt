use Rattle.std.proofs.Common.{map, refl}
use Rattle.std.specs.String.{string_bytes}
use Rattle.host_run.specs.Due.{wrote, misused}
use Rattle.host_run.specs.Words.{command_of}
use Rattle.host_run.proofs.Parsing.{can-be-run, none-of}
use Rattle.host_run.proofs.Serving.{due-later, wrote-from, put-came}
use Rattle.host_run.proofs.host.serve.Goals as goal

pub returns-then-not-is_command : goal.returns-then-not-is_command
returns-then-not-is_command g c =
    wrote (misused refl (none-of (command_of (map string_bytes c.args.words.now)) c.if-not-is_command.ensures) c.usage.ensures c.requires refl refl)
    (put-came c.put.result c.put.ensures.whole c.put.ensures.front c.put.ensures.failed refl c.status_of.ensures)

pub due_for-requires-after_bounds : goal.due_for-requires-after_bounds
due_for-requires-after_bounds g c κs within = can-be-run (map string_bytes c.args.words.now) c.in-Ok.said c.in-Ok.ensures

pub returns-in-Ok-due_for : goal.returns-in-Ok-due_for
returns-in-Ok-due_for g c =
    let d = c.in-Ok-due_for.ensures in
    let w = c.write_due.ensures in
    rw w.bays (wrote (due-later _ _ _ _ _ _ _ w.faults w.absences w.missed (d.due _ c.in-Ok.ensures)) (wrote-from _ _ _ _ _ _ _ _ _ _ _ d.told d.faults w.wrote))
