use Rattle.std.proofs.Common.{◌≡◌, ◌-◌, []}
use Rattle.snap_form.specs.Reading.{files_at}
use Rattle.snap_form.proofs.reading.files_of.Given as goal

abbrev pub invariant-loop : goal.invariant-loop
invariant-loop l = files_at l.files (l.count - l.counter) l.least l.table.items l.rest ≡ files_at l.files l.count 0 [] l.left
