use Rattle.std.proofs.Common.{◌≡◌, ◌≤◌, ◌++◌, ◌-◌, ◌*◌, ◌/◌, ◌^◌}
use Rattle.snap_form.specs.Spelling.{big_endian}
use Rattle.snap_form.proofs.writing.put_number.Given as goal

abbrev pub invariant-loop-place : goal.invariant-loop-place
invariant-loop-place l = (l.place ≤ l.n) × (l.out.items ≡ l.initial.out.items ++ big_endian l.place (l.number / 2 ^ (8 * (l.n - l.place))))
