use Rattle.std.proofs.Common.{◌≡◌, take, map, length}
use Rattle.vl_design.specs.Seen.{func_of}
use Rattle.vl_sites.specs.Sites.{sites}
use Rattle.vl_check.specs.Tables.{calls_in, rows_of}
use Rattle.vl_check.proofs.calls_calls.table.Given as goal

abbrev pub invariant-loop-f : goal.invariant-loop-f
invariant-loop-f l = rows_of l.table.items ≡ map (λ f. calls_in (length l.funcs) (sites f.body)) (map func_of (take l.f-index l.funcs))
