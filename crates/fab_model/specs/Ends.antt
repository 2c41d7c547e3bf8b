-- Where runs end (own).
use Rattle.std.specs.Prelude.{ℕ, ◌≤◌}
use Rattle.ten_core.specs.vl_design.specs.declared.design.End.{End}
use Rattle.ten_core.specs.vl_design.specs.Alone as alone
use Rattle.ten_core.specs.vl_design.specs.Alone.{Ends}
use Rattle.ten_core.specs.vl_design.specs.Queue.{Queue}

-- the run doesn't end before tick k
abbrev pub EndsNotBefore : alone.Origin → ℕ → Type 0
EndsNotBefore o k = (j : ℕ) (end : End) (q : Queue) → Ends o j end q → k ≤ j
