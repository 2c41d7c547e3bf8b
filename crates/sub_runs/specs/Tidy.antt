-- What stays so of a run of a table.
use Rattle.std.specs.Prelude.{◌≡◌, false, All}
use Rattle.vl_sites.specs.vl_design.specs.Syntax.{Flat}
use Rattle.vl_sites.specs.vl_design.specs.Laws.{IsFine}
use Rattle.sub_nodes.specs.Cycles.{Stage}
use Rattle.sub_runs.specs.Nets.{computed_at, RestIsZero}

pub record IsTidy (d : Flat) (i : Stage) : Type 0 where
  -- values are as the design's signals have them
  pub fine : IsFine d.rows i.state.values
  pub committed : IsFine d.rows i.committed
  -- no pending update is of a computed signal
  pub later : All (λ u. computed_at d.rows u.signal ≡ false) i.state.later
  -- each bit of a computed signal that no process drives is 0
  pub rest : RestIsZero d i.state.values
