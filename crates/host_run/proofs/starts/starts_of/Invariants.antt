use Rattle.std.proofs.Common.{◌≡◌, ◌≤◌, List, ◌++◌, length, drop}
use Rattle.std.specs.Prelude.{All}
use Rattle.host_judge.specs.ten_core.specs.declared.origin.Origin.{Origin}
use Rattle.fab_rounds.specs.ten_shell.specs.Shells.{CanRunOn}
use Rattle.host_run.specs.Made.{AreLoadedOn}
use Rattle.host_run.proofs.starts.starts_of.Given as goal

abbrev pub invariant-loop-origin : goal.invariant-loop-origin
invariant-loop-origin l = record {
  can : All CanRunOn l.origins.items;
  few : length l.origins.items ≤ 64;
  rest : List Origin;
  all : l.fn.origins.items ≡ l.origins.items ++ rest;
  loaded : AreLoadedOn (length l.origins.items) (drop (length l.origins.items) l.fabrics) rest l.starts.items;
}

abbrev pub decreases-loop-origin : goal.decreases-loop-origin
decreases-loop-origin l = length l.origins.items
