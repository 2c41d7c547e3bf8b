use Rattle.std.proofs.Common.{◌≡◌, ◌<◌, ℕ, get_or, length}
use Rattle.vl_design.specs.declared.sized.SizedExpr.{SizedExpr}
use Rattle.vl_design.specs.Sized.{sized_of}
use Rattle.vl_width.specs.Read.{each_at}
use Rattle.vl_width.proofs.reading.+read.Given as goal

abbrev pub invariant-read_each-loop-i : goal.invariant-read_each-loop-i
invariant-read_each-loop-i l = record {
  unvisited : goal.unvisited-read_each-loop-i l;
  many : length l.xs.items ≡ length l.initial.xs.items;
  visited : (k : ℕ) (d : SizedExpr) → k < l.i → sized_of (get_or l.xs.items k d) ≡ each_at (sized_of (get_or l.initial.xs.items k d));
}
