use Rattle.std.proofs.Common.{◌≡◌, length, map}
use Rattle.vl_tree.specs.MarksOfGrammar.{found_in}
use Rattle.vl_tree.proofs.steps.found_in.Given as goal

abbrev pub invariant-loop-table : goal.invariant-loop-table
invariant-loop-table g l = found_in (map (λ k. (k.0.now, k.1)) l.table) l.bytes ≡ found_in (map (λ k. (k.0.now, k.1)) l.initial.table) l.bytes

abbrev pub decreases-loop-table : goal.decreases-loop-table
decreases-loop-table g l = length l.table
