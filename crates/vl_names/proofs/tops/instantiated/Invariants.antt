use Rattle.std.proofs.Common.{◌≡◌, ℕ, ◌<◌, false, length, get_or, take, nat_eq}
use Rattle.std.specs.List.{list_any}
use Rattle.vl_names.proofs.tops.instantiated.Given as goal

abbrev pub invariant-loop-steps : goal.invariant-loop-steps
invariant-loop-steps l = record {
  same_length : length l.marks.items ≡ length l.graph;
  marks : (k : ℕ) → k < length l.graph → get_or l.marks.items k false ≡ list_any (list_any (nat_eq k)) (take l.steps-index l.graph);
}
