use Rattle.std.proofs.Common.{◌≡◌, ℕ, ◌<◌, ◌||◌, false, length, get_or, take, nat_eq}
use Rattle.std.specs.List.{list_any}
use Rattle.vl_names.proofs.tops.mark_all.Given as goal

abbrev pub invariant-loop-step : goal.invariant-loop-step
invariant-loop-step l = record {
  same_length : length l.marks.items ≡ length l.initial.marks.items;
  marks : (k : ℕ) → k < length l.initial.marks.items → get_or l.marks.items k false ≡ (get_or l.initial.marks.items k false || list_any (nat_eq k) (take l.step-index l.steps));
}
