use Rattle.std.proofs.Common.{◌≡◌, ◌+◌, ℕ, slice_set, map}
use Rattle.std.specs.Prelude.{All}
use Rattle.vl_design.specs.Plainly.{stm}
use Rattle.vl_design.specs.Seen.{stm_of}
use Rattle.vl_design.specs.Trees.{exp_of}
use Rattle.std.proofs.Common.{[]}
use Rattle.vl_loops.specs.Rooms.{rows_of, scope_of, state_of, AreNumbers}
use Rattle.vl_loops.proofs.Turning.{Leads}
use Rattle.vl_loops.proofs.header.all_turns.Given as goal

abbrev pub invariant-loop-turn : goal.invariant-loop-turn
invariant-loop-turn l = record {
  numbers : AreNumbers (rows_of l.room) l.numbers;
  others : (v : ℕ) → slice_set l.initial.numbers l.variable v ≡ slice_set l.numbers l.variable v;
  fits : All (λ v. AreNumbers (rows_of l.room) (slice_set l.initial.numbers l.variable v)) l.all.items;
  left : ℕ;
  sum : left + l.turn ≡ 4096;
  leads : Leads (scope_of l.room) (exp_of l.test) (stm [] (stm_of l.step)) 4096 (state_of l.initial.numbers) (map (λ v. state_of (slice_set l.initial.numbers l.variable v)) l.all.items) left (state_of l.numbers);
}
