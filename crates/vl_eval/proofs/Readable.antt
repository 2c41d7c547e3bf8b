-- Words below 2 to their widths.
use Rattle.std.proofs.Common.{◌≡◌, ◌<◌, ◌%◌, ◌^◌, ℕ, List, arith}
use Rattle.std.specs.Prelude.{slice_index, All}
use Rattle.std.proofs.Math.Nat.{mod-eq_of_lt}
use Rattle.std.proofs.lemmas.Grind.{common_steps}
use Rattle.std.proofs.lemmas.Nat.{pow_pos}
use Rattle.vl_design.specs.Syntax.{Row}
use Rattle.vl_design.specs.Width.{signal_form}
use Rattle.vl_design.specs.Value.{words_of}
use Rattle.vl_design.specs.Laws.{IsFine}
use Rattle.vl_eval.proofs.Widths.{form-width, called-there}

in-range : (P : ℕ → Type 0) (zero : P 0) (ws : List ℕ) (i : ℕ) → All P ws → P (slice_index ws i)
in-range P zero ws i h = grind (arith, common_steps)

pub word-small : (rows : List Row) (values : List (List ℕ)) (k i : ℕ) → IsFine rows values → slice_index (words_of values k) i % 2 ^ (signal_form rows k).width ≡ slice_index (words_of values k) i
word-small rows values k i f = mod-eq_of_lt (in-range (λ v. v < 2 ^ (signal_form rows k).width) (pow_pos (signal_form rows k).width) (words_of values k) i (f.range k))

pub ruleset operands = (form-width)

pub ruleset readable = (form-width, called-there)
