-- Numbers of bytes.
use Rattle.std.proofs.Common.{◌≡◌, ◌≤◌, ◌<◌, ◌^◌, ◌*◌, ◌+◌, ◌∙◌, ap, ℕ, arith}
use Rattle.std.proofs.Math.Pow.{pow_mono}
use Rattle.std.proofs.Math.Pow.{pow-add}
use Rattle.std.proofs.lemmas.Grind.{common_steps}
use Rattle.std.proofs.lemmas.Int.Digits.{number_more}
use Rattle.vl_base.proofs.Numbers.{eight_more}
pub use Rattle.vl_base.proofs.Numbers.{byte_room}

-- one more byte behind a number of so many
pub byte_more : (v b i : ℕ) → v < 2 ^ (8 * i) → b < 256 → v * 256 + b < 2 ^ (8 * (i + 1))
byte_more v b i h k = let e = eight_more i in omega (arith, e)

pub ruleset bytes = (common_steps, byte_more, byte_room, number_more)
