use Rattle.std.proofs.Common.{length}
use Rattle.fmt_text.proofs.item.+least_digits.Given as goal

abbrev pub decreases-least_digits : goal.decreases-least_digits
decreases-least_digits l = length l.digits.now
