use Rattle.std.proofs.Common.{◌≡◌, ◌∙◌, sym, ℕ, true, arith, mod-eq_of_lt}
use Rattle.std.specs.Prelude.{◌==◌}
use Rattle.std.proofs.lemmas.Bool.Decides.{nat_tests}
use Rattle.ten_files.proofs.Bytes.{reads-none}
use Rattle.ten_files.proofs.reading.with_bytes.Goals as goal

none : (n : ℕ) → true ≡ (n == 0) → n ≡ 0
none n h = grind (arith, nat_tests)

pub returns-then-is_empty-clause-value : goal.returns-then-is_empty-clause-value
returns-then-is_empty-clause-value c =
    sym (mod-eq_of_lt c.args.bits.fits)
    ∙ reads-none c.args.bits.width c.args.bits.value c.args.got.now (none _ c.if-is_empty.ensures)
