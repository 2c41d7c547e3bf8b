use Rattle.std.proofs.Common.{sym, ◌∙◌}
use Rattle.vl_lex.proofs.RunLaws.{parts_are}
use Rattle.vl_lex.proofs.numbers.digits_from.Goals as goal

pub returns-clause-parts : goal.returns-clause-parts
returns-clause-parts c =
    parts_are c.args.signed c.args.radix c.in_ok-first.first.now c.in_ok-first.more.now c.args.text.now c.split_at.result.0.now c.split_at.result.1.now c.run_length.result c.in_ok-first.ensures.cases.0 (sym c.is_first_digit.ensures ∙ c.if-not-is_first_digit.false) c.run_length.ensures.exact c.split_at.ensures.front c.split_at.ensures.back
