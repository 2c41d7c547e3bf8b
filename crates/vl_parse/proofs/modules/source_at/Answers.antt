use Rattle.std.proofs.Common.{sym}
use Rattle.vl_tree.specs.Parsing.{source}
use Rattle.vl_parse.proofs.Whole.{all_passed, all_left, all_read}
use Rattle.vl_parse.proofs.modules.source_at.Goals as goal

pub returns-in_err-source : goal.returns-in_err-source
unfolding source
returns-in_err-source c = record { reads = all_passed _ _ _ c.from_residual.ensures.1 c.in_err-source.ensures.reads }

pub returns-then-not-is_empty : goal.returns-then-not-is_empty
unfolding source
returns-then-not-is_empty c = record { reads = all_left _ _ _ c.in_ok-source.ensures.reads (sym c.if-not-is_empty.ensures) }

pub returns : goal.returns
unfolding source
returns c = record { reads = all_read _ _ _ c.in_ok-source.ensures.reads (sym c.if-not-is_empty.ensures) }
