use Rattle.std.proofs.Common.{codes}
use Rattle.vl_tree.specs.Parsers.{is_word}
use Rattle.vl_tree.specs.Parsing.{is_direction}
use Rattle.vl_parse.proofs.Lists.{first_next, second_next}
use Rattle.vl_parse.proofs.ports.begins_with_direction.Goals as goal

pub returns-then-begins_with_keyword : goal.returns-then-begins_with_keyword
unfolding is_direction
returns-then-begins_with_keyword c n = rw c.if-begins_with_keyword.true (first_next (is_word (codes "input")) (is_word (codes "output")) _ c.if-begins_with_keyword.ensures)

pub returns-else-begins_with_keyword : goal.returns-else-begins_with_keyword
unfolding is_direction
returns-else-begins_with_keyword c n = second_next (is_word (codes "input")) (is_word (codes "output")) _ _ c.if-begins_with_keyword.ensures c.begins_with_keyword-else-begins_with_keyword.ensures
