use Rattle.std.proofs.Common.{◌≤◌, length, codes}
use Rattle.vl_tree.specs.Parsers.{groups, is_word}
use Rattle.vl_tree.specs.Parsing as spec
use Rattle.vl_parse.proofs.Lists.{GroupsGoOn}
use Rattle.vl_parse.proofs.declarations.more_groups.Given as goal

abbrev pub invariant-each : goal.invariant-each
invariant-each l = record {
  reads : GroupsGoOn (is_word (codes "parameter")) (spec.group_head (spec.whole l.reader.depth) (spec.target l.reader.depth) l.reader.depth) (spec.group_grow (spec.whole l.reader.depth) (spec.target l.reader.depth) l.reader.depth) l.groups l.last l.rest (groups (is_word (codes "parameter")) (spec.group_head (spec.whole l.reader.depth) (spec.target l.reader.depth) l.reader.depth) (spec.group_grow (spec.whole l.reader.depth) (spec.target l.reader.depth) l.reader.depth) l.reader.depth l.fn.first l.fn.tokens);
  no_longer : length l.rest ≤ length l.fn.tokens;
}

abbrev pub decreases-each : goal.decreases-each
decreases-each l = length l.rest
