use Rattle.std.proofs.Common.{◌≤◌, length}
use Rattle.vl_tree.specs.Parsers.{groups}
use Rattle.vl_tree.specs.Parsing as spec
use Rattle.vl_parse.proofs.Lists.{GroupsGoOn}
use Rattle.vl_parse.proofs.ports.more_ports.Given as goal

abbrev pub invariant-each : goal.invariant-each
invariant-each l = record {
  reads : GroupsGoOn (spec.is_direction (spec.whole l.reader.depth) (spec.target l.reader.depth) l.reader.depth) (spec.port_head (spec.whole l.reader.depth) (spec.target l.reader.depth) l.reader.depth) (spec.port_grow (spec.whole l.reader.depth) (spec.target l.reader.depth) l.reader.depth) l.ports l.last l.rest (groups (spec.is_direction (spec.whole l.reader.depth) (spec.target l.reader.depth) l.reader.depth) (spec.port_head (spec.whole l.reader.depth) (spec.target l.reader.depth) l.reader.depth) (spec.port_grow (spec.whole l.reader.depth) (spec.target l.reader.depth) l.reader.depth) l.reader.depth l.fn.first l.fn.tokens);
  no_longer : length l.rest ≤ length l.fn.tokens;
}

abbrev pub decreases-each : goal.decreases-each
decreases-each l = length l.rest
