use Rattle.std.proofs.Common.{◌≤◌, length}
use Rattle.vl_tree.specs.Parsing as spec
use Rattle.vl_parse.proofs.PortNames.{NamesGoOn}
use Rattle.vl_parse.proofs.ports.port_names.Given as goal

abbrev pub invariant-each : goal.invariant-each
invariant-each l = record {
  reads : NamesGoOn l.reader.depth l.port l.rest (spec.port_names (spec.whole l.reader.depth) (spec.target l.reader.depth) l.reader.depth l.reader.depth l.fn.first l.fn.tokens);
  no_longer : length l.rest ≤ length l.fn.tokens;
}

abbrev pub decreases-each : goal.decreases-each
decreases-each l = length l.rest
