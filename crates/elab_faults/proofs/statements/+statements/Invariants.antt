use Rattle.std.proofs.Common.{◌≡◌, map, drop}
use Rattle.elab_plain.specs.vl_flat.specs.Surface as x
use Rattle.vl_design.specs.Stops.{earliest}
use Rattle.elab_plain.specs.vl_flat.specs.Statements.{statements_faults, items_faults}
use Rattle.elab_plain.specs.SeenStatements.{seen_statement, statements_of, items_before}
use Rattle.elab_constant.specs.Seen.{seen_scope}
use Rattle.elab_faults.proofs.statements.+statements.Given as goal

abbrev pub invariant-statements_faults-loop-a : goal.invariant-statements_faults-loop-a
invariant-statements_faults-loop-a l =
    earliest l.all (statements_faults (seen_scope l.scope) (statements_of (map seen_statement (drop l.a-index l.parts))))
    ≡ earliest l.initial.all (statements_faults (seen_scope l.scope) (statements_of (map seen_statement l.parts)))

abbrev pub invariant-items_faults-loop-a : goal.invariant-items_faults-loop-a
invariant-items_faults-loop-a l =
    earliest l.all (items_faults (seen_scope l.scope) (items_before (drop l.a-index l.items) x.NoItems)) ≡ earliest l.initial.all (items_faults (seen_scope l.scope) (items_before l.items x.NoItems))
