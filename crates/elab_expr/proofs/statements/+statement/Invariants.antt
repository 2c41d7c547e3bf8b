use Rattle.std.proofs.Common.{◌≡◌, map, take}
use Rattle.elab_plain.specs.vl_flat.specs.Surface as x
use Rattle.elab_plain.specs.vl_flat.specs.Statements as spec
use Rattle.vl_design.specs.Seen.{stm_of}
use Rattle.elab_plain.specs.SeenStatements.{items_before}
use Rattle.elab_constant.specs.Seen.{seen_scope}
use Rattle.elab_expr.specs.Walked as n
use Rattle.elab_expr.proofs.statements.+statement.Given as goal

abbrev pub invariant-statements-loop-a : goal.invariant-statements-loop-a
invariant-statements-loop-a l = map stm_of l.all.items ≡ map (n.seen_stm (seen_scope l.scope)) (take l.a-index l.parts)

abbrev pub invariant-case_items-loop-one : goal.invariant-case_items-loop-one
invariant-case_items-loop-one l = (o : x.CaseItems) → n.items_with l.all.items (spec.case_items (seen_scope l.scope) l.wild o) ≡ spec.case_items (seen_scope l.scope) l.wild (items_before (take l.one-index l.items) o)
