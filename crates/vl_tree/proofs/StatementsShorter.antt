-- Statements and their parts take tokens.
use Rattle.std.proofs.Common.{ℕ, ◌<◌, ◌≤◌, length, List, Bool, arith}
use Rattle.vl_tree.specs.declared.token.Token.{Token}
use Rattle.vl_tree.specs.declared.tree.Expression.{Expression}
use Rattle.vl_tree.specs.declared.tree.SystemArgument.{SystemArgument}
use Rattle.vl_tree.specs.declared.tree.SystemCall.{SystemCall}
use Rattle.vl_tree.specs.declared.source_tree.Statement.{Statement}
use Rattle.vl_tree.specs.declared.source_tree.CaseItem.{CaseItem}
use Rattle.vl_tree.specs.declared.source_tree.Assignment.{Assignment}
use Rattle.vl_tree.specs.Bounds.{Bounds}
use Rattle.vl_tree.specs.Lists.{ReadsOptional, ReadsList, ReadsParenthesized, ReadsMarkOrNothing}
use Rattle.vl_tree.specs.Statements.{ReadsWhole, ReadsLabel, ReadsAssignment, ReadsWholeArgument, ReadsSystemTask, ReadsStatement, ReadsInside, ReadsStatements, ReadsCaseItem, ReadsMoreCaseItems}
use Rattle.vl_tree.proofs.Wholes.{shorter_whole, shorter_target}

pub shorter_wholes : {b : Bounds} {es : List Expression} {ts rest : List Token} → ReadsList (ReadsWhole b) es ts rest → length rest < length ts
shorter_wholes (ReadsList.last f) = shorter_whole f
shorter_wholes (ReadsList.further f h g) = omega (arith, shorter_whole f, shorter_wholes g)

pub shorter_condition : {b : Bounds} {e : Expression} {ts rest : List Token} → ReadsParenthesized (ReadsWhole b) e ts rest → length rest < length ts
shorter_condition (ReadsParenthesized.parenthesized h d i) = omega (arith, shorter_whole d)

pub shorter_assignment : {b : Bounds} {a : Assignment} {ts rest : List Token} → ReadsAssignment b a ts rest → length rest < length ts
shorter_assignment (ReadsAssignment.assignment d h e) = omega (arith, shorter_target d, shorter_whole e)

pub no_longer_argument : {b : Bounds} {a : SystemArgument} {ts rest : List Token} → ReadsWholeArgument b a ts rest → length rest ≤ length ts
no_longer_argument (ReadsWholeArgument.argument ReadsOptional.nothing) = omega arith
no_longer_argument (ReadsWholeArgument.argument (ReadsOptional.something d)) = omega (arith, shorter_whole d)

no_longer_arguments : {b : Bounds} {es : List SystemArgument} {ts rest : List Token} → ReadsList (ReadsWholeArgument b) es ts rest → length rest ≤ length ts
no_longer_arguments (ReadsList.last d) = no_longer_argument d
no_longer_arguments (ReadsList.further d h f) = omega (arith, no_longer_argument d, no_longer_arguments f)

pub shorter_task : {b : Bounds} {e : SystemCall} {ts rest : List Token} → ReadsSystemTask b e ts rest → length rest < length ts
shorter_task (ReadsSystemTask.system h ReadsOptional.nothing) = omega arith
shorter_task (ReadsSystemTask.system h (ReadsOptional.something (ReadsParenthesized.parenthesized i d j))) = omega (arith, no_longer_arguments d)

pub no_longer_label : {ts rest : List Token} → ReadsLabel ts rest → length rest ≤ length ts
no_longer_label ReadsLabel.no_label = omega arith
no_longer_label (ReadsLabel.label h i) = omega arith

mutual
  pub shorter_statement : {b : Bounds} {d : ℕ} {a : Statement} {ts rest : List Token} → ReadsStatement b d a ts rest → length rest < length ts
  shorter_statement (ReadsStatement.statement h f) = shorter_inside f

  pub shorter_inside : {b : Bounds} {d : ℕ} {a : Statement} {ts rest : List Token} → ReadsInside b d a ts rest → length rest < length ts
  shorter_inside (ReadsInside.null h) = omega arith
  shorter_inside (ReadsInside.block h l f i) = omega (arith, no_longer_label l, no_longer_statements f)
  shorter_inside (ReadsInside.when h e f free) = omega (arith, shorter_condition e, shorter_statement f)
  shorter_inside (ReadsInside.when_else h e f i g) = omega (arith, shorter_condition e, shorter_statement f, shorter_statement g)
  shorter_inside (ReadsInside.cases h e f g i) = omega (arith, shorter_condition e, shorter_case f, no_longer_cases g)
  shorter_inside (ReadsInside.loop h i a j e p q r f) = omega (arith, shorter_assignment a, shorter_whole e, shorter_assignment q, shorter_statement f)
  shorter_inside (ReadsInside.repeat h e f) = omega (arith, shorter_condition e, shorter_statement f)
  shorter_inside (ReadsInside.assign v h e i) = omega (arith, shorter_target v, shorter_whole e)
  shorter_inside (ReadsInside.task f h) = omega (arith, shorter_task f)

  pub no_longer_statements : {b : Bounds} {d : ℕ} {es : List Statement} {ts rest : List Token} → ReadsStatements b d es ts rest → length rest ≤ length ts
  no_longer_statements ReadsStatements.no_statement = omega arith
  no_longer_statements (ReadsStatements.a_statement f g) = omega (arith, shorter_statement f, no_longer_statements g)

  pub shorter_case : {b : Bounds} {d : ℕ} {may after : Bool} {a : CaseItem} {ts rest : List Token} → ReadsCaseItem b d may after a ts rest → length rest < length ts
  shorter_case (ReadsCaseItem.labels es h f) = omega (arith, shorter_wholes es, shorter_statement f)
  shorter_case (ReadsCaseItem.default h ReadsMarkOrNothing.no_mark f) = omega (arith, shorter_statement f)
  shorter_case (ReadsCaseItem.default h (ReadsMarkOrNothing.a_mark i) f) = omega (arith, shorter_statement f)

  pub no_longer_cases : {b : Bounds} {d : ℕ} {may : Bool} {es : List CaseItem} {ts rest : List Token} → ReadsMoreCaseItems b d may es ts rest → length rest ≤ length ts
  no_longer_cases ReadsMoreCaseItems.no_item = omega arith
  no_longer_cases (ReadsMoreCaseItems.an_item f g) = omega (arith, shorter_case f, no_longer_cases g)
