use Rattle.vl_scope.specs.Declarations as scope
use Rattle.vl_uses.proofs.Sites.{known-seen}
use Rattle.vl_uses.proofs.faults.note_declared_uses.Goals as goal

pub note_inner_uses-requires-clause-inner : goal.note_inner_uses-requires-clause-inner
note_inner_uses-requires-clause-inner c = known-seen c.in_ok-inner.inner _ (scope.function_declarations c.args.function.now) c.in_ok-inner.ensures c.requires
