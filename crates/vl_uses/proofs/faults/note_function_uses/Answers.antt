use Rattle.std.proofs.Common.{◌∙◌, ap}
use Rattle.vl_scope.specs.Declarations as scope
use Rattle.vl_uses.proofs.faults.note_function_uses.Goals as goal

pub note_declared_uses-requires : goal.note_declared_uses-requires
note_declared_uses-requires c = ap scope.all_seen c.as_slice.ensures.value ∙ c.in_ok-declarations.ensures
