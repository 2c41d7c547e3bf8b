use Rattle.vl_scope.specs.Declarations as scope
use Rattle.vl_uses.proofs.Sites.{known-seen}
use Rattle.vl_uses.proofs.faults.note_declared_module.Goals as goal

pub returns : goal.returns
returns c = λ none. c.note_module_uses.ensures (known-seen c.in_ok-outer.outer _ (scope.declarations c.args.tree.now) c.in_ok-outer.ensures c.requires.declared) none
