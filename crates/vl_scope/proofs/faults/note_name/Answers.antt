use Rattle.std.proofs.Common.{◌||◌, ap, ◌∙◌}
use Rattle.std.specs.Str.{bytes_eq}
use Rattle.vl_scope.specs.Keys.{has}
use Rattle.vl_scope.proofs.Keys.{has-insert}
use Rattle.vl_scope.proofs.faults.note_name.Goals as goal

pub returns-clause-names : goal.returns-clause-names
returns-clause-names c = λ t.
    has-insert c.args.names.now c.insert.new.self c.as_slice.result c.in_ok-is_new.ensures.updates.0 t
    ∙ ap (λ name. has c.args.names.now t || bytes_eq t name) c.as_slice.ensures
