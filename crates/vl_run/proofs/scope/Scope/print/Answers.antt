use Rattle.std.proofs.Common.{map}
use Rattle.vl_design.specs.Formats as f
use Rattle.vl_design.specs.Trees.{arg_of}
use Rattle.vl_run.specs.Scopes.{scope_of}
use Rattle.vl_run.proofs.Tasking.{print-line, print-text}
use Rattle.vl_run.proofs.scope.Scope.print.Goals as goal

pub returns-in_ok-push-clause-does : goal.returns-in_ok-push-clause-does
returns-in_ok-push-clause-does g c =
    let text = rw c.deref.ensures.value at c.in_ok-push_arguments.ensures in
    rw c.if-newline.true
    (print-line (scope_of c.args.self.now) (f.pieces_from c.args.path.now 0 (map arg_of c.args.args.now)) c.args.m.now c.push.new.self c.push_arguments.new.printed.items c.requires.goes_on
    text c.in_ok-push.ensures.items)

pub returns-else-newline-clause-does : goal.returns-else-newline-clause-does
returns-else-newline-clause-does g c =
    let text = rw c.deref.ensures.value at c.in_ok-push_arguments.ensures in
    rw c.if-newline.false
    (print-text (scope_of c.args.self.now) (f.pieces_from c.args.path.now 0 (map arg_of c.args.args.now)) c.args.m.now c.push_arguments.new.printed c.requires.goes_on text)
