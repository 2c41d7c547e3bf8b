use Rattle.std.proofs.Common.{◌++◌, ap, sym, map}
use Rattle.vl_design.specs.Tasks.{pieces_text}
use Rattle.vl_design.specs.Trees.{arg_of}
use Rattle.vl_eval.specs.Rooms.{sample_of}
use Rattle.vl_run.specs.Scopes.{scope_of}
use Rattle.vl_run.proofs.Pieces.{skip-some}
use Rattle.vl_run.proofs.scope.Scope.push_next.Goals as goal

pub push_argument-requires-clause-sound : goal.push_argument-requires-clause-sound
push_argument-requires-clause-sound g c = rw c.if-taken-eq0.true at c.requires.sound

pub returns-then-taken-eq0-clause-text : goal.returns-then-taken-eq0-clause-text
returns-then-taken-eq0-clause-text g c = rw c.if-taken-eq0.true c.push_argument.ensures.text

pub returns-else-taken-eq0-clause-text : goal.returns-else-taken-eq0-clause-text
returns-else-taken-eq0-clause-text g c =
    ap (λ ps. c.args.printed.now.items ++ pieces_text (scope_of c.args.self.now) (sample_of c.args.s.now) ps)
    (sym (skip-some c.args.path.now c.args.taken (arg_of c.args.first.now) (map arg_of c.args.rest.now) c.if-taken-eq0.false))

pub returns-else-taken-eq0-clause-sound : goal.returns-else-taken-eq0-clause-sound
returns-else-taken-eq0-clause-sound g c =
    rw (skip-some c.args.path.now c.args.taken (arg_of c.args.first.now) (map arg_of c.args.rest.now) c.if-taken-eq0.false) at c.requires.sound
