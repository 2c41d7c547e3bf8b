use Rattle.std.proofs.Common.{map}
use Rattle.vl_design.specs.Trees.{arg_of}
use Rattle.vl_eval.specs.Rooms.{sample_of}
use Rattle.vl_run.specs.Scopes.{scope_of}
use Rattle.vl_run.proofs.Pieces.{percent-item}
use Rattle.vl_run.proofs.scope.Scope.push_behind_percent.Goals as goal

pub push_letter-requires-clause-sound : goal.push_letter-requires-clause-sound
push_letter-requires-clause-sound g c =
    percent-item (scope_of c.args.self.now) (sample_of c.args.s.now) c.args.path.now c.args.byte (map arg_of c.args.args.now) c.if-byte-eq48.false c.if-byte-eq37.false c.if-is_path.ensures c.requires.sound
