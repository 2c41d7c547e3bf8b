use Rattle.vl_eval.specs.Rooms.{names_of}
use Rattle.vl_run.proofs.Inputs.{function-sound}
use Rattle.vl_run.proofs.scope.input_width.Goals as goal

pub width_of_input-requires : goal.width_of_input-requires
width_of_input-requires c = record { sound = function-sound (names_of c.args.room.now) c.args.room.now.funcs.now c.args.function _ c.requires.funs c.requires.there }
