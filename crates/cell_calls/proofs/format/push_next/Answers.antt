use Rattle.std.proofs.Common.{◌-◌, map}
use Rattle.vl_design.specs.Formats.{pieces_from}
use Rattle.vl_design.specs.Trees.{arg_of, flat_of}
use Rattle.cell_emit.specs.cell_form.specs.Views.{list_of}
use Rattle.cell_emit.specs.Envs.{env_of}
use Rattle.cell_calls.proofs.Formatting.{skip-some}
use Rattle.cell_calls.proofs.Walking.{walked-none}
use Rattle.cell_calls.proofs.format.push_next.Goals as goal

pub push_argument-requires-clause-sound : goal.push_argument-requires-clause-sound
push_argument-requires-clause-sound c = rw c.if-taken-eq0.true at c.requires.sound

pub returns-then-taken-eq0-clause-walked : goal.returns-then-taken-eq0-clause-walked
returns-then-taken-eq0-clause-walked c = rw c.if-taken-eq0.true c.push_argument.ensures.walked

pub returns-else-taken-eq0-clause-walked : goal.returns-else-taken-eq0-clause-walked
returns-else-taken-eq0-clause-walked c =
    rw (skip-some c.args.site.path.now c.args.taken (arg_of c.args.first.now) (map arg_of c.args.rest.now) c.if-taken-eq0.false)
    (walked-none (flat_of c.args.site.design.now) (env_of c.args.site.at.now) (pieces_from c.args.site.path.now (c.args.taken - 1) (map arg_of c.args.rest.now)) c.args.display.now (list_of c.args.cells.now))
