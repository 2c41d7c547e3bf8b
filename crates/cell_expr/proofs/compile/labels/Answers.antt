use Rattle.vl_design.specs.Trees.{exps_of}
use Rattle.vl_design.specs.Width.{Names}
use Rattle.std.proofs.Common.{sym, subst}
use Rattle.vl_design.specs.Sound.{AreSound}
use Rattle.vl_run.specs.Cases.{AreWithin}
use Rattle.cell_emit.specs.cell_form.specs.Views.{list_of}
use Rattle.cell_emit.specs.Envs.{env_of}
use Rattle.cell_emit.proofs.Newest.{ok-gives}
use Rattle.cell_expr.proofs.Outside.{compares-outside, outer-scope, outer-body, outer-compiled}
use Rattle.cell_expr.proofs.compile.labels.Goals as goal

pub labels_at-requires-clause-functions : goal.labels_at-requires-clause-functions
labels_at-requires-clause-functions c = outer-compiled c.args.design.now c.room_of-room.result c.room_of-room.ensures.names c.requires.sound c.requires.functions

pub labels_at-requires-clause-labels : goal.labels_at-requires-clause-labels
labels_at-requires-clause-labels c = subst (λ (n : Names). AreSound n (exps_of c.args.labels.now)) (sym c.room_of-room.ensures.names) c.requires.labels

pub labels_at-requires-clause-within : goal.labels_at-requires-clause-within
labels_at-requires-clause-within c = subst (λ (n : Names). AreWithin n c.args.c.width (exps_of c.args.labels.now)) (sym c.room_of-room.ensures.names) c.requires.within

pub returns-clause-compares : goal.returns-clause-compares
returns-clause-compares c =
    let d = c.args.design.now in
    let room = c.room_of-room.result in
    let names = c.room_of-room.ensures.names in
    ok-gives c.labels_at.result _ _
    (λ r h files. compares-outside _ _ _ _ _ _ (exps_of c.args.labels.now) c.args.c c.args.subject c.args.rest r (env_of c.args.at.now) (list_of c.args.cells.now) (list_of c.labels_at.new.cells) names (outer-scope d room files names) (outer-body d room names) (h files))
    c.labels_at.ensures.compares
