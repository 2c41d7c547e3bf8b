use Rattle.std.proofs.Common.{◌≡◌, sym, refl, subst, nat_lt, false, []}
use Rattle.std.proofs.lemmas.Result.{on_ok_weaker}
use Rattle.vl_design.specs.Functions.{scope_of}
use Rattle.vl_design.specs.Reads.{target_writes}
use Rattle.vl_design.specs.Sound.{IsSoundExp, IsSoundTarget}
use Rattle.vl_design.specs.Trees.{exp_of, target_of, flat_of}
use Rattle.vl_design.specs.Width.{Names, names_of}
use Rattle.cell_emit.specs.cell_form.specs.Views.{list_of}
use Rattle.cell_emit.specs.Envs.{env_of}
use Rattle.cell_emit.specs.Pendings.{slots_of}
use Rattle.cell_expr.specs.Bodies.{assignment}
use Rattle.cell_expr.specs.Counts.{body_cells}
use Rattle.cell_expr.proofs.Outside.{statement-outside, pending-outside, outer-scope, outer-body, outer-compiled}
use Rattle.cell_expr.proofs.Nets.{target-apart}
use Rattle.cell_expr.proofs.compile.assign.Goals as goal

pub assignment_at-requires-clause-functions : goal.assignment_at-requires-clause-functions
assignment_at-requires-clause-functions c = outer-compiled c.args.design.now c.room_of-room.result c.room_of-room.ensures.names c.requires.sound c.requires.functions

pub assignment_at-requires-clause-target : goal.assignment_at-requires-clause-target
assignment_at-requires-clause-target c = subst (λ (n : Names). IsSoundTarget n (target_of c.args.target.now)) (sym c.room_of-room.ensures.names) c.requires.target

pub assignment_at-requires-clause-source : goal.assignment_at-requires-clause-source
assignment_at-requires-clause-source c = subst (λ (n : Names). IsSoundExp n (exp_of c.args.source.now)) (sym c.room_of-room.ensures.names) c.requires.source

pub assignment_at-requires-clause-apart : goal.assignment_at-requires-clause-apart
assignment_at-requires-clause-apart c = subst (λ n. target_writes (λ k. nat_lt k n) (target_of c.args.target.now) ≡ false) (sym c.requires.first) (target-apart (target_of c.args.target.now))

pub returns-clause-does : goal.returns-clause-does
returns-clause-does c =
    let d = c.args.design.now in
    let room = c.room_of-room.result in
    let names = c.room_of-room.ensures.names in
    let a = assignment c.args.later (target_of c.args.target.now) (exp_of c.args.source.now) in
    on_ok_weaker c.assignment_at.result (λ h files. h files [])
    (statement-outside c.assignment_at.result _ (names_of (flat_of d)) _ (scope_of (flat_of d)) _ (body_cells (flat_of d)) a (λ path. a)
    c.args.off (env_of c.args.at.now) (env_of c.assignment_at.new.at) (list_of c.args.cells.now) (list_of c.assignment_at.new.cells) names (λ files. outer-scope d room files names) (outer-body d room names) (λ path. refl) c.assignment_at.ensures.does)

pub returns-clause-leaves : goal.returns-clause-leaves
returns-clause-leaves c =
    let d = c.args.design.now in
    let room = c.room_of-room.result in
    let names = c.room_of-room.ensures.names in
    let a = assignment c.args.later (target_of c.args.target.now) (exp_of c.args.source.now) in
    on_ok_weaker c.assignment_at.result (λ h files. h files [])
    (pending-outside c.assignment_at.result _ (names_of (flat_of d)) _ (scope_of (flat_of d)) a (λ path. a)
    c.args.off (env_of c.args.at.now) (slots_of c.args.pending.now) (slots_of c.assignment_at.new.pending) (list_of c.args.cells.now) (list_of c.assignment_at.new.cells) names (λ files. outer-scope d room files names) (λ path. refl) c.assignment_at.ensures.leaves)
