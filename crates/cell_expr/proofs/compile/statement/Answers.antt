use Rattle.std.proofs.Common.{◌≡◌, sym, subst, [], nat_lt, false}
use Rattle.vl_design.specs.Functions.{scope_of}
use Rattle.vl_design.specs.Reads.{stm_writes}
use Rattle.vl_design.specs.Sound.{IsSoundStm}
use Rattle.vl_design.specs.Trees.{stm_of, flat_of}
use Rattle.vl_design.specs.Width.{Names, names_of}
use Rattle.cell_emit.specs.cell_form.specs.Views.{list_of}
use Rattle.cell_emit.specs.Envs.{env_of}
use Rattle.cell_expr.specs.Bodies.{IsNet}
use Rattle.cell_expr.specs.Counts.{body_cells}
use Rattle.cell_expr.proofs.Outside.{statement-outside, outer-scope, outer-body, outer-compiled}
use Rattle.cell_expr.proofs.Nets.{net-path, net-apart}
use Rattle.cell_expr.proofs.compile.statement.Goals as goal

pub statement_at-requires-clause-functions : goal.statement_at-requires-clause-functions
statement_at-requires-clause-functions c = outer-compiled c.args.design.now c.room_of-room.result c.room_of-room.ensures.names c.requires.sound c.requires.functions

pub statement_at-requires-clause-net : goal.statement_at-requires-clause-net
statement_at-requires-clause-net c =
    let s = c.requires.statement in
    subst IsNet (net-path s.path [] c.args.a.now s.net) s.net

pub statement_at-requires-clause-sound : goal.statement_at-requires-clause-sound
statement_at-requires-clause-sound c =
    let s = c.requires.statement in
    subst (λ (n : Names). IsSoundStm n (stm_of [] c.args.a.now)) (sym c.room_of-room.ensures.names) (subst (IsSoundStm (names_of (flat_of c.args.design.now))) (net-path s.path [] c.args.a.now s.net) s.sound)

pub statement_at-requires-clause-apart : goal.statement_at-requires-clause-apart
statement_at-requires-clause-apart c =
    let s = c.requires.statement in
    let net : IsNet (stm_of [] c.args.a.now) = subst IsNet (net-path s.path [] c.args.a.now s.net) s.net in
    subst (λ n. stm_writes (λ k. nat_lt k n) (stm_of [] c.args.a.now) ≡ false) (sym c.requires.first) (net-apart (stm_of [] c.args.a.now) net)

pub returns-clause-does : goal.returns-clause-does
returns-clause-does c =
    let d = c.args.design.now in
    let room = c.room_of-room.result in
    let names = c.room_of-room.ensures.names in
    let a = c.args.a.now in
    let s = c.requires.statement in
    let net : IsNet (stm_of [] a) = subst IsNet (net-path s.path [] a s.net) s.net in
    statement-outside c.statement_at.result _ (names_of (flat_of d)) _ (scope_of (flat_of d)) _ (body_cells (flat_of d)) (stm_of [] a) (λ path. stm_of path a)
    c.args.off (env_of c.args.at.now) (env_of c.statement_at.new.at) (list_of c.args.cells.now) (list_of c.statement_at.new.cells) names (λ files. outer-scope d room files names) (outer-body d room names) (λ path. net-path [] path a net) c.statement_at.ensures.does
