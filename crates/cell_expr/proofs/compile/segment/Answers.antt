use Rattle.std.proofs.Common.{◌≡◌, ◌++◌, ◌∙◌, sym, ap, subst, [], nat_lt, false, length}
use Rattle.std.proofs.lemmas.Result.{on_ok_weaker}
use Rattle.vl_design.specs.Functions.{scope_of}
use Rattle.vl_design.specs.Reads.{stm_writes}
use Rattle.vl_design.specs.Sound.{IsSoundStm}
use Rattle.vl_design.specs.Syntax.{Stm}
use Rattle.vl_design.specs.Trees.{stm_of, flat_of}
use Rattle.vl_design.specs.Width.{Names, names_of}
use Rattle.cell_emit.specs.cell_form.specs.Views.{list_of}
use Rattle.cell_emit.specs.Envs.{env_of}
use Rattle.cell_emit.specs.Pendings.{slots_of, memories_of}
use Rattle.cell_expr.specs.Bodies.{IsSegment, IsAny, CanWait}
use Rattle.cell_expr.specs.Counts.{body_cells}
use Rattle.cell_emit.specs.vl_sites.specs.Stored.{stored_words}
use Rattle.cell_expr.proofs.Outside.{statement-outside, pending-outside, outer-scope, outer-body, outer-compiled}
use Rattle.cell_expr.proofs.Nets.{any-path, segment-apart, segment-weaker}
use Rattle.cell_expr.proofs.compile.segment.Goals as goal

pub segment_at-requires-clause-functions : goal.segment_at-requires-clause-functions
segment_at-requires-clause-functions c = outer-compiled c.args.design.now c.room_of-room.result c.room_of-room.ensures.names c.requires.sound c.requires.functions

pub segment_at-requires-clause-segment : goal.segment_at-requires-clause-segment
segment_at-requires-clause-segment c =
    let s = c.requires.statement in
    let n = length c.args.pending.now.update.items in
    let any = subst (IsSegment IsAny) (any-path IsAny s.path [] c.args.a.now s.segment) s.segment in
    subst (λ (m : Names). IsSegment (CanWait m n) (stm_of [] c.args.a.now)) (sym c.room_of-room.ensures.names)
    (segment-weaker IsAny (CanWait (names_of (flat_of c.args.design.now)) n) (λ t h. c.requires.many) (stm_of [] c.args.a.now) any)

pub segment_at-requires-clause-sound : goal.segment_at-requires-clause-sound
segment_at-requires-clause-sound c =
    let s = c.requires.statement in
    subst (λ (n : Names). IsSoundStm n (stm_of [] c.args.a.now)) (sym c.room_of-room.ensures.names)
    (subst (IsSoundStm (names_of (flat_of c.args.design.now))) (any-path IsAny s.path [] c.args.a.now s.segment) s.sound)

pub segment_at-requires-clause-apart : goal.segment_at-requires-clause-apart
segment_at-requires-clause-apart c =
    let s = c.requires.statement in
    let any = subst (IsSegment IsAny) (any-path IsAny s.path [] c.args.a.now s.segment) s.segment in
    subst (λ n. stm_writes (λ k. nat_lt k n) (stm_of [] c.args.a.now) ≡ false) (sym c.requires.first) (segment-apart IsAny (stm_of [] c.args.a.now) any)

pub returns-clause-does : goal.returns-clause-does
returns-clause-does c =
    let d = c.args.design.now in
    let room = c.room_of-room.result in
    let names = c.room_of-room.ensures.names in
    let a = c.args.a.now in
    let s = c.requires.statement in
    let any : IsSegment IsAny (stm_of [] a) = subst (IsSegment IsAny) (any-path IsAny s.path [] a s.segment) s.segment in
    statement-outside c.segment_at.result _ (names_of (flat_of d)) _ (scope_of (flat_of d)) _ (body_cells (flat_of d)) (stm_of [] a) (λ path. stm_of path a)
    c.args.off (env_of c.args.at.now) (env_of c.segment_at.new.at) (list_of c.args.cells.now) (list_of c.segment_at.new.cells) names (λ files. outer-scope d room files names) (outer-body d room names) (λ path. any-path IsAny [] path a any) c.segment_at.ensures.does

pub returns-clause-leaves : goal.returns-clause-leaves
returns-clause-leaves c =
    let d = c.args.design.now in
    let room = c.room_of-room.result in
    let names = c.room_of-room.ensures.names in
    let a = c.args.a.now in
    let s = c.requires.statement in
    let any : IsSegment IsAny (stm_of [] a) = subst (IsSegment IsAny) (any-path IsAny s.path [] a s.segment) s.segment in
    pending-outside c.segment_at.result _ (names_of (flat_of d)) _ (scope_of (flat_of d)) (stm_of [] a) (λ path. stm_of path a)
    c.args.off (env_of c.args.at.now) (slots_of c.args.pending.now) (slots_of c.segment_at.new.pending) (list_of c.args.cells.now) (list_of c.segment_at.new.cells) names (λ files. outer-scope d room files names) (λ path. any-path IsAny [] path a any) c.segment_at.ensures.leaves

pub returns-clause-sites : goal.returns-clause-sites
returns-clause-sites c =
    let a = c.args.a.now in
    let s = c.requires.statement in
    let any : IsSegment IsAny (stm_of [] a) = subst (IsSegment IsAny) (any-path IsAny s.path [] a s.segment) s.segment in
    let ms = memories_of c.args.pending.now.sites.items in
    let ns = memories_of c.segment_at.new.pending.sites.items in
    on_ok_weaker c.segment_at.result (λ (e : ns ≡ ms ++ stored_words (stm_of [] a)) path. e ∙ ap (λ (z : Stm). ms ++ stored_words z) (any-path IsAny [] path a any)) c.segment_at.ensures.sites
