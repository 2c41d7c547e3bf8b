use Rattle.std.proofs.Common.{◌≡◌, ◌+◌, ◌∙◌, ◌++◌, ◌∷◌, [], ap, sym, subst, map, take}
use Rattle.std.proofs.lemmas.List.{map_more}
use Rattle.vl_design.specs.Trees.{flat_of}
use Rattle.cell_emit.specs.cell_form.specs.Views.{list_of}
use Rattle.cell_emit.proofs.Frames.{grows-then}
use Rattle.cell_emit.specs.Envs.{env_of}
use Rattle.cell_emit.specs.Pendings.{slots_of}
use Rattle.ten_form.specs.sub_split.specs.declared.table.Piece.{Piece}
use Rattle.ten_form.specs.sub_split.specs.Views.{piece_view}
use Rattle.cell_states.specs.Segments.{DoesAll}
use Rattle.cell_states.proofs.Stretching.{all-then}
use Rattle.cell_states.proofs.stretch.stretch.Goals as goal

pub loop-a-preserved : goal.loop-a-preserved
loop-a-preserved c =
    let d = flat_of c.args.design.now in
    let xs = c.args.pieces.now in
    let n = c.loop-a.a-index in
    let x = c.a-item.result in
    let at0 = env_of c.args.begun.now.at in
    let p0 = slots_of c.args.begun.now.pending in
    let l0 = list_of c.args.cells.now in
    let l1 = list_of c.loop-a.cells in
    let l2 = list_of c.piece.new.cells in
    let more : map piece_view (take n xs) ++ piece_view x ∷ [] ≡ map piece_view (take (n + 1) xs) =
    ap (λ (y : Piece). map piece_view (take n xs) ++ piece_view y ∷ []) c.a-item.is ∙ sym (map_more piece_view xs n x c.loop-a-test.true) in
    record {
      grows = grows-then l0 l1 l2 c.loop-a.invariant.grows c.in_ok-piece.ensures.grows;
      does = subst (λ ys. DoesAll d ys at0 (env_of c.piece.new.begun.at) p0 (slots_of c.piece.new.begun.pending) l0 l2) more
          (all-then d (map piece_view (take n xs)) (piece_view x ∷ []) at0 (env_of c.loop-a.begun.at) (env_of c.piece.new.begun.at) p0 (slots_of c.loop-a.begun.pending) (slots_of c.piece.new.begun.pending) l0 l1 l2 c.loop-a.invariant.does c.in_ok-piece.ensures.does);
    }
