-- Nodes of a tenant's design behind time zero's wave are compiled, and its calls stand apart.
use Rattle.std.proofs.Common.{◌≡◌, ℕ, Bool, true, false, List, [], ◌∷◌, map, take, Some, refl, sym, ap, ◌∙◌, subst}
use Rattle.std.specs.Prelude.{All, ◌||◌, ◌==◌, slice_get}
use Rattle.std.specs.List.{list_any}
use Rattle.std.proofs.lemmas.Bool.{eqb-true}
use Rattle.std.proofs.lemmas.List.Elements.{All-head, All-tail, All-nil, All-cons}
use Rattle.ten_core.specs.vl_design.specs.Syntax.{Task, Stm, Flat}
use Rattle.ten_core.specs.vl_design.specs.Sound.{AreSound}
use Rattle.ten_core.specs.vl_design.specs.Trees.{exps_of}
use Rattle.ten_core.specs.vl_design.specs.Width.{names_of}
use Rattle.ten_core.specs.vl_design.specs.Laws.{can_act}
use Rattle.sub_split.specs.sub_nodes.specs.Nodes as nodes
use Rattle.sub_split.specs.sub_nodes.specs.Nodes.{Go, Branch, Switch, Commit, Run, Trap, Apply}
use Rattle.sub_split.specs.sub_nodes.specs.Code.{table_of}
use Rattle.sub_split.specs.sub_nodes.specs.Cycles.{is_trap}
use Rattle.sub_split.specs.sub_nodes.specs.Early.{next_of, early_from}
use Rattle.sub_split.specs.sub_nodes.proofs.Calling.{IsNoGo, no_call_next}
use Rattle.sub_split.specs.declared.table.Piece.{Piece}
use Rattle.sub_split.specs.declared.table.Piece.TheVariants as p
use Rattle.sub_split.specs.declared.table.Segment.{Segment}
use Rattle.sub_split.specs.declared.table.Way.{Way}
use Rattle.sub_split.specs.declared.table.WayOn.TheVariants as w
use Rattle.sub_split.specs.declared.table.Node.{Node}
use Rattle.sub_split.specs.declared.table.Node.TheVariants as v
use Rattle.sub_split.specs.Views.{piece_view, segment_view, way_view, node_view}
use Rattle.sub_runs.specs.Memories.{memory_at, stm_sets}
use Rattle.ten_core.specs.ten_form.specs.Banks.{cell_nodes}
use Rattle.cell_states.specs.Pieces.{IsCellPiece, IsCellNode}
use Rattle.cell_states.specs.Designs.{IsCellDesign}
use Rattle.ten_core.specs.ten_form.specs.Paired.{CallsStandApart}
use Rattle.ten_make.specs.Designs.{IsTenantDesign}
use Rattle.ten_make.proofs.Plain.{plain, segment}
use Rattle.ten_make.proofs.Parts.{Meets, IsPart, nodes_meet}
use Rattle.ten_make.proofs.Late.{map-take, among, SetsNone, LeavesMemories, late-nodes}

all_of : {X Y : Type 0} (P : Y → Type 0) (Q : X → Type 0) (f : X → Y) → ((x : X) → P (f x) → Q x) → (xs : List X) → All P (map f xs) → All Q xs
all_of P Q f g [] h = All-nil Q
all_of P Q f g (x ∷ xs) h = All-cons Q x xs (g x (All-head P (f x) (map f xs) h)) (all_of P Q f g xs (All-tail P (f x) (map f xs) h))

module _ (d : Flat) (order : List ℕ) (is : IsTenantDesign d order) where
  pub compiled : IsCellDesign d order
  compiled = record {
    sound = is.sound;
    functions = is.functions;
    checked = is.checked;
    there = is.ordered.below;
    few = is.few;
    alone = is.alone;
  }

  -- a statement of a node behind time zero's wave
  abbrev IsQuiet : Stm → Type 0
  IsQuiet a = Meets d a × (can_act a ≡ false)

  record IsLate (a : Stm) : Type 0 where
    pub meets : Meets d a
    pub quiet : can_act a ≡ false
    pub sets : stm_sets (memory_at d.rows) a ≡ false

  all-late : (xs : List Stm) → All IsQuiet xs → All (SetsNone (memory_at d.rows)) xs → All IsLate xs
  all-late xs f g k x l = let h = f k x l in record { meets = h.0; quiet = h.1; sets = g k x l }

  piece-cell : (x : Piece) → IsLate (piece_view x) → IsCellPiece (names_of d) x
  piece-cell (p.Whole a) h = record { path = []; sound = h.meets.sound; segment = segment (names_of d) _ h.meets.sound h.meets.unrolled h.quiet h.sets }
  piece-cell (p.Loop path a) h = record { path = path.now; sound = h.meets.sound; segment = segment (names_of d) _ h.meets.sound h.meets.unrolled h.quiet h.sets }
  piece-cell (p.Set t e) h = (record { target_sound = h.meets.sound.0; source_sound = h.meets.sound.1 }, plain (names_of d) _ h.meets.sound.0 h.sets)
  piece-cell (p.Later t e) h = record { target_sound = h.meets.sound.0; source_sound = h.meets.sound.1 }

  pieces-cell : (g : Segment) → All IsQuiet (segment_view g).statements → All (SetsNone (memory_at d.rows)) (segment_view g).statements → All (IsCellPiece (names_of d)) g.statements.items
  pieces-cell g f h = all_of IsLate (IsCellPiece (names_of d)) piece_view piece-cell g.statements.items (all-late (segment_view g).statements f h)

  abbrev IsLateNode : nodes.Node → Type 0
  IsLateNode x = IsPart d x × LeavesMemories d x

  node-cell : (x : Node) → IsLateNode (node_view x) → IsCellNode (names_of d) x
  node-cell (v.Run g (w.Go to)) h = (pieces-cell g h.0.0 h.1, tt)
  node-cell (v.Run g (w.Branch t first second)) h = (pieces-cell g h.0.0 h.1, h.0.1)
  node-cell (v.Run g (w.Switch e ways otherwise)) h =
      (pieces-cell g h.0.0 h.1, (h.0.1.0, all_of (λ (x : nodes.Way). AreSound (names_of d) x.labels) (λ (x : Way). AreSound (names_of d) (exps_of x.labels.now)) way_view (λ x l. l) ways.items h.0.1.1))
  node-cell (v.Run g (w.Commit to)) h = (pieces-cell g h.0.0 h.1, tt)
  node-cell (v.Trap path call to) h = h.0.0
  node-cell (v.Apply to) h = tt

  pub nodes-cells : (xs : List Node) → map node_view xs ≡ (table_of d).nodes → All (IsCellNode (names_of d)) (take (early_from d) xs)
  nodes-cells xs e =
      let late = early_from d in
      let viewed : map node_view (take late xs) ≡ cell_nodes d = map-take node_view late xs ∙ ap (take late) e in
      all_of IsLateNode (IsCellNode (names_of d)) node_view node-cell (take late xs)
      (subst (λ ys. All IsLateNode ys) (sym viewed) (late-nodes d (IsPart d) (nodes_meet d order is) is.memories))

-- ---- calls

any-of : (P : ℕ → Type 0) (xs : List ℕ) (m : ℕ) → All P xs → list_any (λ k. k == m) xs ≡ true → P m
any-of P [] m h e = let z : ⊥ = cc in absurd z
any-of P (x ∷ xs) m h e = at (x == m) refl (any-of P xs m (All-tail P x xs h)) e
  where
    at : (b : Bool) → (x == m) ≡ b → (list_any (λ k. k == m) xs ≡ true → P m) → (b || list_any (λ k. k == m) xs) ≡ true → P m
    at true s f t = subst P (eqb-true x m s) (All-head P x xs h)
    at false s f t = f t

only : (a m : ℕ) → ((a == m) || false) ≡ true → a ≡ m
only a m e = at (a == m) refl e
  where
    at : (b : Bool) → (a == m) ≡ b → (b || false) ≡ true → a ≡ m
    at true s t = eqb-true a m s
    at false s t = let z : ⊥ = cc in absurd z

module _ (d : Flat) where
  no-call : (n m : ℕ) (x : nodes.Node) (task : Task) (to : ℕ) → slice_get (table_of d).nodes n ≡ Some x → IsNoGo x → list_any (λ k. k == m) (next_of x) ≡ true
      → slice_get (table_of d).nodes m ≡ Some (Trap task to) → ⊥
  no-call n m x task to h other l e =
      let q = any-of (λ m. is_trap (slice_get (table_of d).nodes m) ≡ false) (next_of x) m (no_call_next d n x h other) l in
      let t : is_trap (slice_get (table_of d).nodes m) ≡ true = ap is_trap e in
      cc

  all-apart : CallsStandApart (table_of d).nodes
  all-apart n m (Run g (Go t)) task to h l e = only t m l
  all-apart n m (Run g (Branch t a b)) task to h l e = no-call n m (Run g (Branch t a b)) task to h (λ g' m' z. cc) l e
  all-apart n m (Run g (Switch t ws o)) task to h l e = no-call n m (Run g (Switch t ws o)) task to h (λ g' m' z. cc) l e
  all-apart n m (Run g (Commit t)) task to h l e = no-call n m (Run g (Commit t)) task to h (λ g' m' z. cc) l e
  all-apart n m (Trap t k) task to h l e = no-call n m (Trap t k) task to h (λ g' m' z. cc) l e
  all-apart n m (Apply t) task to h l e = no-call n m (Apply t) task to h (λ g' m' z. cc) l e

  -- so it is behind time zero's wave
  pub apart : CallsStandApart (cell_nodes d)
  apart n m x task to h l e =
      let late = early_from d in
      let all = (table_of d).nodes in
      all-apart n m x task to (among late all n x h) l (among late all m (Trap task to) e)
