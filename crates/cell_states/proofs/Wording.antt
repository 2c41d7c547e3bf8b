-- The words that compiled nodes make pending are of memories.
use Rattle.std.proofs.Common.{◌≡◌, ℕ, ◌+◌, List, [], ◌∷◌, ◌++◌, length, map, sym, ◌∙◌, subst}
use Rattle.std.specs.Prelude.{All}
use Rattle.std.specs.List.{AllByRecursion}
use Rattle.std.proofs.lemmas.List.Elements.{All-head, All-tail, All-from_recursion}
use Rattle.vl_design.specs.Sound.{IsMemory, IsSoundBase, IsSoundTarget, AreSoundTargets, IsSoundStm, AreSoundItems}
use Rattle.vl_design.specs.Syntax.{Target, Whole, WordAt, PickAt, SliceAt, Several, Targets, NoTargets, MoreTargets, Stm, Nop, Then, If, Case, For, Repeat, Set, Later, Sys, Items, NoItems, Labelled, Default, Flat}
use Rattle.vl_design.specs.Trees.{stm_of, target_of}
use Rattle.vl_design.specs.Width.{Names, names_of}
use Rattle.cell_emit.specs.vl_sites.specs.Stored.{target_stored, targets_stored, stored_words, items_stored, default_stored}
use Rattle.ten_form.specs.sub_split.specs.Views.{node_view, piece_view}
use Rattle.ten_form.specs.sub_split.specs.declared.table.Node.{Node}
use Rattle.ten_form.specs.sub_split.specs.declared.table.Node.TheVariants as v
use Rattle.ten_form.specs.sub_split.specs.declared.table.Piece.{Piece}
use Rattle.ten_form.specs.sub_split.specs.declared.table.Piece.TheVariants as p
use Rattle.ten_form.specs.Banks.{cell_nodes, stores_in}
use Rattle.ten_form.specs.Registers.{register_count}
use Rattle.ten_form.proofs.Apart.{each-both}
use Rattle.ten_form.proofs.Naming.{any-path}
use Rattle.ten_form.specs.Stores.{all_stored, node_words, words_down, stores_from, stores_of}
use Rattle.ten_form.specs.declared.store.Store.{Store}
use Rattle.cell_states.specs.Pieces.{IsCellPiece, IsCellNode}

module _ (names : Names) where
  abbrev AreMemories : List ℕ → Type 0
  AreMemories ms = AllByRecursion (IsMemory names) ms

  both : (a b : List ℕ) → AreMemories a → AreMemories b → AreMemories (a ++ b)
  both a b f g = each-both (IsMemory names) a b f g

  -- ---- statements

  base-words : (t : Target) → IsSoundBase names t → AreMemories (target_stored t)
  base-words (Whole k) h = tt
  base-words (WordAt m a) h = (h.0, tt)
  base-words (PickAt b i from w) h = absurd h
  base-words (SliceAt b low w) h = absurd h
  base-words (Several ts) h = absurd h

  mutual
    target-words : (t : Target) → IsSoundTarget names t → AreMemories (target_stored t)
    target-words (Whole k) h = tt
    target-words (WordAt m a) h = (h.0, tt)
    target-words (PickAt b i from w) h = base-words b h.1
    target-words (SliceAt b low w) h = base-words b h.1
    target-words (Several ts) h = targets-words ts h.1

    targets-words : (ts : Targets) → AreSoundTargets names ts → AreMemories (targets_stored ts)
    targets-words NoTargets h = tt
    targets-words (MoreTargets t ts) h = both (target_stored t) (targets_stored ts) (target-words t h.0) (targets-words ts h.1)

  mutual
    stm-words : (a : Stm) → IsSoundStm names a → AreMemories (stored_words a)
    stm-words Nop h = tt
    stm-words (Then a b) h = both (stored_words a) (stored_words b) (stm-words a h.0) (stm-words b h.1)
    stm-words (If t a b) h = both (stored_words a) (stored_words b) (stm-words a h.1) (stm-words b h.2)
    stm-words (Case e items) h = both (items_stored items) (default_stored items) (items-words items h.1) (default-words items h.1)
    stm-words (For k start test step a) h = tt
    stm-words (Repeat n a) h = tt
    stm-words (Set t e) h = tt
    stm-words (Later t e) h = target-words t h.0
    stm-words (Sys task) h = tt

    items-words : (items : Items) → AreSoundItems names items → AreMemories (items_stored items)
    items-words NoItems h = tt
    items-words (Labelled es a others) h = both (stored_words a) (items_stored others) (stm-words a h.1) (items-words others h.2)
    items-words (Default a others) h = items-words others h.1

    default-words : (items : Items) → AreSoundItems names items → AreMemories (default_stored items)
    default-words NoItems h = tt
    default-words (Labelled es a others) h = default-words others h.2
    default-words (Default a others) h = stm-words a h.0

  -- ---- nodes

  piece-words : (x : Piece) → IsCellPiece names x → AreMemories (stored_words (piece_view x))
  piece-words (p.Whole a) h = subst AreMemories (any-path h.path a.now) (stm-words (stm_of h.path a.now) h.sound)
  piece-words (p.Loop path a) h = subst AreMemories (any-path h.path a.now ∙ sym (any-path path.now a.now)) (stm-words (stm_of h.path a.now) h.sound)
  piece-words (p.Set target source) h = tt
  piece-words (p.Later target source) h = target-words (target_of target.now) h.target_sound

  pieces-words : (xs : List Piece) → All (IsCellPiece names) xs → AreMemories (all_stored (map piece_view xs))
  pieces-words [] h = tt
  pieces-words (x ∷ xs) h =
      both (stored_words (piece_view x)) (all_stored (map piece_view xs)) (piece-words x (All-head (IsCellPiece names) x xs h)) (pieces-words xs (All-tail (IsCellPiece names) x xs h))

  one-words : (x : Node) → IsCellNode names x → AreMemories (node_words (node_view x))
  one-words (v.Run g on) h = pieces-words g.statements.items h.0
  one-words (v.Trap path call to) h = tt
  one-words (v.Apply to) h = tt

  down-words : (nodes : List Node) → All (IsCellNode names) nodes → AreMemories (words_down (map node_view nodes))
  down-words [] h = tt
  down-words (x ∷ xs) h =
      both (words_down (map node_view xs)) (node_words (node_view x)) (down-words xs (All-tail (IsCellNode names) x xs h)) (one-words x (All-head (IsCellNode names) x xs h))

  stores-words : (r : ℕ) (ms : List ℕ) → AreMemories ms → AllByRecursion (λ (x : Store). IsMemory names x.memory) (stores_from r ms)
  stores-words r [] h = tt
  stores-words r (m ∷ ms) h = (h.0, stores-words (r + 4) ms h.1)

-- so are the stores of nodes
pub stores-memories : (d : Flat) (nodes : List Node) → map node_view nodes ≡ cell_nodes d → All (IsCellNode (names_of d)) nodes → All (λ (x : Store). IsMemory (names_of d) x.memory) (stores_in d)
stores-memories d nodes e h =
    let r = register_count (length d.rows) in
    All-from_recursion (λ (x : Store). IsMemory (names_of d) x.memory) (stores_in d)
    (subst (λ xs. AllByRecursion (λ (x : Store). IsMemory (names_of d) x.memory) (stores_of r xs)) e (stores-words (names_of d) r (words_down (map node_view nodes)) (down-words (names_of d) nodes h)))
