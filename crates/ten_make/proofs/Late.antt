-- The nodes behind time zero's wave set no memories at once, and stand in pairs with their calls.
use Rattle.std.proofs.Common.{◌≡◌, ℕ, zero, suc, ◌+◌, ◌<◌, Bool, false, List, [], ◌∷◌, map, take, Some, refl, ap, subst, arith}
use Rattle.std.specs.Prelude.{All, slice_get}
use Rattle.std.proofs.lemmas.List.Elements.{All-nil, All-cons, All-head}
use Rattle.std.proofs.lemmas.Option.{slice_get_within, get_or_from_slice_get}
use Rattle.ten_core.specs.vl_design.specs.Queue.{is_rise, is_fall}
use Rattle.ten_core.specs.vl_design.specs.Syntax.{Stm, Items, NoItems, Labelled, Default, Flat}
use Rattle.ten_core.specs.vl_design.proofs.Acting.{Bodies, IsHereditary}
use Rattle.ten_core.specs.vl_design.proofs.Unread.{or_false}
use Rattle.sub_split.specs.sub_nodes.specs.Nodes.{Segment, Go, Branch, Switch, Commit, Node, Run, Trap, Apply}
use Rattle.sub_split.specs.sub_nodes.specs.Code.{table_of}
use Rattle.sub_split.specs.sub_nodes.specs.Early.{early_from}
use Rattle.sub_split.specs.sub_nodes.specs.Pairs.{ArePaired}
use Rattle.sub_split.specs.sub_nodes.proofs.Leading.{late_leads}
use Rattle.sub_split.specs.sub_nodes.proofs.Pairing.{table_paired, table_pair}
use Rattle.sub_runs.specs.Memories.{memory_at, stm_sets, items_set, SetsNoMemories}
use Rattle.sub_runs.proofs.Parts.{NodeHas, blocks_have}
use Rattle.sub_runs.proofs.Regions.{low_has}
use Rattle.ten_core.specs.ten_form.specs.Banks.{cell_nodes}
pub use Rattle.ten_core.specs.vl_base.proofs.Lists.{take_get as among}

-- ---- the first ones of a list

pub map-take : {X Y : Type 0} (f : X → Y) (n : ℕ) (xs : List X) → map f (take n xs) ≡ take n (map f xs)
map-take f zero xs = refl
map-take f (suc n) [] = refl
map-take f (suc n) (x ∷ xs) = ap (λ ys. f x ∷ ys) (map-take f n xs)

pub all-first : {X : Type 0} (P : X → Type 0) (n : ℕ) (xs : List X) → ((i : ℕ) (x : X) → i < n → slice_get xs i ≡ Some x → P x) → All P (take n xs)
all-first P zero xs f = All-nil P
all-first P (suc n) [] f = All-nil P
all-first P (suc n) (x ∷ xs) f = All-cons P x (take n xs) (f 0 x (omega arith) refl) (all-first P n xs (λ i y l e. f (suc i) y (omega (arith, l)) e))

-- ---- what clocked blocks set

module _ (p : ℕ → Bool) where
  abbrev pub SetsNone : Stm → Type 0
  SetsNone a = stm_sets p a ≡ false

  none-bodies : (items : Items) → items_set p items ≡ false → Bodies SetsNone items
  none-bodies NoItems h = tt
  none-bodies (Labelled es a others) h = let g = or_false (stm_sets p a) (items_set p others) h in (g.0, none-bodies others g.1)
  none-bodies (Default a others) h = let g = or_false (stm_sets p a) (items_set p others) h in (g.0, none-bodies others g.1)

  pub parts : IsHereditary SetsNone
  parts = record {
    none = refl;
    parts = λ a b h. or_false (stm_sets p a) (stm_sets p b) h;
    branches = λ t a b h. or_false (stm_sets p a) (stm_sets p b) h;
    items = λ e items h. none-bodies items h;
  }

module _ (d : Flat) where
  -- the statements of a node, and its call, set no memory
  abbrev pub LeavesMemories : Node → Type 0
  LeavesMemories = NodeHas (SetsNone (memory_at d.rows)) (parts (memory_at d.rows))

  pub late-leaves : SetsNoMemories d → (n : ℕ) (x : Node) → n < early_from d → slice_get (table_of d).nodes n ≡ Some x → LeavesMemories x
  late-leaves w n x l e =
      let none = SetsNone (memory_at d.rows) in
      let kept = parts (memory_at d.rows) in
      low_has d none kept (blocks_have none kept is_rise d.procs w.rises) (blocks_have none kept is_fall d.procs w.falls) n x l e

  -- a part that holds of each node, and of one behind time zero's wave
  pub late-nodes : (P : Node → Type 0) → All P (table_of d).nodes → SetsNoMemories d → All (λ x. P x × LeavesMemories x) (cell_nodes d)
  late-nodes P h w =
      let nodes = (table_of d).nodes in
      all-first (λ x. P x × LeavesMemories x) (early_from d) nodes
      (λ n x l e. (subst P (get_or_from_slice_get nodes n x x e) (h n x (slice_get_within nodes n x e)), late-leaves w n x l e))

-- ---- pairs

-- these first nodes end with no segment that comes to a call
abbrev IsWhole : ℕ → List Node → Type 0
IsWhole k xs = (i m : ℕ) (g : Segment) → i < k → slice_get xs i ≡ Some (Run g (Go m)) → suc i < k

rest-whole : (k : ℕ) (x : Node) (xs : List Node) → IsWhole (suc k) (x ∷ xs) → IsWhole k xs
rest-whole k x xs h i m g l e = let z = h (suc i) m g (omega (arith, l)) e in omega (arith, z)

first-paired : (n k : ℕ) (xs : List Node) → ArePaired n xs → IsWhole k xs → ArePaired n (take k xs)
first-paired n zero xs f h = tt
first-paired n (suc k) [] f h = tt
first-paired n (suc k) (Run g (Go m) ∷ []) f h = absurd f
first-paired n (suc k) (Run g (Go m) ∷ Run g' on ∷ xs) f h = absurd f
first-paired n (suc k) (Run g (Go m) ∷ Apply to ∷ xs) f h = absurd f
first-paired n (suc zero) (Run g (Go m) ∷ Trap task to ∷ xs) f h = let z = h 0 m g (omega arith) refl in absurd (omega (arith, z))
first-paired n (suc (suc k)) (Run g (Go m) ∷ Trap task to ∷ xs) f h =
    (f.0, first-paired (n + 2) k xs f.1 (rest-whole k (Trap task to) xs (rest-whole (suc k) (Run g (Go m)) (Trap task to ∷ xs) h)))
first-paired n (suc k) (Run g (Branch t a b) ∷ xs) f h = first-paired (n + 1) k xs f (rest-whole k (Run g (Branch t a b)) xs h)
first-paired n (suc k) (Run g (Switch t ways other) ∷ xs) f h = first-paired (n + 1) k xs f (rest-whole k (Run g (Switch t ways other)) xs h)
first-paired n (suc k) (Run g (Commit to) ∷ xs) f h = first-paired (n + 1) k xs f (rest-whole k (Run g (Commit to)) xs h)
first-paired n (suc k) (Trap task to ∷ xs) f h = absurd f
first-paired n (suc k) (Apply to ∷ xs) f h = first-paired (n + 1) k xs f (rest-whole k (Apply to) xs h)

-- a segment that comes to a call behind time zero's wave has its call there
pub late-paired : (d : Flat) → ArePaired 0 (cell_nodes d)
late-paired d =
    first-paired 0 (early_from d) (table_of d).nodes (table_paired d)
    (λ i m g l e. (let next = (table_pair d i m g e).next in
    let late = All-head (λ j. j < early_from d) m [] (late_leads d i (Run g (Go m)) l e) in
    omega (arith, next, late)))
