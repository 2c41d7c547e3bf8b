-- How the nodes of a wave lead on (own).
use Rattle.std.specs.Prelude.{◌≡◌, ℕ, ◌+◌, ◌<◌, ◌≤◌, ◌==◌, ◌||◌, Bool, true, List, [], ◌∷◌, map, if◌then◌else◌, slice_get, Some}
use Rattle.std.specs.List.{list_any}
use Rattle.vl_design.specs.Syntax.{Stm, Nop, Then, If, Case, For, Repeat, Set, Later, Sys, Items, NoItems, Labelled, Default}
use Rattle.vl_design.specs.Exec.{asks}
use Rattle.vl_design.specs.Laws.{can_act, items_can_act}
use Rattle.sub_nodes.specs.Nodes.{Segment, Go, Branch, Switch, Commit, Node, Run, Trap, Apply, Wave}
use Rattle.sub_nodes.specs.Cycles.{is_trap}

-- the nodes that a node leads to, but past the end of a wave
abbrev pub targets : Node → List ℕ
targets (Run g (Go to)) = to ∷ []
targets (Run g (Branch t first second)) = first ∷ second ∷ []
targets (Run g (Switch e ways otherwise)) = otherwise ∷ map (λ w. w.to) ways
targets (Run g (Commit to)) = []
targets (Trap task to) = to ∷ []
targets (Apply to) = []

abbrev pub leads_to : Node → ℕ → Bool
leads_to x m = list_any (λ k. k == m) (targets x)

-- the nodes from low on, and before high, are a wave's, whose update is this node
pub record IsClosed (nodes : List Node) (update low high : ℕ) : Type 0 where
  -- each leads to nodes of the wave
  pub inside : (n m : ℕ) (x : Node) → low ≤ n → n < high → slice_get nodes n ≡ Some x → leads_to x m ≡ true → (low ≤ m) × (m < high)
  -- and to no trap but the next node
  pub traps : (n m : ℕ) (x : Node) → low ≤ n → n < high → slice_get nodes n ≡ Some x → leads_to x m ≡ true → is_trap (slice_get nodes m) ≡ true → m ≡ n + 1
  -- past the end of the wave to its update
  pub ends : (n to : ℕ) (g : Segment) → low ≤ n → n < high → slice_get nodes n ≡ Some (Run g (Commit to)) → to ≡ update
  -- and none is an update
  pub none : (n to : ℕ) → low ≤ n → n < high → slice_get nodes n ≡ Some (Apply to) → ⊥

-- some nodes, among them its first one, are the wave's
pub record IsApart (nodes : List Node) (wave : Wave) : Type 0 where
  pub low : ℕ
  pub high : ℕ
  pub above : low ≤ wave.first
  pub below : wave.first < high
  pub closed : IsClosed nodes wave.update low high

-- ---- how many nodes there are

abbrev mutual
  -- where statements are cut: at calls, and at the branches of choices that hold one
  pub cuts : Stm → ℕ
  cuts Nop = 0
  cuts (Then a b) = cuts a + cuts b
  cuts (If t a b) = if asks t || (can_act a || can_act b) then cuts a + 1 + (cuts b + 1) else 0
  cuts (Case e items) = if items_can_act items then item_cuts items + (default_cuts items + 1) else 0
  cuts (For v start test step a) = 0
  cuts (Repeat count a) = 0
  cuts (Set t e) = 0
  cuts (Later t e) = 0
  cuts (Sys task) = 1

  pub item_cuts : Items → ℕ
  item_cuts NoItems = 0
  item_cuts (Labelled es a others) = cuts a + 1 + item_cuts others
  item_cuts (Default a others) = item_cuts others

  pub default_cuts : Items → ℕ
  default_cuts NoItems = 0
  default_cuts (Labelled es a others) = default_cuts others
  default_cuts (Default a others) = cuts a

abbrev pub all_cuts : List Stm → ℕ
all_cuts [] = 0
all_cuts (a ∷ rest) = cuts a + all_cuts rest
