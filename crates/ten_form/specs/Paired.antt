-- Which nodes a node leads to, and that calls stand behind segments of their own (own).
use Rattle.std.specs.Prelude.{◌≡◌, ℕ, ◌==◌, true, List, [], ◌∷◌, slice_get, Some}
use Rattle.std.specs.List.{list_any}
use Rattle.vl_design.specs.Syntax.{Task}
use Rattle.sub_split.specs.sub_nodes.specs.Nodes.{Go, Commit, Node, Run, Trap, Apply}
use Rattle.sub_split.specs.sub_nodes.specs.Shape.{targets}

-- with the update of a wave, and what stands behind it
abbrev pub leads : Node → List ℕ
leads (Run g (Commit to)) = to ∷ []
leads (Apply to) = to ∷ []
leads x = targets x

-- it goes to this node, whatever is read
abbrev pub GoesTo : Node → ℕ → Type 0
GoesTo (Run g (Go to)) m = to ≡ m
GoesTo x m = ⊥

-- to a call leads just a segment that goes there
abbrev pub CallsStandApart : List Node → Type 0
CallsStandApart nodes = (n m : ℕ) (x : Node) (task : Task) (to : ℕ) → slice_get nodes n ≡ Some x → list_any (λ k. k == m) (leads x) ≡ true → slice_get nodes m ≡ Some (Trap task to) → GoesTo x m
