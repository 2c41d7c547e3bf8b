-- Calls stand in pairs (own).
use Rattle.std.specs.Prelude.{◌≡◌, ℕ, ◌+◌, List, [], ◌∷◌, ⊤}
use Rattle.sub_nodes.specs.Nodes.{Go, Node, Run, Trap}

-- nodes from number n on: each one that comes to a trap has this right behind it, and no trap stands elsewhere
abbrev pub ArePaired : ℕ → List Node → Type 0
ArePaired n [] = ⊤
ArePaired n (Run g (Go m) ∷ Trap task to ∷ xs) = (m ≡ n + 1) × ArePaired (n + 2) xs
ArePaired n (Run g (Go m) ∷ xs) = ⊥
ArePaired n (Trap task to ∷ xs) = ⊥
ArePaired n (x ∷ xs) = ArePaired (n + 1) xs
