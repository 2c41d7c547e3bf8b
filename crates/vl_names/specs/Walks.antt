-- Paths in a graph: for each node the nodes to which its steps lead.
use Rattle.std.specs.Prelude.{◌≡◌, ℕ, zero, suc, ◌+◌, ◌*◌, ◌<◌, ◌≤◌, ◌⊎◌, ◌||◌, nat_eq, Bool, true, false, not, List, [], length, slice_index_or}
use Rattle.std.specs.List.{count_by, list_any}
use Rattle.vl_scope.specs.Faults.{In}
use Rattle.vl_names.specs.Modules.{Leads}

-- a step leads from a to b
abbrev pub IsStep : List (List ℕ) → ℕ → ℕ → Type 0
IsStep graph a b = In b (slice_index_or graph a [])

-- each step leads to a node
abbrev pub IsWithin : List (List ℕ) → Type 0
IsWithin graph = (a b : ℕ) → IsStep graph a b → b < length graph

-- a path of at most n steps leads from a to b
unfoldable pub leads_within : List (List ℕ) → ℕ → ℕ → ℕ → Bool
leads_within graph zero a b = false
leads_within graph (suc n) a b = list_any (λ c. nat_eq c b || leads_within graph n c b) (slice_index_or graph a [])

-- a path leads from a node back to it; no more steps are needed than there are nodes
abbrev pub is_cyclic : List (List ℕ) → ℕ → Bool
is_cyclic graph k = leads_within graph (length graph) k k

-- a node isn't marked
abbrev pub is_unmarked : List Bool → ℕ → Bool
is_unmarked marks k = not (slice_index_or marks k false)

-- a node is marked
abbrev pub IsMarked : List Bool → ℕ → Type 0
IsMarked marks k = slice_index_or marks k false ≡ true

-- ---- numbers that rise along no step

-- the number of a node, or 0
abbrev pub rank : List ℕ → ℕ → ℕ
rank ranks k = slice_index_or ranks k 0

-- no step leads to a greater number
abbrev pub IsFalling : List (List ℕ) → List ℕ → Type 0
IsFalling graph ranks = (a b : ℕ) → IsStep graph a b → rank ranks b ≤ rank ranks a

-- ---- a search

-- nodes are marked, and those that weren't are put on a pile
pub record Visits (nodes : List ℕ) (marks : List Bool) (pile : List ℕ) (after : List Bool) (grown : List ℕ) : Type 0 where
  pub same_length : length after ≡ length marks
  pub kept : (k : ℕ) → IsMarked marks k → IsMarked after k
  pub only : (k : ℕ) → IsMarked after k → IsMarked marks k ⊎ In k nodes
  pub all : (k : ℕ) → In k nodes → IsMarked after k
  pub piled : (k : ℕ) → IsMarked after k → IsMarked marks k ⊎ In k grown
  pub stays : (k : ℕ) → In k pile → In k grown
  pub added : (k : ℕ) → In k grown → In k pile ⊎ In k nodes
  pub less : 2 * count_by not after + length grown ≤ 2 * count_by not marks + length pile

-- what a search from the start has found: the steps from the pile are still to be followed
pub record Searches (graph : List (List ℕ)) (start : ℕ) (marks : List Bool) (pile : List ℕ) : Type 0 where
  pub same_length : length marks ≡ length graph
  pub inside : (k : ℕ) → In k pile → k < length graph
  pub sound : (k : ℕ) → IsMarked marks k → Leads (IsStep graph) start k
  pub reached : (k : ℕ) → In k pile → (k ≡ start) ⊎ IsMarked marks k
  pub closed : (a : ℕ) → (a ≡ start) ⊎ IsMarked marks a → In a pile ⊎ ((b : ℕ) → IsStep graph a b → IsMarked marks b)
