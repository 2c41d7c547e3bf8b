-- Where a table's pending writes to words of memories are kept: of each nonblocking assignment to a word four registers (own).
use Rattle.std.specs.Prelude.{ℕ, ◌+◌, ◌*◌, ◌<◌, ◌⊎◌, List, [], ◌∷◌, ◌++◌, length, drop, take, ⊤}
use Rattle.std.specs.List.{AllByRecursion}
use Rattle.vl_design.specs.Syntax.{Stm}
use Rattle.cell_emit.specs.vl_sites.specs.Stored.{stored_words}
use Rattle.sub_split.specs.sub_nodes.specs.Nodes.{Node, Run, Trap, Apply}
use Rattle.ten_form.specs.declared.store.Store.{Store}
use Rattle.ten_form.specs.Holding.{mask_register}

-- the memories whose words statements make pending, in order
abbrev pub all_stored : List Stm → List ℕ
all_stored [] = []
all_stored (a ∷ rest) = stored_words a ++ all_stored rest

-- so of a node
abbrev pub node_words : Node → List ℕ
node_words (Run g on) = all_stored g.statements
node_words (Trap task to) = []
node_words (Apply to) = []

-- and of nodes, from the last one to the first: so a wave does them
abbrev pub words_down : List Node → List ℕ
words_down [] = []
words_down (x ∷ xs) = words_down xs ++ node_words x

-- a store for each of these memories, from register r on
abbrev pub stores_from : ℕ → List ℕ → List Store
stores_from r [] = []
stores_from r (m ∷ ms) = record { memory = m; first = r } ∷ stores_from (r + 4) ms

-- ---- the stores of nodes, from register r on

abbrev pub stores_of : ℕ → List Node → List Store
stores_of r nodes = stores_from r (words_down nodes)

-- those of the nodes from number n on, which stand first
abbrev pub stores_above : ℕ → List Node → ℕ → List Store
stores_above r nodes n = stores_from r (words_down (drop n nodes))

-- and those of the nodes before it, which stand behind
abbrev pub stores_below : ℕ → List Node → ℕ → List Store
stores_below r nodes n = stores_from (r + 4 * length (words_down (drop n nodes))) (words_down (take n nodes))

-- ---- registers of stores

-- two stores have no register in common
abbrev pub AreApart : Store → Store → Type 0
AreApart x y = (mask_register x < y.first) ⊎ (mask_register y < x.first)

-- no two of these stores have one in common
abbrev pub AreDisjoint : List Store → Type 0
AreDisjoint [] = ⊤
AreDisjoint (x ∷ xs) = AllByRecursion (AreApart x) xs × AreDisjoint xs

-- a register is none of a store's
abbrev pub IsBeside : ℕ → Store → Type 0
IsBeside r x = (r < x.first) ⊎ (mask_register x < r)
