-- How many cycles and served calls are left at most before the clock rises next (own).
use Rattle.std.specs.Prelude.{ℕ, ◌+◌, ◌*◌, ◌==◌, nat_le, length, if◌then◌else◌, slice_get, Option, Some, None}
use Rattle.sub_nodes.specs.Nodes.{Node, Run, Trap, Apply, Table}

module _ (T : Table) where
  -- a node of a wave leads to nodes of smaller numbers; those of a rise's wave have the smallest, but come first in a tick. Twice,
  -- since a trap comes between two segments
  abbrev pub order : ℕ → ℕ
  order n = 2 * (if nat_le n T.rise.first then length T.nodes + n else n)

  -- behind an update the clock rises next, or the fall's wave stands, all of whose nodes are still to come
  abbrev pub left_at : ℕ → Option Node → ℕ
  left_at n None = 0
  left_at n (Some (Run g on)) = if g.rises then 0 else order n + 1
  left_at n (Some (Trap task to)) = order to + 2
  left_at n (Some (Apply to)) = if to == T.rise.first then 1 else 2 * length T.nodes

  -- from node n on; none where the clock rises next
  abbrev pub left : ℕ → ℕ
  left n = left_at n (slice_get T.nodes n)

  -- from each node on fewer than this
  abbrev pub most_left : ℕ
  most_left = 4 * length T.nodes
