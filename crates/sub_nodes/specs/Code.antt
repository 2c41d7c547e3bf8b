-- A table of a design. Statements are split from the last to the first: what stands behind a choice is split once, and all
-- branches lead to it; only the stretch up to its first act stands in a node for each branch that runs into it (own).
use Rattle.std.specs.Prelude.{◌≡◌, ℕ, ◌+◌, ◌||◌, List, [], ◌∷◌, ◌++◌, length, if◌then◌else◌, slice_get, Some, ⊤}
use Rattle.vl_design.specs.Syntax.{Exp, Task, Stm, Nop, Then, If, Case, For, Repeat, Set, Later, Sys, Items, NoItems, Labelled, Default, Proc, Flat}
use Rattle.vl_design.specs.Exec.{asks}
use Rattle.vl_design.specs.Queue.{is_init, is_rise, is_fall}
use Rattle.vl_design.specs.Alone.{blocks}
use Rattle.vl_design.specs.Laws.{can_act, items_can_act}
use Rattle.sub_nodes.specs.Nodes.{Segment, still, rising, and_then, Way, WayOn, Go, Branch, Switch, Commit, Node, Run, Trap, Apply, Table}
use Rattle.sub_nodes.specs.Implements.{bodies}

-- these nodes stand from number n on
abbrev pub HasFrom : List Node → ℕ → List Node → Type 0
HasFrom nodes n [] = ⊤
HasFrom nodes n (x ∷ xs) = (slice_get nodes n ≡ Some x) × HasFrom nodes (n + 1) xs

-- what comes behind a stretch: a call, behind which node `to` is next, or a way on
pub data Next : Type 0 where
  Calls : (task : Task) (to : ℕ) → Next
  Leads : (on : WayOn) → Next

-- how statements begin
pub record Head : Type 0 where
  pub statements : List Stm
  pub next : Next

abbrev pub and_all : Segment → List Stm → Segment
and_all g [] = g
and_all g (a ∷ rest) = and_all (and_then g a) rest

abbrev pub next_nodes : Next → Segment → ℕ → List Node
next_nodes (Calls task to) g n = Run g (Go (n + 1)) ∷ Trap task to ∷ []
next_nodes (Leads on) g n = Run g on ∷ []

-- statements that begin so, behind a segment, as nodes from number n on
abbrev pub head_nodes : Head → Segment → ℕ → List Node
head_nodes h g n = next_nodes h.next (and_all g h.statements) n

-- the nodes made so far, and how the statements begin behind them
pub record Made : Type 0 where
  pub nodes : List Node
  pub head : Head

abbrev pub before : Stm → Made → Made
before a m = record m { head = record { statements = a ∷ m.head.statements; next = m.head.next } }

-- with a way on in place of what begins
abbrev pub leading : List Node → WayOn → Made
leading nodes on = record { nodes = nodes; head = record { statements = []; next = Leads on } }

-- the nodes of a case's items, and the ways to them
pub record ItemsMade : Type 0 where
  pub nodes : List Node
  pub ways : List Way

-- the nodes are numbered from here on
module _ (from : ℕ) where
  abbrev pub number : List Node → ℕ
  number nodes = from + length nodes

  -- the statements that begin so have a node of their own
  abbrev pub placed : List Node → Head → List Node
  placed nodes h = nodes ++ head_nodes h still (number nodes)

  -- a choice, whose second branch was made behind the first
  abbrev pub chosen : Exp → Head → Made → Made
  chosen t first second =
      leading (placed (placed second.nodes first) second.head) (Branch t (number second.nodes) (number (placed second.nodes first)))

  -- a choice by a case, whose default was made behind the items
  abbrev pub switching : Exp → List Way → Made → Made
  switching e ways other = leading (placed other.nodes other.head) (Switch e ways (number other.nodes))

  abbrev mutual
    -- a statement before what has been made
    pub split : Stm → Made → Made
    split Nop m = m
    split (Then a b) m = split a (split b m)
    split (If t a b) m =
        if asks t || (can_act a || can_act b) then chosen t (split a m).head (split b (record m { nodes = (split a m).nodes }))
        else before (If t a b) m
    split (Case e items) m =
        if items_can_act items then switching e (split_items items m).ways (split_default items (record m { nodes = (split_items items m).nodes }))
        else before (Case e items) m
    split (For v start test step a) m = before (For v start test step a) m
    split (Repeat count a) m = before (Repeat count a) m
    split (Set t e) m = before (Set t e) m
    split (Later t e) m = before (Later t e) m
    split (Sys task) m = record { nodes = placed m.nodes m.head; head = record { statements = []; next = Calls task (number m.nodes) } }

    -- each item before what stands behind the case
    pub split_items : Items → Made → ItemsMade
    split_items NoItems m = record { nodes = m.nodes; ways = [] }
    split_items (Labelled es a others) m =
        let x = split a m in
        let rest = split_items others (record m { nodes = placed x.nodes x.head }) in
        record { nodes = rest.nodes; ways = record { labels = es; to = number x.nodes } ∷ rest.ways }
    split_items (Default a others) m = split_items others m

    pub split_default : Items → Made → Made
    split_default NoItems m = m
    split_default (Labelled es a others) m = split_default others m
    split_default (Default a others) m = split a m

  abbrev pub split_all : List Stm → Made → Made
  split_all [] m = m
  split_all (a ∷ rest) m = split a (split_all rest m)

  -- the statements of a wave, whose update is this node
  abbrev pub wave_made : (update : ℕ) → List Stm → Made
  wave_made update xs = split_all xs (leading [] (Commit update))

  -- its nodes, and the number of the first one to be done
  abbrev pub wave_nodes : (update : ℕ) → List Stm → Segment → List Node
  wave_nodes update xs g = let m = wave_made update xs in m.nodes ++ head_nodes m.head g (number m.nodes)

  abbrev pub wave_first : (update : ℕ) → List Stm → ℕ
  wave_first update xs = number (wave_made update xs).nodes

-- the nodes of the fall's wave, where a block waits for it
abbrev pub fall_nodes : (from : ℕ) → List Proc → List Node
fall_nodes from [] = []
fall_nodes from (p ∷ ps) = wave_nodes from 2 (bodies (p ∷ ps)) still

-- the updates of time zero and of a rise, and of a fall, where a block waits for it
abbrev pub updates : List Proc → (rise fall : ℕ) → List Node
updates [] rise fall = Apply rise ∷ Apply rise ∷ []
updates (p ∷ ps) rise fall = Apply rise ∷ Apply fall ∷ Apply rise ∷ []

-- the updates, and then the waves of a rise, of a fall and of time zero
abbrev pub table_of : Flat → Table
table_of d =
    let ups = bodies (blocks is_rise d.procs) in
    let falls = blocks is_fall d.procs in
    let inits = bodies (blocks is_init d.procs) in
    let from = length (updates falls 0 0) in
    let rise = wave_first from 1 ups in
    let up = wave_nodes from 1 ups rising in
    let fall = wave_first (from + length up) 2 (bodies falls) in
    let down = fall_nodes (from + length up) falls in
    let first = wave_nodes (from + length up + length down) 0 inits still in
    record {
      nodes = updates falls rise fall ++ (up ++ (down ++ first));
      zero = record { first = wave_first (from + length up + length down) 0 inits; update = 0 };
      rise = record { first = rise; update = 1 };
      fall = record { first = fall; update = 2 };
    }
