-- What it means that nodes implement statements, and a table a design (own).
use Rattle.std.specs.Prelude.{◌≡◌, ◌≢◌, ℕ, Bool, true, false, ◌||◌, List, [], ◌∷◌, map, slice_get, Some, ⊤}
use Rattle.vl_design.specs.Syntax.{Stm, Nop, Then, If, Case, For, Repeat, Set, Later, Sys, Items, NoItems, Labelled, Default, Proc, Flat}
use Rattle.vl_design.specs.Exec.{asks}
use Rattle.vl_design.specs.Queue.{is_init, is_rise, is_fall}
use Rattle.vl_design.specs.Alone.{blocks}
use Rattle.vl_design.specs.Laws.{can_act, items_can_act}
use Rattle.sub_nodes.specs.Nodes.{Segment, still, rising, and_then, Way, Go, Branch, Switch, Commit, Node, Run, Trap, Apply, Wave, Table}

-- the first where the test holds, else the second
abbrev pub Whether : Bool → Type 0 → Type 0 → Type 0
Whether true A B = A
Whether false A B = B

module _ (nodes : List Node) where
  abbrev mutual
    -- node n does a segment, then a statement, and then what K says: with what else stands in the segment by then, at the node
    -- that has it
    pub Impl : Stm → (Segment → ℕ → Type 0) → Segment → ℕ → Type 0
    Impl Nop K g n = K g n
    Impl (Then a b) K g n = Impl a (Impl b K) g n
    Impl (If t a b) K g n =
        Whether (asks t || (can_act a || can_act b))
        ((first : ℕ) × (second : ℕ) × (slice_get nodes n ≡ Some (Run g (Branch t first second))) × Impl a K still first × Impl b K still second)
        (K (and_then g (If t a b)) n)
    Impl (Case e items) K g n =
        Whether (items_can_act items)
        ((ways : List Way) × (otherwise : ℕ) × (slice_get nodes n ≡ Some (Run g (Switch e ways otherwise))) × ImplItems items K ways × ImplDefault items K otherwise)
        (K (and_then g (Case e items)) n)
    Impl (For k start test step a) K g n = K (and_then g (For k start test step a)) n
    Impl (Repeat count a) K g n = K (and_then g (Repeat count a)) n
    Impl (Set t e) K g n = K (and_then g (Set t e)) n
    Impl (Later t e) K g n = K (and_then g (Later t e)) n
    Impl (Sys task) K g n =
        (m : ℕ) × (to : ℕ) × (slice_get nodes n ≡ Some (Run g (Go m))) × (slice_get nodes m ≡ Some (Trap task to)) × K still to

    -- each way has the labels of its item, and leads to its body
    pub ImplItems : Items → (Segment → ℕ → Type 0) → List Way → Type 0
    ImplItems NoItems K [] = ⊤
    ImplItems NoItems K (w ∷ ws) = ⊥
    ImplItems (Labelled es a others) K [] = ⊥
    ImplItems (Labelled es a others) K (w ∷ ws) = (w.labels ≡ es) × Impl a K still w.to × ImplItems others K ws
    ImplItems (Default a others) K ws = ImplItems others K ws

    -- node n is the default's, or without one is behind the case
    pub ImplDefault : Items → (Segment → ℕ → Type 0) → ℕ → Type 0
    ImplDefault NoItems K n = K still n
    ImplDefault (Labelled es a others) K n = ImplDefault others K n
    ImplDefault (Default a others) K n = Impl a K still n

  -- node n does a segment, then statements in order, and then the wave ends, whose update is this node
  abbrev pub Impls : (update : ℕ) → List Stm → Segment → ℕ → Type 0
  Impls update [] g n = slice_get nodes n ≡ Some (Run g (Commit update))
  Impls update (a ∷ rest) g n = Impl a (Impls update rest) g n

abbrev pub bodies : List Proc → List Stm
bodies = map (λ p. p.body)

-- the wave does these blocks, and behind its update stands node n
pub record IsWave (nodes : List Node) (start : Segment) (ps : List Proc) (wave : Wave) (n : ℕ) : Type 0 where
  pub runs : Impls nodes wave.update (bodies ps) start wave.first
  pub updates : slice_get nodes wave.update ≡ Some (Apply n)

-- behind a rise's wave stands the fall's, where a block waits for it, else the next rise's
abbrev pub behind_rise : List Proc → (rise fall : ℕ) → ℕ
behind_rise [] rise fall = rise
behind_rise (p ∷ ps) rise fall = fall

pub record IsTableOf (d : Flat) (T : Table) : Type 0 where
  pub zero : IsWave T.nodes still (blocks is_init d.procs) T.zero T.rise.first
  pub rise : IsWave T.nodes rising (blocks is_rise d.procs) T.rise (behind_rise (blocks is_fall d.procs) T.rise.first T.fall.first)
  pub fall : blocks is_fall d.procs ≢ [] → IsWave T.nodes still (blocks is_fall d.procs) T.fall T.rise.first
