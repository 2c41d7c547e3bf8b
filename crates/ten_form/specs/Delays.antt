-- Signals that nonblocking assignments name: of these alone updates can be pending (IEEE 1364-2005, clause 9.2.2; own).
use Rattle.std.specs.Prelude.{◌≡◌, ◌⊎◌, ℕ, ◌==◌, Bool, true, false, ◌||◌, All}
use Rattle.std.specs.List.{list_any}
use Rattle.vl_design.specs.Reads.{target_writes}
use Rattle.vl_design.specs.State.{Update}
use Rattle.vl_design.specs.Syntax.{Stm, Nop, Then, If, Case, For, Repeat, Set, Later, Sys, Items, NoItems, Labelled, Default, Proc, Flat}
use Rattle.vl_runs.specs.Computed.{computed_at}
use Rattle.cell_emit.specs.vl_sites.specs.Others.{other_at}
use Rattle.sub_split.specs.sub_nodes.specs.Cycles.{Stage}
use Rattle.sub_split.specs.sub_nodes.specs.Nodes.{Node, Apply}

abbrev mutual
  -- a nonblocking assignment in the statement names a signal that passes the test
  pub stm_delays : (ℕ → Bool) → Stm → Bool
  stm_delays p Nop = false
  stm_delays p (Then a b) = stm_delays p a || stm_delays p b
  stm_delays p (If t a b) = stm_delays p a || stm_delays p b
  stm_delays p (Case e items) = items_delay p items
  stm_delays p (For k start test step a) = stm_delays p start || (stm_delays p step || stm_delays p a)
  stm_delays p (Repeat n a) = stm_delays p a
  stm_delays p (Set t e) = false
  stm_delays p (Later t e) = target_writes p t
  stm_delays p (Sys task) = false

  pub items_delay : (ℕ → Bool) → Items → Bool
  items_delay p NoItems = false
  items_delay p (Labelled es a others) = stm_delays p a || items_delay p others
  items_delay p (Default a others) = stm_delays p a || items_delay p others

-- a nonblocking assignment in a process of the design names the signal
abbrev pub is_delayed : Flat → ℕ → Bool
is_delayed d k = list_any (λ (a : Proc). stm_delays (λ j. j == k) a.body) d.procs

-- no nonblocking assignment names a signal that is computed, a loop variable or a clock
abbrev pub DelaysVariables : Flat → Type 0
DelaysVariables d = (k : ℕ) → (computed_at d.rows k ≡ true) ⊎ (other_at d.rows k ≡ true) → is_delayed d k ≡ false

-- each update that is pending is of such a signal; and where an update is next, the wave that ended has committed all values
pub record IsDue (d : Flat) (x : Node) (i : Stage) : Type 0 where
  pub later : (k : ℕ) → is_delayed d k ≡ false → All (λ (u : Update). (u.signal == k) ≡ false) i.state.later
  pub committed : (to : ℕ) → x ≡ Apply to → i.committed ≡ i.state.values
