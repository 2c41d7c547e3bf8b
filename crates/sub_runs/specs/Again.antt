-- Runs that are resumed from a snapshot of a run (own).
use Rattle.std.specs.Prelude.{◌≡◌, ℕ, ◌+◌, ◌≤◌, ◌<◌, List, ◌++◌, Some}
use Rattle.vl_sites.specs.vl_design.specs.Alone.{Origin, Boundary}
use Rattle.vl_sites.specs.vl_design.specs.Laws.{IsUnrolled}
use Rattle.vl_sites.specs.vl_design.specs.Queue.{Queue}
use Rattle.vl_sites.specs.vl_design.specs.Snapshots.{snapshot_of, kept_words}
use Rattle.vl_sites.specs.vl_design.specs.State.{State}
use Rattle.vl_sites.specs.vl_design.specs.Syntax.{Row, Flat}
use Rattle.vl_runs.specs.Checked.{IsChecked, IsOrder}
use Rattle.sub_runs.specs.Nets.{WritesNoNets, HasNarrowNets}
use Rattle.vl_sites.specs.Answers.{AsksBehindCalls}
use Rattle.vl_sites.specs.Others.{WritesNoOthers}

-- a design without loops that meets the rules of settling, with an order of its processes; whose blocks write no computed signals, and
-- read no answers but those of calls right before; and of which no process writes loop variables or clocks
pub record CanGoOn (d : Flat) (order : List ℕ) : Type 0 where
  pub unrolled : IsUnrolled d
  pub checked : IsChecked d
  pub ordered : IsOrder d order
  pub nets : WritesNoNets d
  pub narrow : HasNarrowNets d
  pub answers : AsksBehindCalls d
  pub others : WritesNoOthers d

-- the run that is resumed from the snapshot of a state
abbrev pub again : Origin → State → Origin
again o s = record o { resume = Some (snapshot_of o.flat.rows s) }

-- what is observed of a whole run in the state a is what is observed of a resumed one in the state b, behind what the whole run had
-- printed and counted in the state first
pub record GoesOnAs (rows : List Row) (first b a : State) : Type 0 where
  pub printed : a.printed ≡ first.printed ++ b.printed
  pub count : a.count ≡ first.count + b.count
  pub ticks : a.ticks ≡ b.ticks
  pub finished : a.finished ≡ b.finished
  pub table : a.table ≡ b.table
  pub words : kept_words rows a.values ≡ kept_words rows b.values

-- from boundary k on, where it is in the state first, the run is as the one that is resumed from its snapshot there
pub record GoesOn (o : Origin) (k : ℕ) (first : State) : Type 0 where
  pub there : (j : ℕ) (a : Queue) → k ≤ j → Boundary o j a → (b : Queue) × Boundary (again o first) j b × GoesOnAs o.flat.rows first b.state a.state
  pub back : (j : ℕ) (b : Queue) → Boundary (again o first) j b → (k ≤ j) × ((a : Queue) × Boundary o j a × GoesOnAs o.flat.rows first b.state a.state)
  -- behind that boundary the same snapshots are asked for
  pub saves : (j : ℕ) (a b : Queue) → k < j → Boundary o j a → Boundary (again o first) j b → a.state.saves ≡ b.state.saves
