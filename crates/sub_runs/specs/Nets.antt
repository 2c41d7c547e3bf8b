-- Nets over the values committed last: a computed signal has no register, and what it is follows from the others (IEEE 1364-2005,
-- clauses 6.1 and 11.3; own).
use Rattle.std.specs.Prelude.{◌≡◌, ℕ, ◌+◌, ◌<◌, Bool, true, false, List, [], ◌∷◌, length, map, if◌then◌else◌, All}
use Rattle.vl_sites.specs.vl_base.specs.declared.files.File.{File}
use Rattle.vl_sites.specs.vl_design.specs.Syntax.{Row, Flat}
use Rattle.vl_sites.specs.vl_design.specs.Value.{value_of}
use Rattle.vl_sites.specs.vl_design.specs.State.{State}
use Rattle.vl_sites.specs.vl_design.specs.Reads.{stm_writes}
use Rattle.vl_sites.specs.vl_design.specs.Queue.{proc_at, is_rise, is_fall}
use Rattle.vl_sites.specs.vl_design.specs.Alone.{blocks}
use Rattle.vl_runs.specs.vl_paths.specs.Graph.{drives}
use Rattle.vl_runs.specs.Nets.{pass}
pub use Rattle.vl_runs.specs.Computed.{is_computed, is_computed_row, computed_at}
use Rattle.vl_runs.specs.NetsOfSettle.{Place, bit_at, is_memory, comb_at, run}
use Rattle.sub_nodes.specs.Nodes.{Segment, rising, WayOn, Commit}
use Rattle.sub_nodes.specs.Implements.{bodies}
use Rattle.sub_nodes.specs.Code.{updates, wave_nodes, fall_nodes}
use Rattle.sub_nodes.specs.Cycles.{Stage}

-- the values with each word of a computed signal 0
abbrev pub cleared : List Row → List (List ℕ) → List (List ℕ)
cleared [] values = values
cleared (r ∷ rs) [] = []
cleared (r ∷ rs) (ws ∷ wss) = (if is_computed r.kind then map (λ w. 0) ws else ws) ∷ cleared rs wss

-- what the combinational processes settle in from a state: one pass over them in order
abbrev pub nets_of : Flat → List File → List ℕ → State → List (List ℕ)
nets_of d files order s = pass (run d files s) order s.values

-- each computed signal is what one pass makes of the committed values of the others
pub record HoldNets (d : Flat) (order : List ℕ) (files : List File) (i : Stage) : Type 0 where
  pub over : (k : ℕ) → computed_at d.rows k ≡ true →
      value_of i.state.values k ≡ value_of (pass (run d files i.state) order (cleared d.rows i.committed)) k

-- each computed signal is still 0
pub record NetsAreZero (d : Flat) (i : Stage) : Type 0 where
  pub zero : (k : ℕ) → computed_at d.rows k ≡ true → value_of i.state.values k ≡ 0

-- each bit of a computed signal that no combinational process drives is 0
abbrev pub RestIsZero : Flat → List (List ℕ) → Type 0
RestIsZero d values =
    (b : Place) → computed_at d.rows b.0.signal ≡ true → ((i : ℕ) → i < length d.procs → drives d i b.0 ≡ false) → bit_at values b ≡ 0

-- a computed signal has one word
pub record HasNarrowNets (d : Flat) : Type 0 where
  pub words : (k : ℕ) → computed_at d.rows k ≡ true → is_memory d.rows k ≡ false

-- no process but a combinational one writes a computed signal, also by reading a file
pub record WritesNoNets (d : Flat) : Type 0 where
  pub others : (i : ℕ) → comb_at d i ≡ false → stm_writes (computed_at d.rows) (proc_at d i).body ≡ false

-- nor does a statement of the segment
abbrev pub LeavesNets : Flat → Segment → Type 0
LeavesNets d g = All (λ a. stm_writes (computed_at d.rows) a ≡ false) g.statements

-- behind the segment the wave ends
abbrev pub ends_wave : WayOn → Bool
ends_wave (Commit to) = true
ends_wave on = false

-- the number of the first node of time zero's wave, which stands behind all others
abbrev pub zero_low : Flat → ℕ
zero_low d =
    let falls = blocks is_fall d.procs in
    let from = length (updates falls 0 0) in
    let up = wave_nodes from 1 (bodies (blocks is_rise d.procs)) rising in
    from + length up + length (fall_nodes (from + length up) falls)
